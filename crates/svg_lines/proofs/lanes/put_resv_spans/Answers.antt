use Rattle.svg_texts.specs.CpuRows as cpu_rows
use Rattle.svg_lines.specs.Shown.{part_shown}
use Rattle.svg_lines.proofs.Runs.{span-drawn}
use Rattle.svg_lines.proofs.lanes.put_resv_spans.Goals as goal

pub loop-from-preserved : goal.loop-from-preserved
loop-from-preserved c = record {
  within = c.run_end-to.ensures.within;
  text = span-drawn part_shown (λ n. cpu_rows.draw_resv_part c.args.budget n) c.args.edge c.args.y c.args.parts.now c.loop-from.from c.run_end-to.result c.index-parts-from.result c.area.result.y c.area.result.x c.area.result.w _ _ _ c.run_end-to.ensures.run c.index-parts-from.is c.loop-from-test.true c.area.ensures.y c.area.ensures.x c.area.ensures.w c.in_ok-put_resv_part.ensures c.loop-from.invariant.text;
}
