use Rattle.std.proofs.Common.{◌≡◌, length, arith}
use Rattle.chart_cells.specs.Charts.{cpu_row_shown}
use Rattle.chart_texts.specs.Charts.{cpu_row_in}
use Rattle.chart_feed.specs.inside.Panels.{IsCpuRow}
use Rattle.chart_rows.specs.Rows.{CpuKept}
use Rattle.chart_feed.proofs.Paneled.{made-all-of, made-more, made-none}
use Rattle.chart_feed.proofs.panel.finish_cpus.Goals as goal

pub loop-row-init : goal.loop-row-init
loop-row-init c = λ g cs. made-none (IsCpuRow g cs) cpu_row_shown (λ (k : CpuKept). cpu_row_in g cs k.cpu) c.args.rows.items c.into_iter-row-iterator.result.rest.items c.new-made.result.items
    c.into_iter-row-iterator.ensures.into_iter_gives.0 c.new-made.ensures.items

pub loop-row-preserved : goal.loop-row-preserved
loop-row-preserved c = λ g cs h.
    made-more (IsCpuRow g cs) cpu_row_shown (λ (k : CpuKept). cpu_row_in g cs k.cpu) c.args.rows.items c.loop-row.row-iterator.rest.items c.loop-row.made.items
    c.in-Some.row c.next.new.self.rest.items c.cpu_row.result c.push.new.self.items c.in-Some.ensures.steps.0 (c.cpu_row.ensures g cs) c.in_ok-push.ensures.items (c.loop-row.invariant g cs h)

pub returns : goal.returns
returns c = λ g cs h.
    let none : length c.loop-row.row-iterator.rest.items ≡ 0 = omega (arith, c.in-None.ensures.steps.0, c.loop-row.row-iterator.rest.ok.0) in
    made-all-of (IsCpuRow g cs) cpu_row_shown (λ (k : CpuKept). cpu_row_in g cs k.cpu) c.args.rows.items c.loop-row.row-iterator.rest.items c.loop-row.made.items none (c.loop-row.invariant g cs h)
