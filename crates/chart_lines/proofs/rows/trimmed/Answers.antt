use Rattle.std.proofs.Common.{◌∙◌, arith}
use Rattle.chart_lines.proofs.Trims.{trimmed-ends, trimmed-none, trimmed-shorter}
use Rattle.chart_lines.proofs.rows.trimmed.Goals as goal
use Rattle.chart_lines.proofs.rows.trimmed.Goals.{then-loop-end-test+else-text-end-eq32, else-loop-end-test}

pub loop-end-preserved : goal.loop-end-preserved
loop-end-preserved c = record {
  within = omega (arith, c.loop-end.invariant.within);
  same = trimmed-shorter c.args.text.now c.loop-end.end c.loop-end-test.true c.loop-end.invariant.within c.if-text-end-eq32.true ∙ c.loop-end.invariant.same;
}

pub returns : goal.returns
returns c = elim c.loop-end-test.branch [
  | then-loop-end-test+else-text-end-eq32 w ↦ trimmed-ends c.args.text.now c.loop-end.end w.loop-end-test.true c.loop-end.invariant.within w.if-text-end-eq32.false ∙ c.loop-end.invariant.same
  | else-loop-end-test w ↦ trimmed-none c.args.text.now c.loop-end.end w.loop-end-test.false ∙ c.loop-end.invariant.same
]
