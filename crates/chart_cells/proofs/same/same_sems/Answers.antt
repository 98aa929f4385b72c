use Rattle.std.proofs.Common.{◌∙◌, sym}
use Rattle.rt_base.specs.declared.SemNo.{SemNo}
use Rattle.chart_cells.proofs.Sameness.{items-differ, items-more, items-same, lengths-differ}
use Rattle.chart_cells.proofs.same.same_sems.Goals as goal

pub returns-then-a-b : goal.returns-then-a-b
returns-then-a-b c = lengths-differ (λ (x : SemNo). x.0) c.args.a.now c.args.b.now c.if-a-b.true

pub returns-then-ne : goal.returns-then-ne
returns-then-ne c =
    items-differ (λ (x : SemNo). x.0) c.args.a.now c.args.b.now c.if-a-b.false c.loop-i.i (record { 0 = 0 }) c.loop-i-test.true (sym c.ne.ensures ∙ c.if-ne.true)

pub loop-i-preserved : goal.loop-i-preserved
loop-i-preserved c =
    items-more (λ (x : SemNo). x.0) c.args.a.now c.args.b.now c.if-a-b.false c.loop-i.i (record { 0 = 0 }) c.loop-i-test.true c.loop-i.invariant (sym c.ne.ensures ∙ c.if-ne.false)

pub returns : goal.returns
returns c = items-same (λ (x : SemNo). x.0) c.args.a.now c.args.b.now c.if-a-b.false c.loop-i.i c.loop-i-test.false c.loop-i.invariant
