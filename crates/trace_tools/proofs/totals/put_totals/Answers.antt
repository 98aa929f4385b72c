use Rattle.std.proofs.Common.{◌≡◌, ◌∙◌, ℕ, ap, arith, sym, take}
use Rattle.rt_base.specs.declared.TheConstants.{MOST_TOTALS}
use Rattle.trace_tools.specs.Tools.{totals}
use Rattle.trace_tools.proofs.TotalLaws.{totals-all, totals-begin, totals-next, totals-stop}
use Rattle.trace_tools.proofs.totals.put_totals.Goals as goal

pub loop-i-init : goal.loop-i-init
loop-i-init g c = totals-begin (g.T.TraceTool.tool c.args.tool.now) c.args.numbers.now

pub loop-i-preserved : goal.loop-i-preserved
loop-i-preserved g c = totals-next (g.T.TraceTool.tool c.args.tool.now) c.loop-i.numbers MOST_TOTALS c.loop-i.i c.in-Some.n c.loop-i-test.true (c.loop-i.auto.numbers ∙ c.requires) (sym c.total.ensures ∙ c.in-Some.is) c.loop-i.invariant

pub returns-in-None-clause-totals : goal.returns-in-None-clause-totals
returns-in-None-clause-totals g c = totals-stop (g.T.TraceTool.tool c.args.tool.now) c.loop-i.numbers MOST_TOTALS c.loop-i.i c.loop-i-test.true (sym c.total.ensures ∙ c.in-None.is) c.loop-i.invariant

pub returns-clause-totals : goal.returns-clause-totals
returns-clause-totals g c =
    let at_end : c.loop-i.i ≡ MOST_TOTALS = omega (arith, c.loop-i.auto.i-end, c.loop-i-test.false) in
    let all : take c.loop-i.i c.loop-i.numbers ≡ totals (g.T.TraceTool.tool c.args.tool.now) = totals-all (g.T.TraceTool.tool c.args.tool.now) c.loop-i.numbers MOST_TOTALS c.loop-i.i c.loop-i-test.false c.loop-i.invariant in
    ap (λ (i : ℕ). take i c.loop-i.numbers) (sym at_end) ∙ all
