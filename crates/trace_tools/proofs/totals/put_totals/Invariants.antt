use Rattle.std.proofs.Common.{◌≡◌, ◌-◌, ◌++◌, take}
use Rattle.rt_base.specs.declared.TheConstants.{MOST_TOTALS}
use Rattle.trace_tools.specs.Tools.{totals, totals_from}
use Rattle.trace_tools.proofs.totals.put_totals.Given as goal

abbrev pub invariant-loop-i : goal.invariant-loop-i
invariant-loop-i g l = take l.i l.numbers ++ totals_from (MOST_TOTALS - l.i) l.i (g.T.TraceTool.tool l.tool) ≡ totals (g.T.TraceTool.tool l.tool)
