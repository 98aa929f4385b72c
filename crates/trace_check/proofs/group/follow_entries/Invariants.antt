use Rattle.std.proofs.Common.{◌-◌, ◌≤◌, List, length}
use Rattle.trace_tools.specs.BusCounters.{counters}
use Rattle.trace_tools.specs.Counters.{Counter}
use Rattle.trace_check.specs.declared.progress.Progress.{Progress}
use Rattle.trace_check.specs.inside.Progress.{IsRight}
use Rattle.trace_check.proofs.group.follow_entries.Given as goal

-- the entries so far are right
abbrev pub invariant-entries : goal.invariant-entries
invariant-entries g l =
    (l.size ≤ length l.text)
    × ((from : Progress) (opened was : List Counter) → IsRight g.P.Player.at g.P.Player.spare l.version l.setup l.text l.fn.group.0 from l.initial.size l.initial.follow
    opened was (counters g.T.TraceTool.tool l.initial.bus) (g.K.Keeper.holds l.initial.keeper l.setup)
    → IsRight g.P.Player.at g.P.Player.spare l.version l.setup l.text l.fn.group.0 from l.size l.follow opened was (counters g.T.TraceTool.tool l.bus) (g.K.Keeper.holds l.keeper l.setup))

abbrev pub decreases-entries : goal.decreases-entries
decreases-entries g l = length l.text - l.size
