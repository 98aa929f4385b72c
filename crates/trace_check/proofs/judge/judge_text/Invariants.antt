use Rattle.trace_tools.specs.BusCounters.{counters}
use Rattle.trace_check.specs.Keeping.{Between}
use Rattle.trace_check.specs.inside.Progress.{AreKept}
use Rattle.trace_check.proofs.judge.judge_text.Given as goal

-- the text is right so far, and no group is open
abbrev pub invariant-loop-n : goal.invariant-loop-n
invariant-loop-n g l = AreKept l.version l.setup l.text l.n l.right (counters g.T.TraceTool.tool l.initial.bus) (counters g.T.TraceTool.tool l.bus) (Between (g.K.Keeper.holds l.keeper l.setup))
