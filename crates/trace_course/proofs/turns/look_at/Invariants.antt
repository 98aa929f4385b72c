use Rattle.std.proofs.Common.{[], take}
use Rattle.rt_task.specs.declared.Step.{Step}
use Rattle.rt_model.specs.Histories.{after}
use Rattle.rt_model.specs.Past.{Past}
use Rattle.rank_afresh.specs.Standing.{IsAt, group_of}
use Rattle.body_play.specs.Turns.{AreLooked, numbers_of}
use Rattle.trace_course.proofs.turns.look_at.Given as goal

-- the processors that were passed were looked at
abbrev pub invariant-loop-cpu : goal.invariant-loop-cpu
invariant-loop-cpu l =
    (past : Past) (step : Step) → IsAt l.afresh (after (group_of l.afresh) step past) → AreLooked (group_of l.afresh) past step [] l.initial.turns
    → AreLooked (group_of l.afresh) past step (numbers_of (take l.cpu-index l.cpus)) l.turns
