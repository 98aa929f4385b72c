use Rattle.std.proofs.Common.{ℕ, ◌<◌}
use Rattle.rt_plays.specs.Homes.{IsProcessorOf}
use Rattle.trace_course.specs.Followed.{ArePassed, IsDone, GroupEntries}
use Rattle.trace_course.proofs.scripts.Scripts.are_over.Given as goal

-- the processors that were passed have no step left
abbrev pub invariant-loop-q : goal.invariant-loop-q
invariant-loop-q l = (at : GroupEntries) → ArePassed at l.steps l.self → (q : ℕ) → q < l.q → IsProcessorOf at.group q → IsDone at.group at.entries q
