use Rattle.group_engine.proofs.DueAgain.{due_count}
use Rattle.group_engine.proofs.DueInTurn.{AreInTurn}
use Rattle.group_engine.proofs.state.GroupState.update_due.Given as goal

abbrev pub invariant-loop-task : goal.invariant-loop-task
invariant-loop-task l = AreInTurn l.parts l.initial.self l.self

abbrev pub decreases-loop-task : goal.decreases-loop-task
decreases-loop-task l = due_count l.clock.0 l.self.timers
