use Rattle.group_engine.proofs.GroupInTurn.{AreToCome}
use Rattle.group_engine.proofs.state.GroupState.update_group.Given as goal

abbrev pub invariant-loop-task : goal.invariant-loop-task
invariant-loop-task l = AreToCome l.parts l.group.0 l.task-index l.initial.self l.self
