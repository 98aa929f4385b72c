use Rattle.group_engine.proofs.ClusterInTurn.{AreToTest}
use Rattle.group_engine.proofs.state.GroupState.update_cluster.Given as goal

abbrev pub invariant-loop-task : goal.invariant-loop-task
invariant-loop-task l = AreToTest l.parts l.home.0 l.task-index l.initial.self l.self
