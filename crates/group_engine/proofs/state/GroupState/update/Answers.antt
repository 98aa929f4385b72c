use Rattle.group_engine.proofs.Updating.{can-requeued}
use Rattle.group_engine.proofs.state.GroupState.update.Goals as goal

pub rearm_timer-requires : goal.rearm_timer-requires
rearm_timer-requires c = rw c.requeue.ensures (can-requeued c.args.parts.now c.args.task.0 c.args.task.0 c.args.self.now c.requires)
