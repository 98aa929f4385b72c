use Rattle.rt_model.specs.Group.{task}
use Rattle.rt_plays.specs.Plays.{group_with}
use Rattle.split_turns.proofs.ListLaws.{mapped-more}
use Rattle.split_turns.proofs.tasks.prios.Goals as goal

pub loop-task-preserved : goal.loop-task-preserved
loop-task-preserved c = mapped-more (λ t. (task (group_with c.args.parts.now 0) t).prio) c.loop-task.task _ _ _ c.in_ok-push.ensures.items c.loop-task.invariant c.prio_of.ensures
