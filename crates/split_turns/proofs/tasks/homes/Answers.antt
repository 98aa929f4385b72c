use Rattle.split_rules.specs.SemHistories.{seat_of}
use Rattle.rt_plays.specs.Plays.{group_with}
use Rattle.split_turns.proofs.ListLaws.{mapped-more}
use Rattle.split_turns.proofs.tasks.homes.Goals as goal

pub loop-task-preserved : goal.loop-task-preserved
loop-task-preserved c = mapped-more (λ t. seat_of (group_with c.args.parts.now 0) t) c.loop-task.task _ _ _ c.in_ok-push.ensures.items c.loop-task.invariant c.home_of.ensures
