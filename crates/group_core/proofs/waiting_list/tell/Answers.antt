use Rattle.group_core.proofs.Rows.{item-has}
use Rattle.group_core.proofs.waiting_list.tell.Goals as goal

pub is_among_first-blocked-requires : goal.is_among_first-blocked-requires
is_among_first-blocked-requires c = c.requires.can _ (item-has c.args.tasks.now c.loop-task.task-index _ c.loop-task-test.true)
