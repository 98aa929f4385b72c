use Rattle.group_core.proofs.Rows.{row-deadline, row-kept}
use Rattle.group_core.proofs.waiting_list.blocked.is_above.Goals as goal

pub is_there-requires : goal.is_there-requires
is_there-requires c = rw c.as_slice.ensures (row-kept c.args.parts.now c.args.jobs.now.kept c.args.cluster.0 c.requires.task.0 c.args.task.now c.requires.can c.requires.task.1 c.requires.task.2 c.if-task-cluster.false)

pub base_key-requires-clause-task : goal.base_key-requires-clause-task
base_key-requires-clause-task c = row-kept c.args.parts.now c.args.jobs.now.kept c.args.cluster.0 c.requires.task.0 c.args.task.now c.requires.can c.requires.task.1 c.requires.task.2 c.if-task-cluster.false

pub base_key-requires-clause-deadline : goal.base_key-requires-clause-deadline
base_key-requires-clause-deadline c = row-deadline c.args.parts.now c.args.jobs.now.kept c.args.cluster.0 c.requires.task.0 c.args.task.now c.requires.can c.requires.task.1 c.requires.task.2
