use Rattle.cluster_table.proofs.FirstTasks.{distinct-first_tasks}
use Rattle.cluster_table.proofs.placing.place_all.Goals as goal

pub place-requires-clause-distinct : goal.place-requires-clause-distinct
place-requires-clause-distinct c = rw (c.as_slice.ensures.value, c.copy_first.ensures.first) (distinct-first_tasks c.args.queue.now.most c.args.queue.now.keys)
