use Rattle.std.proofs.Common.{sym, subst, get_or}
use Rattle.std.specs.Str.{IsUtf8}
use Rattle.rt_task.specs.declared.Task.{Task}
use Rattle.trace_read.proofs.known.names_of.Goals as goal

pub text_of-requires : goal.text_of-requires
text_of-requires c =
    let known : IsUtf8 (get_or c.args.tasks.now c.loop-task.task-index c.task-item.result).name = c.requires c.loop-task.task-index c.task-item.result c.loop-task-test.true in
    let here : IsUtf8 c.task-item.result.name = subst (λ (t : Task). IsUtf8 t.name) (sym c.task-item.is) known in
    subst IsUtf8 (sym c.as_slice.ensures) here
