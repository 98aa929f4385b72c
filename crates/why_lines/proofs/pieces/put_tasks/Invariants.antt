use Rattle.std.proofs.Common.{◌≡◌, ◌++◌, drop}
use Rattle.rt_base.specs.TaskNos.{numbers}
use Rattle.why_texts.specs.Pieces.{task_names}
use Rattle.why_lines.specs.GroupSets.{group_in}
use Rattle.why_lines.proofs.pieces.put_tasks.Given as goal

-- what was written, and then the rest of the tasks, are all the tasks
abbrev pub invariant-loop-task : goal.invariant-loop-task
invariant-loop-task l = l.out.items ++ task_names (group_in l.set) (numbers (drop l.task-index l.tasks)) ≡ l.fn.out.items ++ task_names (group_in l.set) (numbers l.tasks)
