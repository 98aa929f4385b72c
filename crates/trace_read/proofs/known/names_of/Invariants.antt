use Rattle.std.proofs.Common.{◌≡◌, ◌++◌, map, drop}
use Rattle.trace_lines.specs.Known.{task_names}
use Rattle.trace_read.proofs.known.names_of.Given as goal

-- the names so far, and those of the tasks that are left, are the names
abbrev pub invariant-loop-task : goal.invariant-loop-task
invariant-loop-task l = map (λ w. w.now) l.names.items ++ task_names (drop l.task-index l.tasks) ≡ task_names l.tasks
