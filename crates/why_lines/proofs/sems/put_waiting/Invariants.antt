use Rattle.std.proofs.Common.{◌≡◌, ◌++◌, drop}
use Rattle.rt_base.specs.TaskNos.{numbers}
use Rattle.why_texts.specs.SemLines.{waiting_piece}
use Rattle.why_lines.specs.GroupSets.{group_in}
use Rattle.why_lines.proofs.sems.put_waiting.Given as goal

-- what was written, and then the rest of the tasks, are all the tasks
abbrev pub invariant-loop-task : goal.invariant-loop-task
invariant-loop-task l = l.out.items ++ waiting_piece (group_in l.set) (numbers (drop l.task-index l.tasks)) ≡ l.fn.out.items ++ waiting_piece (group_in l.set) (numbers l.tasks)
