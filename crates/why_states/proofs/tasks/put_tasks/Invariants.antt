use Rattle.std.proofs.Common.{◌≡◌, ◌++◌, drop}
use Rattle.std.specs.Prelude.{flat_map}
use Rattle.rt_base.specs.TaskNos.{numbers}
use Rattle.rt_model.specs.Past.{Past}
use Rattle.why_texts.specs.TaskLines.{task_line}
use Rattle.why_states.specs.States.{IsAt, group_of}
use Rattle.why_states.proofs.tasks.put_tasks.Given as goal

-- what was written, and then the lines of the rest, are those of all
abbrev pub invariant-loop-task : goal.invariant-loop-task
invariant-loop-task l = (past : Past) → IsAt past l.state → l.out.items ++ flat_map (λ n. task_line (group_of l.state) n past) (numbers (drop l.task-index l.state.tasks.now)) ≡ l.initial.out.items ++ flat_map (λ n. task_line (group_of l.state) n past) (numbers l.state.tasks.now)
