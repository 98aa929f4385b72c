use Rattle.std.proofs.Common.{◌≡◌, ℕ, List, [], take, drop}
use Rattle.std.specs.List.{list_any}
use Rattle.std.specs.Prelude.{bytes_eq}
use Rattle.rt_task.specs.declared.draft.DraftTask.{DraftTask}
use Rattle.rt_task.specs.NameRules as rules
use Rattle.set_rules.specs.inside.NamesSeen.{has_name}
use Rattle.rt_task.specs.Refusals.{first_failing}
use Rattle.set_rules.proofs.rules.name.tasks_named.Given as goal

-- the first failing of what is left is that of all; the names so far
abbrev pub invariant-loop-i : goal.invariant-loop-i
invariant-loop-i l = record {
  rest : first_failing (rules.task_name l.d) (take l.i l.tasks) (drop l.i l.tasks) ≡ first_failing (rules.task_name l.d) [] l.tasks;
  names : (w : List ℕ) → has_name l.names w ≡ list_any (λ (x : DraftTask). bytes_eq x.name w) (take l.i l.tasks);
}
