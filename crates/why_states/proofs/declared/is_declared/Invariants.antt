use Rattle.std.proofs.Common.{◌≡◌, drop, not}
use Rattle.std.specs.Prelude.{filter}
use Rattle.rt_base.specs.TaskNos.{numbers}
use Rattle.rt_rules.specs.Numbers.{is_empty}
use Rattle.rt_model.specs.Group.{declares}
use Rattle.why_lines.specs.GroupSets.{group_in}
use Rattle.why_states.proofs.declared.is_declared.Given as goal

-- the rest answers as the whole
abbrev pub invariant-loop-task : goal.invariant-loop-task
invariant-loop-task l = is_empty (filter (λ t. declares (group_in l.set) t l.sem.0) (numbers (drop l.task-index l.tasks))) ≡ is_empty (filter (λ t. declares (group_in l.set) t l.sem.0) (numbers l.tasks))
