use Rattle.std.proofs.Common.{◌≡◌, map, not}
use Rattle.std.specs.Prelude.{filter}
use Rattle.rt_rules.specs.Numbers.{is_empty, numbers_from}
use Rattle.rt_model.specs.Group.{users}
use Rattle.why_lines.specs.GroupSets.{group_in}
use Rattle.why_lines.specs.SemNos.{sem_numbers}
use Rattle.why_states.proofs.declared.sems_of.Given as goal

-- the semaphores so far
abbrev pub invariant-loop-i : goal.invariant-loop-i
invariant-loop-i l = sem_numbers l.sems.items ≡ map (λ n. n) (filter (λ s. not (is_empty (users (group_in l.set) s))) (numbers_from 1 l.i))
