use Rattle.std.proofs.Common.{◌≡◌, map}
use Rattle.std.specs.Prelude.{filter}
use Rattle.rt_base.specs.TaskNos.{numbers}
use Rattle.rt_rules.specs.Numbers.{numbers_from}
use Rattle.rt_model.specs.Group.{home, in_group}
use Rattle.why_lines.specs.GroupSets.{group_in}
use Rattle.why_lines.proofs.lists.tasks_of.Given as goal

-- the tasks so far
abbrev pub invariant-loop-i : goal.invariant-loop-i
invariant-loop-i l = numbers l.tasks.items ≡ map (λ n. n) (filter (λ t. in_group (group_in l.set) (home (group_in l.set) t)) (numbers_from 1 l.i))
