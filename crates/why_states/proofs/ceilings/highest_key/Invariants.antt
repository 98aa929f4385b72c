use Rattle.std.proofs.Common.{◌≡◌, drop, map}
use Rattle.std.specs.Prelude.{filter}
use Rattle.rt_base.specs.TaskNos.{numbers}
use Rattle.rt_rules.specs.Keys.{highest}
use Rattle.rt_model.specs.Group.{declares}
use Rattle.why_lines.specs.GroupSets.{group_in}
use Rattle.why_states.specs.inside.Keys.{highest_of, key_of_priority}
use Rattle.why_states.proofs.ceilings.highest_key.Given as goal

-- the highest so far, and the rest
abbrev pub invariant-loop-task : goal.invariant-loop-task
invariant-loop-task l = highest l.highest (map (key_of_priority (group_in l.set)) (filter (λ t. declares (group_in l.set) t l.sem.0) (numbers (drop l.task-index l.tasks)))) ≡ highest_of (group_in l.set) l.sem.0 (numbers l.tasks)
