use Rattle.std.proofs.Common.{◌≡◌, map, take}
use Rattle.rt_task.specs.Draft as spec
use Rattle.rt_task.specs.declared.Task.{Task}
use Rattle.set_rules.proofs.make.tasks_of.Given as goal

abbrev pub invariant-loop-t : goal.invariant-loop-t
invariant-loop-t l = l.found.items ≡ map (λ (t : Task). spec.draft_task t (spec.runs t.body)) (take l.t-index l.tasks)
