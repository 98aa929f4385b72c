use Rattle.std.proofs.Common.{◌≡◌, map, take}
use Rattle.rt_task.specs.Draft as spec
use Rattle.set_rules.proofs.make.steps_of.Given as goal

abbrev pub invariant-loop-s : goal.invariant-loop-s
invariant-loop-s l = l.found.items ≡ map spec.draft_step (take l.s-index l.steps)
