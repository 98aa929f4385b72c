use Rattle.std.proofs.Common.{◌≡◌, map}
use Rattle.rt_task.specs.Draft as spec
use Rattle.set_rules.proofs.accept.tasks_of.Given as goal

abbrev pub invariant-loop-p : goal.invariant-loop-p
invariant-loop-p l = l.found.items ≡ map spec.task_of l.yielded
