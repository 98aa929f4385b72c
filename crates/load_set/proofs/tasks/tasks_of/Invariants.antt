use Rattle.std.proofs.Common.{◌≡◌, ◌+◌, ◌-◌, ◌++◌}
use Rattle.load_set.specs.Load.{tasks_from}
use Rattle.load_set.proofs.tasks.tasks_of.Given as goal

abbrev pub invariant-loop-i : goal.invariant-loop-i
invariant-loop-i l = l.tasks.items ++ tasks_from (l.count - l.i) (l.i + 1) l.at ≡ tasks_from l.count 1 l.state
