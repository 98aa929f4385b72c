use Rattle.std.proofs.Common.{◌≡◌, ◌++◌, replicate}
use Rattle.set_plays.proofs.groups.put_group.Given as goal

abbrev pub invariant-loop : goal.invariant-loop
invariant-loop l = l.groups.items ≡ l.fn.groups.items ++ replicate l.counter l.group
