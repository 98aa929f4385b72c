use Rattle.std.proofs.Common.{◌≡◌, map}
use Rattle.rt_rules.specs.Numbers.{numbers_from}
use Rattle.sem_table.specs.Opened.{group_in, new_srp}
use Rattle.sem_table.proofs.open_srp.all_sets.Given as goal

-- the sets so far
abbrev pub invariant-loop-i : goal.invariant-loop-i
invariant-loop-i l = l.sets.items ≡ map (new_srp (group_in l.parts l.group.0)) (numbers_from 0 l.i)
