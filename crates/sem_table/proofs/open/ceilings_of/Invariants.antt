use Rattle.std.proofs.Common.{◌≡◌, ◌∷◌, map}
use Rattle.rt_rules.specs.Numbers.{numbers_from}
use Rattle.rt_rules.specs.KeyOrder.{lowest_key}
use Rattle.sem_table.specs.Opened.{group_in, prio_ceiling}
use Rattle.sem_table.proofs.open.ceilings_of.Given as goal

-- the ceilings so far
abbrev pub invariant-loop-i : goal.invariant-loop-i
invariant-loop-i l = l.keys.items ≡ lowest_key ∷ map (prio_ceiling (group_in l.parts l.group.0)) (numbers_from 1 l.i)
