use Rattle.std.proofs.Common.{◌≡◌, map}
use Rattle.rt_rules.specs.Numbers.{numbers_from}
use Rattle.sem_table.specs.Opened.{group_in, pcp_home}
use Rattle.sem_table.proofs.open.pcp_homes.Given as goal

-- the clusters so far
abbrev pub invariant-loop-i : goal.invariant-loop-i
invariant-loop-i l = l.homes.items ≡ map (pcp_home (group_in l.parts l.group.0)) (numbers_from 1 l.i)
