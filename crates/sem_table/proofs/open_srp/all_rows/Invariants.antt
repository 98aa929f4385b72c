use Rattle.std.proofs.Common.{◌≡◌, ◌∷◌, map}
use Rattle.rt_rules.specs.Numbers.{numbers_from}
use Rattle.sem_table.specs.Opened.{group_in, srp_row}
use Rattle.sem_table.proofs.open_srp.all_rows.Given as goal

-- the ceilings so far
abbrev pub invariant-loop-i : goal.invariant-loop-i
invariant-loop-i l = l.rows.items ≡ 0 ∷ map (srp_row (group_in l.parts l.group.0)) (numbers_from 1 l.i)
