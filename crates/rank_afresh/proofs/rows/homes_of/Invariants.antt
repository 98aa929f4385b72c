use Rattle.std.proofs.Common.{◌≡◌, ◌++◌, drop}
use Rattle.rank_afresh.specs.Homes.{homes_from}
use Rattle.rank_afresh.proofs.rows.homes_of.Given as goal

-- the positions so far, and those of the processors that are left
abbrev pub invariant-loop-position : goal.invariant-loop-position
invariant-loop-position l = l.homes.items ++ homes_from l.position (drop l.position l.rows) ≡ homes_from 0 l.rows
