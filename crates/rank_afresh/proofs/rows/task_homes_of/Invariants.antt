use Rattle.std.proofs.Common.{◌≡◌, take}
use Rattle.rank_afresh.specs.Homes.{task_homes}
use Rattle.rank_afresh.proofs.rows.task_homes_of.Given as goal

-- the positions of the tasks so far
abbrev pub invariant-loop-row : goal.invariant-loop-row
invariant-loop-row l = l.homes.items ≡ task_homes (take l.row-index l.rows)
