use Rattle.std.proofs.Common.{◌≡◌, take}
use Rattle.chart_cells.specs.Cells.{sem_numbers}
use Rattle.chart_cells.proofs.same.same_sems.Given as goal

-- those so far are the same
abbrev pub invariant-loop-i : goal.invariant-loop-i
invariant-loop-i l = sem_numbers (take l.i l.a) ≡ sem_numbers (take l.i l.b)
