use Rattle.std.proofs.Common.{◌≡◌, take}
use Rattle.chart_cells.specs.Cells.{cpu_numbers}
use Rattle.chart_cells.proofs.same.same_cpus.Given as goal

-- those so far are the same
abbrev pub invariant-loop-i : goal.invariant-loop-i
invariant-loop-i l = cpu_numbers (take l.i l.a) ≡ cpu_numbers (take l.i l.b)
