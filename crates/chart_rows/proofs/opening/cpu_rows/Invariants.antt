use Rattle.std.proofs.Common.{◌≡◌, [], map, take}
use Rattle.chart_cells.specs.Cells.{cpu_numbers}
use Rattle.rt_model.specs.Group.{Group}
use Rattle.chart_rows.specs.Rows.{cpu_kept}
use Rattle.chart_rows.specs.Strips.{blank}
use Rattle.chart_rows.proofs.opening.cpu_rows.Given as goal

-- the rows of those so far
abbrev pub invariant-loop-cpu : goal.invariant-loop-cpu
invariant-loop-cpu l = (g : Group) → l.rows.items ≡ map (cpu_kept g [] blank) (cpu_numbers (take l.cpu-index l.cpus))
