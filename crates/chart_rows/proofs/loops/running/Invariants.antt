use Rattle.std.proofs.Common.{◌≡◌, map, take}
use Rattle.rt_model.specs.Group.{Group}
use Rattle.chart_cells.specs.Cells.{cpu_numbers}
use Rattle.chart_rows.specs.inside.Plays.{played_shown}
use Rattle.chart_rows.specs.Rows as rows
use Rattle.chart_rows.proofs.loops.running.Given as goal

-- those among the first
abbrev pub invariant-loop-played : goal.invariant-loop-played
invariant-loop-played l = (g : Group) → cpu_numbers l.cpus.items ≡ rows.running g l.task.0 (map played_shown (take l.played-index l.plays))
