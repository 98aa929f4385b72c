use Rattle.std.proofs.Common.{◌≡◌, [], map, take}
use Rattle.chart_rows.specs.Units.{resv_numbers}
use Rattle.rt_model.specs.Group.{Group}
use Rattle.chart_rows.specs.Rows.{resv_kept}
use Rattle.chart_rows.specs.Strips.{blank}
use Rattle.chart_rows.proofs.opening.resv_rows.Given as goal

-- the rows of those so far
abbrev pub invariant-loop-resv : goal.invariant-loop-resv
invariant-loop-resv l = (g : Group) → l.rows.items ≡ map (resv_kept g [] blank) (resv_numbers (take l.resv-index l.resvs))
