use Rattle.std.proofs.Common.{◌≡◌}
use Rattle.rt_model.specs.Group.{Group}
use Rattle.trace_views.specs.Moments.{Moment}
use Rattle.chart_rows.specs.Rows as rows
use Rattle.chart_rows.specs.Units.{IsUnitOf}
use Rattle.chart_rows.proofs.Changed.{changed}
use Rattle.chart_rows.proofs.loops.act_each_cpu.Given as goal

-- those so far have taken the act
abbrev pub invariant-loop-row : goal.invariant-loop-row
invariant-loop-row l = (g : Group) (m : Moment) → l.cpu.0 ≡ m.act.cpu → IsUnitOf g m l.unit → l.cpus ≡ changed (rows.cpu_acted g m) l.row-index l.fn.cpus
