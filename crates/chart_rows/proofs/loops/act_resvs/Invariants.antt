use Rattle.std.proofs.Common.{◌≡◌, true, All}
use Rattle.rt_rules.specs.Numbers.{has}
use Rattle.chart_texts.specs.Charts.{group_resvs}
use Rattle.rt_model.specs.Group.{Group}
use Rattle.trace_views.specs.Moments.{Moment}
use Rattle.chart_rows.specs.Rows as rows
use Rattle.chart_rows.specs.Units.{IsTold}
use Rattle.chart_rows.proofs.Changed.{changed}
use Rattle.chart_rows.proofs.loops.act_resvs.Given as goal

-- those so far have taken the act
abbrev pub invariant-loop-row : goal.invariant-loop-row
invariant-loop-row l = (g : Group) (m : Moment) → All (λ (k : rows.ResvKept). has k.resv (group_resvs g) ≡ true) l.fn.resvs → IsTold g m l.unit → l.resvs ≡ changed (rows.resv_acted g m) l.row-index l.fn.resvs
