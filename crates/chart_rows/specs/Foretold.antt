-- A unit that is foretold, in the state before an act whose reply is not known yet.
use Rattle.std.specs.Prelude.{◌≡◌, ℕ, true, false, Option, None, Some, if◌then◌else◌}
use Rattle.rt_task.specs.declared.Act.{Act}
use Rattle.rt_rules.specs.Numbers.{has}
use Rattle.rt_model.specs.Group.{Group, served_by}
use Rattle.rt_model.specs.Outcomes.{past_act}
use Rattle.rt_model.specs.Past.{Past}
use Rattle.trace_views.specs.Moments.{Moment, is_unit}
use Rattle.chart_texts.specs.Charts.{group_resvs}
use Rattle.chart_rows.specs.Units.{IsUnitOf}
use Rattle.chart_rows.specs.declared.units.Unit.{Unit}

-- the act of a processor, with the state before it
abbrev pub moment_of : Group → ℕ → Act → Past → Moment
moment_of g q act past = record { act = past_act g q act past; before = past }

-- the reservation of the group that serves a task
abbrev pub server : Group → ℕ → Option ℕ
server g t = if has (served_by g t) (group_resvs g) then Some (served_by g t) else None

-- none where it can be no unit, and else its unit if it is one
abbrev pub IsForetold : Group → Moment → Option Unit → Type 0
IsForetold g m None = is_unit m ≡ false
IsForetold g m (Some u) = is_unit m ≡ true → IsUnitOf g m u
