-- A unit of work with what was so before it, as the definitions have it.
use Rattle.std.specs.Prelude.{◌≡◌, ℕ, true, false, List, map, Option, None, Some, option_map}
use Rattle.rt_base.specs.TaskNos.{number_of_task}
use Rattle.rt_base.specs.declared.ResvNo.{ResvNo}
use Rattle.rt_rules.specs.Numbers.{has, is}
use Rattle.rt_model.specs.Group.{Group, clients}
use Rattle.rt_model.specs.Links.{linked}
use Rattle.rt_model.specs.Reservations.{left}
use Rattle.trace_views.specs.Cells.{cell_at, is_client}
use Rattle.trace_views.specs.Cells as cells
use Rattle.trace_views.specs.Moments.{Moment, is_unit}
use Rattle.chart_texts.specs.Charts.{group_resvs}
use Rattle.chart_cells.specs.Cells.{cell_shown}
use Rattle.chart_rows.specs.declared.units.Unit.{Unit}

abbrev pub number_of_resv : Option ResvNo → Option ℕ
number_of_resv o = option_map (λ (r : ResvNo). r.0) o

abbrev pub resv_numbers : List ResvNo → List ℕ
resv_numbers rs = map (λ (r : ResvNo). r.0) rs

pub record IsUnitOf (g : Group) (m : Moment) (u : Unit) : Type 0 where
  pub is_done : is_unit m ≡ true
  pub task_is : m.act.task ≡ Some u.task.0
  pub cell_is : cell_shown u.cell ≡ cell_at g cells.ready u.task.0 m.before
  pub link_is : number_of_task u.link ≡ linked g m.act.cpu m.before
  pub client_is : (r : ℕ) → has r (group_resvs g) ≡ true → is_client g (clients g r) m.act.task ≡ is r (number_of_resv u.resv)
  pub left_is : (r : ℕ) → has r (group_resvs g) ≡ true → is r (number_of_resv u.resv) ≡ true → u.left ≡ left g r m.before

-- where the act is none, there is none
abbrev pub IsTold : Group → Moment → Option Unit → Type 0
IsTold g m None = is_unit m ≡ false
IsTold g m (Some u) = IsUnitOf g m u
