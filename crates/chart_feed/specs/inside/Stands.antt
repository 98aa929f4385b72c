-- A group at a past, whose rows are of some columns.
use Rattle.std.specs.Prelude.{◌≡◌, ℕ, Bool, true, List, ◌∷◌, Option}
use Rattle.rt_model.specs.Past.{Acted, Clock, Past, PastAct, now}
use Rattle.rank_afresh.specs.Standing.{IsAt, Standing, group_of}
use Rattle.chart_texts.specs.declared.window.Axis.{Axis}
use Rattle.chart_texts.specs.declared.window.Window.{Window}
use Rattle.chart_rows.specs.Rows.{RowsKept, rows_of}
use Rattle.chart_rows.specs.Strips.{Strip}
use Rattle.chart_feed.specs.WindowStrips.{closed, has_begun, is_in, open_moved, open_turned, position}
use Rattle.chart_rows.specs.Units.{IsTold}
use Rattle.chart_rows.specs.declared.units.Unit.{Unit}

-- it stands at this past and clock, and the rows are of columns that are over and of one that goes on
pub record HasRows (v : Standing) (past : Past) (clock : ℕ) (over : List Strip) (going : Strip) (rows : RowsKept) : Type 0 where
  pub at : IsAt v past
  pub clock_is : clock ≡ now past
  pub rows_are : rows ≡ rows_of (group_of v) over going

-- the clock was moved to a tick, and the rows are of the columns before; or an act was done, and they are of those until then; the column
-- of the move is in the window or not, and had states before it or not
pub record CanSee (v : Standing) (axis : Axis) (w : Window) (tick : ℕ) (past : Past) (inside begun : Bool) (rows : RowsKept) :
    Type 0 where
  pub at : IsAt v (Clock tick ∷ past)
  pub inside_is : inside ≡ is_in w (position axis (Clock tick ∷ past))
  pub begun_is : begun ≡ has_begun axis tick past
  pub rows_are : rows ≡ rows_of (group_of v) (closed axis w (Clock tick ∷ past)) (open_turned axis w tick past)

pub record CanAct (v : Standing) (axis : Axis) (w : Window) (past : Past) (act : PastAct) (inside : Bool) (unit : Option Unit)
    (rows : RowsKept) : Type 0 where
  pub at : IsAt v (Acted act ∷ past)
  pub inside_is : inside ≡ is_in w (position axis past)
  pub told : inside ≡ true → IsTold (group_of v) (record { act = act; before = past }) unit
  pub rows_are : rows ≡ rows_of (group_of v) (closed axis w past) (open_moved axis w past)
