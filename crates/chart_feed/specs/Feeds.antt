-- What is kept of a group for a chart of it, as its moves go on.
use Rattle.std.specs.Prelude.{◌≡◌, ℕ, suc, true, List, ◌∷◌, length, Option}
use Rattle.rt_model.specs.Group.{Group}
use Rattle.rt_model.specs.Past.{Acted, Clock, Past, PastAct, now}
use Rattle.rank_afresh.specs.Standing.{IsAt, Standing, group_of}
use Rattle.trace_views.specs.Moments.{Moment}
use Rattle.chart_texts.specs.declared.window.Axis.{Axis}
use Rattle.chart_texts.specs.declared.window.Window.{Window}
use Rattle.chart_rows.specs.Foretold.{IsForetold}
use Rattle.chart_rows.specs.Rows.{rows_of}
use Rattle.chart_rows.specs.Strips.{Strip}
use Rattle.chart_rows.specs.declared.units.Unit.{Unit}
use Rattle.chart_feed.specs.Clocks.{Keeps}
use Rattle.chart_feed.specs.EntryClocks.{clocks_in, entry_clocks}
use Rattle.chart_feed.specs.Finished.{EndsInAct}
use Rattle.chart_feed.specs.WindowStrips.{closed, has_begun, is_in, open_at, open_moved, open_turned, position}
use Rattle.chart_feed.specs.declared.feed.Feed.{Feed}

-- a group stands at a past, whose clock is this one
pub record IsClocked (v : Standing) (clock : ℕ) (past : Past) : Type 0 where
  pub at : IsAt v past
  pub clock_is : clock ≡ now past

module _ (axis : Axis) (w : Window) (g : Group) where
  -- the rows are of columns that are over and of one that goes on, as the axis and the window have them; the clocks are of a past of
  -- whole steps
  pub record Holds (past : Past) (over : Axis → Window → List Strip) (going : Axis → Window → Strip) (f : Feed) : Type 0 where
    pub axis_is : f.axis ≡ axis
    pub window_is : f.window ≡ w
    pub rows_are : f.rows ≡ rows_of g (over f.axis f.window) (going f.axis f.window)
    pub tasks_there : length f.tasks.items ≡ suc (length g.setup.tasks)
    pub clocks_are : Keeps f.tasks.items past
    pub entries_are : f.entries ≡ clocks_in f.window (entry_clocks past)
    pub whole : EndsInAct past

  -- whole steps were taken; the clock is about to be moved to a tick, which ends the columns before it; and it was
  abbrev pub IsFed : Past → Feed → Type 0
  IsFed past f = Holds past (λ a x. closed a x past) (λ a x. open_at a x past) f

  abbrev pub IsTurned : ℕ → Past → Feed → Type 0
  IsTurned tick past f =
      Holds past (λ a x. closed a x (Clock tick ∷ past)) (λ a x. open_turned a x tick past) f × (f.begun ≡ has_begun f.axis tick past)

  abbrev pub IsMoved : ℕ → Past → Feed → Type 0
  IsMoved tick past f = Holds past (λ a x. closed a x (Clock tick ∷ past)) (λ a x. open_moved a x (Clock tick ∷ past)) f

  -- of an act in a column of the window, its unit was foretold
  abbrev pub IsExpected : Moment → Option Unit → Type 0
  IsExpected m unit = is_in w (position axis m.before) ≡ true → IsForetold g m unit

module _ (axis : Axis) (w : Window) where
  -- an act was done after the clock was moved, and is to be taken, with its unit as it was foretold
  pub record IsActed (v : Standing) (clock : ℕ) (act : PastAct) (tick : ℕ) (past : Past) (unit : Option Unit) (f : Feed) : Type 0 where
    pub clocked : IsClocked v clock (Acted act ∷ Clock tick ∷ past)
    pub expected : IsExpected axis w (group_of v) (record { act = act; before = Clock tick ∷ past }) unit
    pub moved : IsMoved axis w (group_of v) tick past f
