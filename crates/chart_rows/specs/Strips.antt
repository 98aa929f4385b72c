-- The states and acts of a column, of which its cells tell.
use Rattle.std.specs.Prelude.{List, [], ◌∷◌}
use Rattle.rt_model.specs.Past.{Past}
use Rattle.trace_views.specs.Columns.{Column}
use Rattle.trace_views.specs.Moments.{Moment}

-- newest first
pub record Strip : Type 0 where
  pub states : List Past
  pub acts : List Moment

abbrev pub strip_of : Column → Strip
strip_of c = record { states = c.states; acts = c.acts }

-- a column whose label and clocks do not matter
abbrev pub column_of : Strip → Column
column_of s = record { label = 0; first = 0; high = 0; next = 0; states = s.states; acts = s.acts }

abbrev pub blank : Strip
blank = record { states = []; acts = [] }

-- one state, and one act, more
abbrev pub seen : Past → Strip → Strip
seen x s = record s { states = x ∷ s.states }

abbrev pub done : Moment → Strip → Strip
done m s = record s { acts = m ∷ s.acts }
