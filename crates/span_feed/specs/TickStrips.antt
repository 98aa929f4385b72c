-- The states and acts of ticks while a group's history goes on.
use Rattle.std.specs.Prelude.{ℕ, nat_le, List, map, if◌then◌else◌}
use Rattle.rt_rules.specs.Numbers.{numbers_from}
use Rattle.rt_model.specs.Past.{Past, now}
use Rattle.trace_views.specs.Moments.{acts_among, at_tick, own}
use Rattle.chart_rows.specs.Strips.{Strip, blank}

abbrev pub tick_strip : Past → ℕ → Strip
tick_strip past t = record { states = at_tick t past; acts = acts_among (own t past) }

-- the ticks below one, as a past shows them
abbrev pub ticks_below : Past → ℕ → List Strip
ticks_below past n = map (tick_strip past) (numbers_from 0 n)

-- what there is of the newest tick when the clock is to be moved to one
abbrev pub turned_strip : ℕ → Past → Strip
turned_strip tick past = if nat_le tick (now past) then tick_strip past (now past) else blank
