-- The states and acts of a window's columns while a group's history goes on.
use Rattle.std.specs.Prelude.{ℕ, ◌-◌, min, Bool, false, ◌&&◌, nat_le, nat_lt, List, [], ◌∷◌, map, reverse, filter, if◌then◌else◌}
use Rattle.rt_rules.specs.Numbers.{numbers_from}
use Rattle.rt_model.specs.Past.{Past, entries_in, now}
use Rattle.trace_views.specs.Columns.{is_entry, states_of_entry}
use Rattle.trace_views.specs.Moments.{acts_among, at_tick, moments, own}
use Rattle.chart_texts.specs.declared.window.Axis.{Axis}
use Rattle.chart_texts.specs.declared.window.Axis.TheVariants.{Ticks, Entries}
use Rattle.chart_texts.specs.declared.window.Window.{Window}
use Rattle.chart_texts.specs.Windows.{cut}
use Rattle.chart_rows.specs.Strips.{Strip, blank, seen}

-- ---- by ticks and by entries

abbrev pub tick_strip : Past → ℕ → Strip
tick_strip past t = record { states = at_tick t past; acts = acts_among (own t past) }

-- the states after the entries, the oldest first
abbrev pub entries_of : Past → List Past
entries_of past = reverse (filter is_entry (moments past))

abbrev pub entry_strip : Past → Strip
entry_strip x = record { states = states_of_entry x; acts = acts_among (x ∷ []) }

-- ---- in a window

abbrev pub is_in : Window → ℕ → Bool
is_in w i = nat_le w.from i && nat_lt i w.to

-- the ticks of a window below one
abbrev pub ticks_in : Window → ℕ → List ℕ
ticks_in w n = numbers_from w.from (min n w.to - w.from)

-- the ticks of a window below one, as a past shows them
abbrev pub closed_below : Window → Past → ℕ → List Strip
closed_below w past n = map (tick_strip past) (ticks_in w n)

-- the columns that are over: the clock is past their tick, or their entry has been
abbrev pub closed : Axis → Window → Past → List Strip
closed Ticks w past = map (tick_strip past) (ticks_in w (now past))
closed Entries w past = map entry_strip (cut w (entries_of past))

-- the number of the column that goes on, and what there is of it after whole steps, as the clock is to be moved to a tick, and once
-- it is; nothing where it is outside the window
abbrev pub position : Axis → Past → ℕ
position Ticks past = now past
position Entries past = entries_in past

abbrev pub in_window : Window → ℕ → Strip → Strip
in_window w i s = if is_in w i then s else blank

abbrev pub open_at : Axis → Window → Past → Strip
open_at Ticks w past = in_window w (now past) (tick_strip past (now past))
open_at Entries w past = blank

abbrev pub open_turned : Axis → Window → ℕ → Past → Strip
open_turned Ticks w tick past = if nat_le tick (now past) then open_at Ticks w past else blank
open_turned Entries w tick past = blank

abbrev pub open_moved : Axis → Window → Past → Strip
open_moved Ticks w past = in_window w (now past) (tick_strip past (now past))
open_moved Entries w past = in_window w (entries_in past) (seen past blank)

-- whether it has states as the clock is to be moved: by ticks where the move is not to a later one, and by entries never
abbrev pub has_begun : Axis → ℕ → Past → Bool
has_begun Ticks tick past = nat_le tick (now past)
has_begun Entries tick past = false
