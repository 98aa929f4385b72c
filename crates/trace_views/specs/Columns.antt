-- The columns of a picture, by ticks or by entries.
use Rattle.std.specs.Prelude.{ℕ, suc, Bool, true, false, List, [], ◌∷◌, map, reverse, filter}
use Rattle.rt_rules.specs.Numbers.{numbers_from}
use Rattle.rt_model.specs.Past.{Past, Acted, now}
use Rattle.trace_views.specs.Moments.{Moment, moments, own, at_tick, acts_among}

pub record Column : Type 0 where
  -- its tick, or the number of its entry
  pub label : ℕ
  -- the clocks from `first` up to `high` are its own; the column behind it begins at clock `next`
  pub first : ℕ
  pub high : ℕ
  pub next : ℕ
  -- its states and its acts, newest first
  pub states : List Past
  pub acts : List Moment

-- by ticks, from 0 up to the clock of the newest state
abbrev pub tick_column : Past → ℕ → Column
tick_column past t =
    record { label = t; first = t; high = t; next = suc t; states = at_tick t past; acts = acts_among (own t past) }

unfoldable pub tick_columns : Past → List Column
tick_columns past = map (tick_column past) (numbers_from 0 (suc (now past)))

-- by entries: of each the states after its move of the clock and after its act
abbrev pub is_entry : Past → Bool
is_entry (Acted d ∷ past) = true
is_entry _ = false

abbrev pub states_of_entry : Past → List Past
states_of_entry [] = []
states_of_entry (e ∷ past) = (e ∷ past) ∷ past ∷ []

abbrev pub next_clock : ℕ → List Past → ℕ
next_clock high [] = suc high
next_clock high (p ∷ ps) = now p

abbrev pub entry_columns_from : ℕ → ℕ → List Past → List Column
entry_columns_from i first [] = []
entry_columns_from i first (p ∷ ps) = record {
  label = i;
  first = first;
  high = now p;
  next = next_clock (now p) ps;
  states = states_of_entry p;
  acts = acts_among (p ∷ []);
} ∷ entry_columns_from (suc i) (suc (now p)) ps

unfoldable pub entry_columns : Past → List Column
entry_columns past = entry_columns_from 0 0 (reverse (filter is_entry (moments past)))
