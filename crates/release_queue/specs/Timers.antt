-- Timers: at each task's number the tick that it waits for, where it is armed.
use Rattle.std.specs.Prelude.{◌≡◌, ℕ, ◌<◌, ◌≤◌, List, map, length, Option, None, Some, option_map, slice_index, slice_index_or}
use Rattle.rt_rules.specs.declared.Key.{Key}

-- the tick that a task waits for
abbrev pub tick_at : List (Option ℕ) → ℕ → Option ℕ
tick_at ticks t = slice_index_or ticks t None

-- the task waits for the earliest of the ticks, which is due, and has the lowest number of those that wait for it
pub record IsNextDue (ticks : List (Option ℕ)) (now task : ℕ) : Type 0 where
  pub tick : ℕ
  pub armed : tick_at ticks task ≡ Some tick
  pub due : tick ≤ now
  pub earliest : (other later : ℕ) → tick_at ticks other ≡ Some later → tick ≤ later
  pub lowest : (other : ℕ) → tick_at ticks other ≡ Some tick → task ≤ other

-- no task waits for a tick that is due
abbrev pub NothingDue : List (Option ℕ) → ℕ → Type 0
NothingDue ticks now = (task tick : ℕ) → tick_at ticks task ≡ Some tick → now < tick

-- a tick as it stands in the heap, where a base key has the deadline
abbrev pub key_of_tick : ℕ → Key
key_of_tick tick = record { band = 2; major = tick; minor = 0 }

abbrev pub ticks_in : List (Option Key) → List (Option ℕ)
ticks_in keys = map (option_map (λ (k : Key). k.major)) keys

-- each task that is in has its tick for its key
pub record IsTimed (keys : List (Option Key)) (ticks : List ℕ) : Type 0 where
  pub same_length : length ticks ≡ length keys
  pub keyed : (t : ℕ) (k : Key) → slice_index_or keys t None ≡ Some k → k ≡ key_of_tick (slice_index ticks t)
