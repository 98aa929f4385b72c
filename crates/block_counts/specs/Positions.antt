-- Where each task's newest request stands in the list.
use Rattle.std.specs.Prelude.{◌≡◌, ℕ, ◌<◌, ◌≤◌, ◌==◌, Bool, List, length, Option, None, Some, if◌then◌else◌, slice_index_or, slice_set}
use Rattle.rt_changes.specs.Tallies.{Tally, Waiter, newest_of, seen_by}

-- what a position that stands for no request is read as
abbrev pub no_tally : Tally
no_tally = record { no = 0; task = 0; sem = 0; ends = 0; ends_all = 0; bound = None }

-- a position of the list has the newest request of a task
pub record IsPositionOf (xs : List Tally) (t i : ℕ) : Type 0 where
  pub low : i < length xs
  pub task_is : (slice_index_or xs i no_tally).task ≡ t
  pub newest : newest_of t xs ≡ Some (slice_index_or xs i no_tally).no

-- by task number: the position of its newest request, or none; the numbers of the requests rise
pub record ArePositions (xs : List Tally) (positions : List (Option ℕ)) : Type 0 where
  pub placed : (t i : ℕ) → slice_index_or positions t None ≡ Some i → IsPositionOf xs t i
  pub none : (t : ℕ) → slice_index_or positions t None ≡ None → newest_of t xs ≡ None
  pub rising : (j k : ℕ) → j < k → k < length xs → (slice_index_or xs j no_tally).no < (slice_index_or xs k no_tally).no

-- no position is beyond a list of so many
abbrev pub PointWithin : ℕ → List (Option ℕ) → Type 0
PointWithin n positions = (t i : ℕ) → slice_index_or positions t None ≡ Some i → i < n

-- the counts are no more than so many
pub record IsFew (most : ℕ) (x : Tally) : Type 0 where
  pub ends_few : x.ends ≤ most
  pub all_few : x.ends_all ≤ most

-- one more critical section of the semaphore ended: so for a request for it
abbrev pub seen_at : ℕ → Bool → Tally → Tally
seen_at s blocked x = if x.sem == s then seen_by (Some blocked) x else x

-- so for the request at a position of the list, if it is one
abbrev pub seen_in : Option ℕ → ℕ → Bool → List Tally → List Tally
seen_in None s blocked xs = xs
seen_in (Some i) s blocked xs = slice_set xs i (seen_at s blocked (slice_index_or xs i no_tally))

-- so for the newest request of a task that waits
abbrev pub seen_one : List (Option ℕ) → ℕ → Waiter → List Tally → List Tally
seen_one positions s w xs = seen_in (slice_index_or positions w.task None) s w.blocked xs
