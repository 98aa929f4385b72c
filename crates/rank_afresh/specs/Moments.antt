-- At each task's number the moment that it waits for.
use Rattle.std.specs.Prelude.{◌≡◌, ℕ, ◌-◌, ◌≤◌, List, filter, length, Option, None, Some, if◌then◌else◌}
use Rattle.rt_rules.specs.Numbers.{has, numbers_from}
use Rattle.rt_model.specs.Releases.{has_come}
use Rattle.release_queue.specs.Timers.{tick_at}

-- none of the tasks waits for a moment before this one
abbrev pub IsLeast : ℕ → List (Option ℕ) → Type 0
IsLeast next ticks = (t n : ℕ) → 1 ≤ t → tick_at ticks t ≡ Some n → next ≤ n

-- the tasks whose moment has come, by rising number
abbrev pub due_in : ℕ → List (Option ℕ) → List ℕ
due_in clock ticks = filter (λ t. has_come clock (tick_at ticks t)) (numbers_from 1 (length ticks - 1))

-- these tasks wait for nothing any more, and the others as before
pub record AreTakenOut (ts : List ℕ) (old new : List (Option ℕ)) : Type 0 where
  pub count_same : length new ≡ length old
  pub moments_are : (t : ℕ) → tick_at new t ≡ (if has t ts then None else tick_at old t)
