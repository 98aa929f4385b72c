-- Marks of tasks, by task number.
use Rattle.std.specs.Prelude.{◌≡◌, ℕ, ◌<◌, Bool, false, List, length, Option, None, Some, slice_index_or, slice_set}
use Rattle.rt_rules.specs.Numbers.{has}

-- the mark of a task says this, where it has one
abbrev pub Says : List Bool → ℕ → Bool → Type 0
Says marks t b = t < length marks → slice_index_or marks t false ≡ b

-- each task that has a mark is marked just where it is in the list
pub record AreMarks (marks : List Bool) (ts : List ℕ) : Type 0 where
  pub each : (t : ℕ) → t < length marks → slice_index_or marks t false ≡ has t ts

-- the mark of one task, if there is one, says this from now on
abbrev pub with_mark : List Bool → Option ℕ → Bool → List Bool
with_mark marks None b = marks
with_mark marks (Some t) b = slice_set marks t b
