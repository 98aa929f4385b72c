-- An FMLP semaphore as contracts see it.
use Rattle.std.specs.Prelude.{◌≡◌, ℕ, ◌^◌, ◌<◌, ◌≤◌, true, List}
use Rattle.rt_rules.specs.Distinct.{IsDistinct}
use Rattle.rt_rules.specs.Numbers.{has}

-- the requests that are open, in order of asking, and the room: each task has a number below it
pub record FmlpLine : Type 0 where
  pub room : ℕ
  pub line : List ℕ

-- each task stands once in the line, and the line has room for each task below the room
pub record IsRoomy (room capacity : ℕ) (line : List ℕ) : Type 0 where
  pub once : IsDistinct line
  pub below : (t : ℕ) → has t line ≡ true → t < room
  pub reserved : room ≤ capacity
  pub limit : room < 2 ^ 32
