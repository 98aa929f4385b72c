-- The tasks that wait for a semaphore, as contracts see them.
use Rattle.std.specs.Prelude.{ℕ, List}
use Rattle.rt_changes.specs.Tallies.{Waiter}

-- the tasks, and how many there is room for
pub record WaitingList : Type 0 where
  pub room : ℕ
  pub waiting : List Waiter
