-- An OMLP semaphore as contracts see it.
use Rattle.std.specs.Prelude.{◌≡◌, ℕ, ◌^◌, ◌<◌, ◌≤◌, true, false, List, length, min}
use Rattle.rt_rules.specs.declared.Key.{Key}
use Rattle.rt_rules.specs.Distinct.{IsDistinct}
use Rattle.rt_rules.specs.Numbers.{has}
use Rattle.rt_rules.specs.Omlp.{OmlpState}

-- the most requests in the FIFO list, the state, and the key with which each task below the room asked last
pub record OmlpKept : Type 0 where
  pub cap : ℕ
  pub state : OmlpState
  pub keys : List Key

-- each task stands once in the two lists, and the FIFO list has a position for all that it ever holds
pub record IsOmlp (cap room capacity : ℕ) (fifo queue : List ℕ) : Type 0 where
  pub limit : room < 2 ^ 32
  pub fifo_once : IsDistinct fifo
  pub queue_once : IsDistinct queue
  pub apart : (t : ℕ) → has t fifo ≡ true → has t queue ≡ false
  pub fifo_below : (t : ℕ) → has t fifo ≡ true → t < room
  pub queue_below : (t : ℕ) → has t queue ≡ true → t < room
  pub short : length fifo ≤ cap
  pub reserved : min cap room ≤ capacity
