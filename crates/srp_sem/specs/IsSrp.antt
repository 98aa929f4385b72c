-- What the type of SRP keeps at all times.
use Rattle.std.specs.Prelude.{◌≡◌, ℕ, ◌<◌, ◌≤◌, true, List, length}
use Rattle.rt_rules.specs.Distinct.{IsDistinct}
use Rattle.rt_rules.specs.Numbers.{has}
use Rattle.rt_rules.specs.Pcp.{TaskSem}
use Rattle.srp_sem.specs.Pairs.{sems_of}

-- each semaphore is of the set and is held once, and there is room for all of them
pub record IsSrp (ceilings : List ℕ) (held : List TaskSem) (capacity : ℕ) : Type 0 where
  pub known : (s : ℕ) → has s (sems_of held) ≡ true → s < length ceilings
  pub one_holder : IsDistinct (sems_of held)
  pub room : length ceilings ≤ capacity
