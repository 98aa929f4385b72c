-- What holds of PCP after each act.
use Rattle.std.specs.Prelude.{◌≡◌, ℕ, true, false, Some}
use Rattle.rt_rules.specs.Distinct.{IsDistinct}
use Rattle.rt_rules.specs.Numbers.{has}
use Rattle.pcp_sem.specs.Pairs.{tasks_of, sems_of}
use Rattle.pcp_sem.specs.Stack.{IsStack}
use Rattle.pcp_sem.specs.PcpKept.{PcpKept, above_ceiling, blocker_of}

-- no semaphore has two holders; no waiting task passes, and each holder's key is above the ceiling of each semaphore that another task was
-- granted before; each waiting task is blocked by a task that does not wait, so that each walk from a waiting task to its blocker is one
-- step long, and none comes round
pub record HoldsAfterActs (s : PcpKept) : Type 0 where
  pub one_holder : IsDistinct (sems_of s.state.held)
  pub stack : IsStack (above_ceiling s.keys s.ceilings) s.state
  pub walks_end : (t : ℕ) → has t (tasks_of s.state.waiting) ≡ true → (b : ℕ) × (blocker_of s.ceilings s.state.held t ≡ Some b) ×
      (has b (tasks_of s.state.waiting) ≡ false)
