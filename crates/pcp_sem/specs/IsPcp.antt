-- What the type of PCP keeps at all times.
use Rattle.std.specs.Prelude.{◌≡◌, ℕ, ◌+◌, ◌^◌, ◌<◌, ◌≤◌, true, false, List, length}
use Rattle.rt_rules.specs.declared.Key.{Key}
use Rattle.rt_rules.specs.Distinct.{IsDistinct}
use Rattle.rt_rules.specs.Pcp.{TaskSem, PcpState, in_order}
use Rattle.sem_laws.specs.KeptKeys.{above}
use Rattle.pcp_sem.specs.Pairs.{has_pair, tasks_of, sems_of}
use Rattle.pcp_sem.specs.Stack.{IsStack}
use Rattle.pcp_sem.specs.PcpKept.{above_ceiling}

-- a task below the room with a semaphore of the set, whose ceiling its key is not above
pub record IsUser (ceilings keys : List Key) (t s : ℕ) : Type 0 where
  pub task : t < length keys
  pub sem : s < length ceilings
  pub low : above_ceiling keys ceilings t s ≡ false

-- each pair is one of a user, no semaphore has two holders, each task waits for one semaphore at most, and holds it not
pub record IsSound (ceilings keys : List Key) (l : PcpState) : Type 0 where
  pub held_by : (t s : ℕ) → has_pair t s l.held ≡ true → IsUser ceilings keys t s
  pub awaited_by : (t s : ℕ) → has_pair t s l.waiting ≡ true → IsUser ceilings keys t s
  pub one_holder : IsDistinct (sems_of l.held)
  pub waits_once : IsDistinct (tasks_of l.waiting)
  pub unheld : (t s : ℕ) → has_pair t s l.waiting ≡ true → has_pair t s l.held ≡ false

-- the facts on the state, and the room that is reserved
pub record IsPcp (ceilings keys : List Key) (l : PcpState) (held waiting order grants : ℕ) : Type 0 where
  pub stack : IsStack (above_ceiling keys ceilings) l
  pub sound : IsSound ceilings keys l
  pub limit : length keys < 2 ^ 32
  pub held_room : length ceilings + length keys ≤ held
  pub waiting_room : length keys ≤ waiting
  pub order_room : length keys ≤ order
  pub grants_room : length keys ≤ grants

-- and the waiting requests stand in falling order of keys
pub record IsPcpTable (ceilings keys : List Key) (l : PcpState) (order : List TaskSem) (held waiting ordered grants : ℕ) : Type 0 where
  pub facts : IsPcp ceilings keys l held waiting ordered grants
  pub in_falling_order : order ≡ in_order (above keys) l.waiting
