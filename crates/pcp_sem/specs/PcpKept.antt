-- The semaphores of one cluster under PCP as contracts see them.
use Rattle.std.specs.Prelude.{ℕ, Bool, not, ◌&&◌, ◌||◌, ◌==◌, nat_lt, List, Option, option_map, find}
use Rattle.rt_rules.specs.declared.Key.{Key}
use Rattle.rt_rules.specs.KeyOrder.{higher}
use Rattle.rt_rules.specs.Numbers.{foremost}
use Rattle.rt_rules.specs.Pcp.{TaskSem, PcpState, of_others, holder_among}
use Rattle.sem_laws.specs.KeptKeys.{key_at}
use Rattle.pcp_sem.specs.Pairs.{sems_of}

-- the ceilings, what is held and waited for, the key with which each task below the room asked last, and the tasks that the last release
-- granted, in order
pub record PcpKept : Type 0 where
  pub ceilings : List Key
  pub state : PcpState
  pub keys : List Key
  pub grants : List ℕ

-- whether the key of t is higher than the ceiling of s
abbrev pub above_ceiling : List Key → List Key → ℕ → ℕ → Bool
above_ceiling keys ceilings t s = higher (key_at keys t) (key_at ceilings s)

-- whether the ceiling of s is higher than that of r; ties go to the lower number
abbrev pub has_higher_ceiling : List Key → ℕ → ℕ → Bool
has_higher_ceiling ceilings s r = higher (key_at ceilings s) (key_at ceilings r) || not (higher (key_at ceilings r) (key_at ceilings s))
    && nat_lt s r

-- the holder of the highest ceiling among the semaphores that other tasks hold
abbrev pub blocker_of : List Key → List TaskSem → ℕ → Option ℕ
blocker_of ceilings held t = holder_among (of_others t held) (foremost (has_higher_ceiling ceilings) (sems_of (of_others t held)))

-- the semaphore that a task was granted last among those that it holds
abbrev pub last_granted : List TaskSem → ℕ → Option ℕ
last_granted held t = option_map (λ (p : TaskSem). p.sem) (find (λ p. p.task == t) held)
