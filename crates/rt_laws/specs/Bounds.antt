-- The bounds on blocking: how many critical sections of its semaphore end while a request waits.
use Rattle.std.specs.Prelude.{◌≡◌, ℕ, ◌-◌, ◌*◌, ◌≤◌, length}
use Rattle.rt_task.specs.Validity.{IsValid}
use Rattle.rt_task.specs.declared.Protocol.TheVariants.{Fmlp, Omlp}
use Rattle.rt_model.specs.Blocking.{ends, ends_all}
use Rattle.rt_model.specs.Group.{Group, cpus, home, users, protocol}
use Rattle.rt_model.specs.Reachable.{IsReachable}
use Rattle.rt_model.specs.Past.{Past}
use Rattle.rt_laws.specs.EveryPast.{EveryPast}

-- FMLP (Block, Leontyev, Brandenburg and Anderson, RTCSA 2007): while a request waits, at most n - 1 critical sections of its
-- semaphore end, n the number of tasks that declare it, in whatever clusters.
abbrev pub FmlpBound : Type 0
FmlpBound = EveryPast (λ g past. (r t s : ℕ) → protocol g s ≡ Fmlp → ends_all g r t s past ≤ length (users g s) - 1)

-- OMLP (Brandenburg and Anderson, RTSS 2010): while a request waits and its task is priority-blocked, at most 2m - 1 critical
-- sections of its semaphore end, m the number of processors of the task's cluster.
abbrev pub OmlpBound : Type 0
OmlpBound = EveryPast (λ g past. (r t s : ℕ) → protocol g s ≡ Omlp → ends g r t s past ≤ 2 * cpus g (home g t) - 1)

-- Of the critical sections that end while a request waits, those that end while its task is priority-blocked are a part.
abbrev pub BlockedEndsAreEnds : Type 0
BlockedEndsAreEnds = EveryPast (λ g past. (r t s : ℕ) → ends g r t s past ≤ ends_all g r t s past)

-- an FMLP request that sees n - 1 critical sections end, n at least 2
pub record ReachesFmlpBound : Type 0 where
  pub group : Group
  pub past : Past
  pub is_valid : IsValid group.setup
  pub is_made : IsReachable group past
  pub no : ℕ
  pub task : ℕ
  pub sem : ℕ
  pub is_fmlp : protocol group sem ≡ Fmlp
  pub shared : 2 ≤ length (users group sem)
  pub reached : ends_all group no task sem past ≡ length (users group sem) - 1

-- an OMLP request that sees 2m - 1 critical sections end, m at least 2
pub record ReachesOmlpBound : Type 0 where
  pub group : Group
  pub past : Past
  pub is_valid : IsValid group.setup
  pub is_made : IsReachable group past
  pub no : ℕ
  pub task : ℕ
  pub sem : ℕ
  pub is_omlp : protocol group sem ≡ Omlp
  pub parallel : 2 ≤ cpus group (home group task)
  pub reached : ends group no task sem past ≡ 2 * cpus group (home group task) - 1
