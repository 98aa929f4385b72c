-- OMLP: the two parts of the bound. A request that waits in the priority queue sees at most m critical sections end, and one that has
-- come to the FIFO list at most m - 1 more.
use Rattle.std.specs.Prelude.{◌≡◌, ℕ, ◌+◌, ◌-◌, ◌≤◌, ◌&&◌, [], ◌∷◌, if◌then◌else◌}
use Rattle.rt_task.specs.Validity.{IsValid}
use Rattle.rt_task.specs.declared.Protocol.TheVariants.{Omlp}
use Rattle.rt_rules.specs.Numbers.{has}
use Rattle.rt_model.specs.Blocking.{ends, frees, is_blocked, is_open}
use Rattle.rt_model.specs.Group.{Group, cpus, home, protocol}
use Rattle.rt_model.specs.Past.{Past, sem_act}
use Rattle.rt_model.specs.Reachable.{IsReachable}
use Rattle.rt_model.specs.Semaphores.{omlp}
use Rattle.rt_laws.specs.EveryPast.{EveryPast}

module _ (g : Group) where
  -- how many critical sections of the semaphore ended while the request stood in the FIFO list and waited, priority-blocked or not
  unfoldable pub ends_in_fifo : ℕ → ℕ → ℕ → Past → ℕ
  ends_in_fifo r t s [] = 0
  ends_in_fifo r t s (e ∷ past) =
      if frees s (sem_act e) && (is_open g r t s past && has t (omlp g s past).fifo)
      then ends_in_fifo r t s past + 1
      else ends_in_fifo r t s past

  -- how many ended while it stood in the priority queue and its task was priority-blocked
  unfoldable pub ends_in_queue : ℕ → ℕ → ℕ → Past → ℕ
  ends_in_queue r t s [] = 0
  ends_in_queue r t s (e ∷ past) =
      if frees s (sem_act e) && (is_open g r t s past && (has t (omlp g s past).queue && is_blocked g t past))
      then ends_in_queue r t s past + 1
      else ends_in_queue r t s past

-- the two counts of a request, each within its part, and together no less than all that end while its task is priority-blocked
pub record SeesParts (g : Group) (r t s : ℕ) (past : Past) : Type 0 where
  pub in_queue : ends_in_queue g r t s past ≤ cpus g (home g t)
  pub in_fifo : ends_in_fifo g r t s past ≤ cpus g (home g t) - 1
  pub together : ends g r t s past ≤ ends_in_queue g r t s past + ends_in_fifo g r t s past

-- OMLP (Brandenburg and Anderson, RTSS 2010): while the task of a request in the priority queue is priority-blocked, at most m critical
-- sections of its semaphore end, m the number of processors of the task's cluster; and from its coming to the FIFO list to its grant
-- at most m - 1, also while its task is not priority-blocked.
abbrev pub OmlpParts : Type 0
OmlpParts = EveryPast (λ g past. (r t s : ℕ) → protocol g s ≡ Omlp → SeesParts g r t s past)

-- an OMLP request that sees m critical sections end in the priority queue and m - 1 in the FIFO list, m at least 2
pub record ReachesOmlpParts : Type 0 where
  pub group : Group
  pub past : Past
  pub is_valid : IsValid group.setup
  pub is_made : IsReachable group past
  pub no : ℕ
  pub task : ℕ
  pub sem : ℕ
  pub is_omlp : protocol group sem ≡ Omlp
  pub parallel : 2 ≤ cpus group (home group task)
  pub queue_reached : ends_in_queue group no task sem past ≡ cpus group (home group task)
  pub fifo_reached : ends_in_fifo group no task sem past ≡ cpus group (home group task) - 1
