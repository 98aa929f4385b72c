-- Critical sections under SRP, and when one delays a job before it begins. A section is known by its task and by the entry with which it
-- began.
use Rattle.std.specs.List.{list_any}
use Rattle.std.specs.Prelude.{ℕ, Bool, false, not, ◌&&◌, ◌||◌, ◌==◌, nat_le, nat_lt, [], ◌∷◌, if◌then◌else◌, map}
use Rattle.rt_rules.specs.Numbers.{has}
use Rattle.rt_rules.specs.Pcp.{TaskSem}
use Rattle.rt_model.specs.BaseKeys.{above}
use Rattle.rt_model.specs.Group.{Group, home, task}
use Rattle.rt_model.specs.Past.{Past, entries_in}
use Rattle.rt_model.specs.Releases.{ready}
use Rattle.rt_model.specs.StackPolicy.{srp, srp_ceiling}
use Rattle.rt_model.specs.UnderWay.{under_way}

module _ (g : Group) where
  -- a task's job is there, does not sleep, and has not begun. A stretch is a time through which that is so
  unfoldable pub awaits_start : ℕ → Past → Bool
  awaits_start t past = ready g t past && not (under_way t past)

  -- the preemption level of u is not above that of t
  unfoldable pub is_no_higher : ℕ → ℕ → Bool
  is_no_higher t u = nat_le (task g t).rel_deadline (task g u).rel_deadline

  -- u is such a task of the cluster of t, and of lower base key
  unfoldable pub is_lower : ℕ → ℕ → Past → Bool
  is_lower t u past = home g u == home g t && (above g past t u && is_no_higher t u)

  -- a task is in a critical section: it holds SRP semaphores; and the entry from which on it has held some without a break
  unfoldable pub is_inside : ℕ → Past → Bool
  is_inside u past = has u (map (λ (p : TaskSem). p.task) (srp g (home g u) past))

  unfoldable pub entered : ℕ → Past → ℕ
  entered u [] = 0
  entered u (e ∷ past) = if is_inside u past then entered u past else entries_in past

  -- in its critical section u holds a semaphore whose ceiling the relative deadline of t is not below
  unfoldable pub reaches : ℕ → ℕ → Past → Bool
  reaches t u past = list_any (λ p. p.task == u && not (nat_lt (task g t).rel_deadline (srp_ceiling g p.sem))) (srp g (home g t) past)

  -- the critical section of u, a lower task, keeps t from beginning
  unfoldable pub delays : ℕ → ℕ → Past → Bool
  delays t u past = is_lower t u past && reaches t u past

  -- the critical section of u that began with entry n has delayed t in the stretch in which t is
  unfoldable pub was_delayed : ℕ → ℕ → ℕ → Past → Bool
  was_delayed t u n [] = false
  was_delayed t u n (e ∷ past) = awaits_start t (e ∷ past) && (delays t u (e ∷ past) && entered u (e ∷ past) == n || was_delayed t u n past)
