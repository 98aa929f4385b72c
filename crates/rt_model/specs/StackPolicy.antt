-- SRP (Baker, Real-Time Systems, 1991): what the tasks of a cluster hold of its semaphores, and the test that a task has to pass
-- before its job starts.
use Rattle.std.specs.List.{list_any}
use Rattle.std.specs.Prelude.{ℕ, Bool, true, false, ◌&&◌, ◌==◌, List, [], ◌∷◌, if◌then◌else◌, map}
use Rattle.rt_base.specs.declared.TheConstants.{TICK_END}
use Rattle.rt_task.specs.declared.Protocol.{Protocol}
use Rattle.rt_task.specs.declared.Protocol.TheVariants.{Srp}
use Rattle.rt_rules.specs.Pcp.{TaskSem}
use Rattle.rt_rules.specs.SemState.{SemAct, Asks, Frees, Neither}
use Rattle.rt_rules.specs.Srp.{least, srp_after, srp_passes}
use Rattle.rt_model.specs.Group.{Group, task, home, protocol, sems, users}
use Rattle.rt_model.specs.Past.{Past, sem_act}

abbrev pub is_srp : Protocol → Bool
is_srp Srp = true
is_srp _ = false

module _ (g : Group) where
  -- the ceiling of a semaphore is the smallest relative deadline of the tasks that declare it
  unfoldable pub srp_ceiling : ℕ → ℕ
  srp_ceiling s = least TICK_END (map (λ t. (task g t).rel_deadline) (users g s))

  -- the act at a semaphore, where it is one of a task of this cluster at an SRP semaphore
  unfoldable pub srp_at : ℕ → SemAct → SemAct
  srp_at c (Asks t s) = if home g t == c && is_srp (protocol g s) then Asks t s else Neither
  srp_at c (Frees t s) = if home g t == c && is_srp (protocol g s) then Frees t s else Neither
  srp_at c Neither = Neither

  -- what is held, from the accepted Lock to the accepted Unlock, the newest first
  unfoldable pub srp : ℕ → Past → List TaskSem
  srp c [] = []
  srp c (e ∷ past) = srp_after (srp_at c (sem_act e)) (srp c past)

  -- a task passes where its relative deadline is below the ceiling of each SRP semaphore of its cluster that another task holds
  unfoldable pub passes_srp : ℕ → Past → Bool
  passes_srp t past = srp_passes srp_ceiling (srp (home g t) past) t (task g t).rel_deadline

  -- whether a task of a cluster declares an SRP semaphore
  unfoldable pub has_srp : ℕ → Bool
  has_srp c = list_any (λ s. is_srp (protocol g s) && list_any (λ t. home g t == c) (users g s)) (sems g)
