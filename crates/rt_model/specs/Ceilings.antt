-- PCP (Sha, Rajkumar and Lehoczky, IEEE Transactions on Computers, 1990): the ceilings of semaphores, and what the tasks of a
-- cluster hold and wait for.
use Rattle.std.specs.Prelude.{ℕ, Bool, false, ◌&&◌, ◌==◌, [], ◌∷◌, if◌then◌else◌, true, map}
use Rattle.rt_task.specs.declared.Protocol.{Protocol}
use Rattle.rt_task.specs.declared.Protocol.TheVariants.{Pcp}
use Rattle.rt_rules.specs.declared.Key.{Key}
use Rattle.rt_rules.specs.KeyOrder.{higher, lowest_key}
use Rattle.rt_rules.specs.Keys.{highest}
use Rattle.rt_rules.specs.Pcp.{PcpState, pcp_after}
use Rattle.rt_rules.specs.SemState.{SemAct, Asks, Frees, Neither}
use Rattle.rt_model.specs.BaseKeys.{base_key, above}
use Rattle.rt_model.specs.Group.{Group, home, protocol, users}
use Rattle.rt_model.specs.Past.{Past, sem_act}

abbrev pub is_pcp : Protocol → Bool
is_pcp Pcp = true
is_pcp _ = false

module _ (g : Group) where
  -- the ceiling of a semaphore is the highest base key of the tasks that declare it; under P-FP no base key depends on the past
  unfoldable pub ceiling : ℕ → Key
  ceiling s = highest lowest_key (map (λ t. base_key g t []) (users g s))

  unfoldable pub above_ceiling : ℕ → ℕ → Bool
  above_ceiling t s = higher (base_key g t []) (ceiling s)

  -- the act at a semaphore, where it is one of a task of this cluster at a PCP semaphore
  unfoldable pub at_cluster : ℕ → SemAct → SemAct
  at_cluster c (Asks t s) = if home g t == c && is_pcp (protocol g s) then Asks t s else Neither
  at_cluster c (Frees t s) = if home g t == c && is_pcp (protocol g s) then Frees t s else Neither
  at_cluster c Neither = Neither

  unfoldable pub pcp : ℕ → Past → PcpState
  pcp c [] = record { held = []; waiting = [] }
  pcp c (e ∷ past) = pcp_after (above g []) above_ceiling (at_cluster c (sem_act e)) (pcp c past)
