-- The state of each semaphore over the past, under FMLP, OMLP and MPCP.
use Rattle.std.specs.Prelude.{ℕ, ◌==◌, List, [], ◌∷◌, None, if◌then◌else◌, unwrap_or, option_map}
use Rattle.rt_rules.specs.Fmlp.{fmlp_after}
use Rattle.rt_rules.specs.Mpcp.{mpcp_after}
use Rattle.rt_rules.specs.Numbers.{first}
use Rattle.rt_rules.specs.Omlp.{OmlpState, omlp_after}
use Rattle.rt_rules.specs.SemState.{SemAct, SemState, Asks, Frees, Neither}
use Rattle.rt_model.specs.BaseKeys.{above}
use Rattle.rt_model.specs.Group.{Group, cpus, home, users}
use Rattle.rt_model.specs.Past.{Past, sem_act}

-- the act at a semaphore, where it is one at this semaphore
abbrev pub at_sem : ℕ → SemAct → SemAct
at_sem s (Asks t r) = if s == r then Asks t r else Neither
at_sem s (Frees t r) = if s == r then Frees t r else Neither
at_sem s Neither = Neither

module _ (g : Group) where
  -- the cluster of a semaphore's users
  unfoldable pub cluster_of : ℕ → ℕ
  cluster_of s = unwrap_or (option_map (home g) (first (users g s))) 0

  -- what is open after each move; base keys are read before the move
  unfoldable pub fmlp : ℕ → Past → List ℕ
  fmlp s [] = []
  fmlp s (e ∷ past) = fmlp_after (at_sem s (sem_act e)) (fmlp s past)

  unfoldable pub omlp : ℕ → Past → OmlpState
  omlp s [] = record { fifo = []; queue = [] }
  omlp s (e ∷ past) = omlp_after (cpus g (cluster_of s)) (above g past) (at_sem s (sem_act e)) (omlp s past)

  unfoldable pub mpcp : ℕ → Past → SemState
  mpcp s [] = record { holder = None; waiting = [] }
  mpcp s (e ∷ past) = mpcp_after (above g past) (at_sem s (sem_act e)) (mpcp s past)
