-- Boosted holders: above every base key, eligible at all times, and linked unless another one goes first.
use Rattle.std.specs.Prelude.{◌≡◌, ℕ, ◌<◌, Bool, true, false, ◌⊎◌, Some}
use Rattle.rt_task.specs.Validity.{IsValid}
use Rattle.rt_task.specs.declared.PluginKind.{PluginKind}
use Rattle.rt_task.specs.declared.Protocol.{Protocol}
use Rattle.rt_task.specs.declared.Protocol.TheVariants.{Fmlp, Mpcp}
use Rattle.rt_rules.specs.KeyOrder.{higher}
use Rattle.rt_rules.specs.Numbers.{has}
use Rattle.rt_rules.specs.Placing.{tasks_in}
use Rattle.rt_model.specs.BaseKeys.{base_key}
use Rattle.rt_model.specs.Boosts.{boosts_fmlp, granted_at, mpcp_ceiling}
use Rattle.rt_model.specs.EffectiveKeys.{effective_key}
use Rattle.rt_model.specs.Group.{Group, home, protocol, sems}
use Rattle.rt_model.specs.Holders.{holder}
use Rattle.rt_model.specs.Links.{links}
use Rattle.rt_model.specs.Past.{Past}
use Rattle.rt_model.specs.Reachable.{IsReachable}
use Rattle.rt_model.specs.Tops.{eligible}
use Rattle.rt_laws.specs.EveryPast.{EveryPast}

-- a semaphore whose holder is boosted: MPCP, and under PSN-EDF and P-FP also FMLP
abbrev pub boosts_holder : PluginKind → Protocol → Bool
boosts_holder plugin Mpcp = true
boosts_holder plugin Fmlp = boosts_fmlp plugin
boosts_holder plugin _ = false

-- a task holds a semaphore that boosts it
pub record HoldsBoosting (g : Group) (t s : ℕ) (past : Past) : Type 0 where
  pub known : has s (sems g) ≡ true
  pub boosts : boosts_holder g.setup.plugin (protocol g s) ≡ true
  pub holds_it : holder g s past ≡ Some t

-- the key of the holder of an MPCP semaphore is its ceiling, and that of the holder of an FMLP semaphore the clock of its grant; this
-- is above the base key of every task; and the holder may be linked
pub record IsBoosted (g : Group) (t s : ℕ) (past : Past) : Type 0 where
  pub by_ceiling : protocol g s ≡ Mpcp → effective_key g t past ≡ record { band = 1; major = mpcp_ceiling g s t; minor = t }
  pub by_grant : protocol g s ≡ Fmlp → effective_key g t past ≡ record { band = 0; major = granted_at g s past; minor = t }
  pub over_all : (u : ℕ) → higher (effective_key g t past) (base_key g u past) ≡ true
  pub may_run : eligible g t past ≡ true

-- While a task holds an MPCP semaphore it is boosted above every base priority (Rajkumar, ICDCS 1990), and so it is, by a rule of our
-- own, while it holds an FMLP semaphore under PSN-EDF or P-FP. It neither sleeps nor waits meanwhile.
abbrev pub HolderIsBoosted : Type 0
HolderIsBoosted = EveryPast (λ g past. (t s : ℕ) → HoldsBoosting g t s past → IsBoosted g t s past)

-- a task is linked to a processor of a cluster
abbrev pub is_linked : Group → ℕ → ℕ → Past → Bool
is_linked g c t past = has t (tasks_in (links g c past))

-- a boosted holder that has a higher key than a task
pub record GoesBefore (g : Group) (u t : ℕ) (past : Past) : Type 0 where
  pub sem : ℕ
  pub boosted : HoldsBoosting g u sem past
  pub higher_key : higher (effective_key g u past) (effective_key g t past) ≡ true

-- somebody is linked in the task's cluster, and whoever is goes before the task
pub record IsPassed (g : Group) (t : ℕ) (past : Past) : Type 0 where
  pub task : ℕ
  pub linked : is_linked g (home g t) task past ≡ true
  pub all_before : (u : ℕ) → is_linked g (home g t) u past ≡ true → GoesBefore g u t past

-- After every move a boosted holder is linked, or those that are linked in its cluster are boosted holders of higher keys: no task that
-- holds no such semaphore takes its processor, whatever its priority.
abbrev pub BoostedIsLinked : Type 0
BoostedIsLinked = EveryPast (λ g past. (t s : ℕ) → HoldsBoosting g t s past → (is_linked g (home g t) t past ≡ true) ⊎ IsPassed g t past)

-- an MPCP holder that is not linked, since the holder of an MPCP semaphore of a higher ceiling is
pub record ReachesPassed : Type 0 where
  pub group : Group
  pub past : Past
  pub is_valid : IsValid group.setup
  pub is_made : IsReachable group past
  pub task : ℕ
  pub sem : ℕ
  pub is_mpcp : protocol group sem ≡ Mpcp
  pub boosted : HoldsBoosting group task sem past
  pub not_linked : is_linked group (home group task) task past ≡ false
  pub other : ℕ
  pub other_sem : ℕ
  pub other_is_mpcp : protocol group other_sem ≡ Mpcp
  pub other_boosted : HoldsBoosting group other other_sem past
  pub other_linked : is_linked group (home group task) other past ≡ true
  pub higher_ceiling : mpcp_ceiling group other_sem other < mpcp_ceiling group sem task
