-- MPCP: of the critical sections of lower tasks, a request waits for one at most.
use Rattle.std.specs.Prelude.{◌≡◌, ℕ, ◌+◌, ◌≤◌, Bool, true, false, ◌&&◌, ◌==◌, [], ◌∷◌, if◌then◌else◌, length}
use Rattle.rt_task.specs.Validity.{IsValid}
use Rattle.rt_task.specs.declared.Protocol.TheVariants.{Mpcp}
use Rattle.rt_rules.specs.SemState.{SemAct, Frees}
use Rattle.rt_model.specs.BaseKeys.{above}
use Rattle.rt_model.specs.Blocking.{is_open, ends_all}
use Rattle.rt_model.specs.Group.{Group, protocol, users}
use Rattle.rt_model.specs.Past.{Past, sem_act}
use Rattle.rt_model.specs.Reachable.{IsReachable}
use Rattle.rt_laws.specs.EveryPast.{EveryPast, EveryMove}

-- a lower task frees the semaphore
abbrev pub frees_lower : (ℕ → Bool) → ℕ → SemAct → Bool
frees_lower is_lower s (Frees u r) = s == r && is_lower u
frees_lower is_lower s _ = false

module _ (g : Group) where
  -- how many critical sections of the semaphore ended while the request was open, of tasks with a lower base key than its own task
  unfoldable pub ends_lower : ℕ → ℕ → ℕ → Past → ℕ
  ends_lower r t s [] = 0
  ends_lower r t s (e ∷ past) =
      if frees_lower (above g past t) s (sem_act e) && is_open g r t s past then ends_lower r t s past + 1 else ends_lower r t s past

-- MPCP (Rajkumar, ICDCS 1990): while a request waits, at most one critical section of its semaphore ends whose task has a lower
-- base key; and these are a part of all that end.
pub record SeesOneLower (g : Group) (r t s : ℕ) (past : Past) : Type 0 where
  pub one_lower : ends_lower g r t s past ≤ 1
  pub among_all : ends_lower g r t s past ≤ ends_all g r t s past

abbrev pub OneLowerSection : Type 0
OneLowerSection = EveryPast (λ g past. (r t s : ℕ) → protocol g s ≡ Mpcp → SeesOneLower g r t s past)

-- That section was in progress when the request was made: where a task with a lower base key frees the semaphore while the request
-- waits, no critical section has ended since the request was made.
abbrev pub LowerSectionIsFirst : Type 0
LowerSectionIsFirst =
    EveryMove
    (λ g e past. (r t s u : ℕ) → protocol g s ≡ Mpcp → is_open g r t s past ≡ true → sem_act e ≡ Frees u s →
    above g past t u ≡ true → ends_all g r t s past ≡ 0)

-- an MPCP request that sees the critical section of a lower task end, and one of a higher task after it
pub record ReachesOneLower : Type 0 where
  pub group : Group
  pub past : Past
  pub is_valid : IsValid group.setup
  pub is_made : IsReachable group past
  pub no : ℕ
  pub task : ℕ
  pub sem : ℕ
  pub is_mpcp : protocol group sem ≡ Mpcp
  pub reached : ends_lower group no task sem past ≡ 1
  pub higher_too : ends_all group no task sem past ≡ 2

-- an MPCP request that sees more than n - 1 critical sections end, n the number of users, so that the bound of FMLP does not hold of MPCP:
-- higher tasks can pass the semaphore on to each other
pub record ExceedsFmlpBound : Type 0 where
  pub group : Group
  pub past : Past
  pub is_valid : IsValid group.setup
  pub is_made : IsReachable group past
  pub no : ℕ
  pub task : ℕ
  pub sem : ℕ
  pub is_mpcp : protocol group sem ≡ Mpcp
  pub waits_on : is_open group no task sem past ≡ true
  pub exceeded : length (users group sem) ≤ ends_all group no task sem past
