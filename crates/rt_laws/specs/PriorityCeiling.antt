-- The priority ceiling protocol (Sha, Rajkumar and Lehoczky, IEEE Transactions on Computers, 1990): what it keeps, and that waits
-- never come round.
use Rattle.std.specs.Prelude.{◌≡◌, ◌≢◌, ℕ, ◌+◌, ◌≤◌, true, false, List, [], ◌∷◌, ◌++◌, length, None, Some}
use Rattle.rt_rules.specs.Distinct.{IsDistinct}
use Rattle.rt_rules.specs.Pcp.{PcpState, TaskSem, passes}
use Rattle.rt_rules.specs.SemState.{Frees}
use Rattle.rt_rules.specs.Walks.{walk}
use Rattle.rt_model.specs.Ceilings.{is_pcp, above_ceiling, pcp}
use Rattle.rt_model.specs.EffectiveKeys.{waits_for}
use Rattle.rt_model.specs.Group.{Group, home, tasks, protocol}
use Rattle.rt_model.specs.Holders.{awaits}
use Rattle.rt_model.specs.Past.{Past, sem_act}
use Rattle.rt_laws.specs.EveryPast.{EveryPast, EveryMove}

-- Each waiting task does not pass: its base key is not above the ceiling of each semaphore that others hold.
abbrev pub WaitingDoesNotPass : Type 0
WaitingDoesNotPass =
    EveryPast (λ g past. (t s : ℕ) → is_pcp (protocol g s) ≡ true → awaits g t past ≡ Some s →
    passes (above_ceiling g) (pcp g (home g t) past).held t ≡ false)

-- Of two held semaphores of different holders, the later holder's base key is above the earlier one's ceiling.
abbrev pub LaterIsAboveCeiling : Type 0
LaterIsAboveCeiling =
    EveryPast (λ g past. (c : ℕ) (newest between oldest : List TaskSem) (later earlier : TaskSem) →
    (pcp g c past).held ≡ newest ++ later ∷ (between ++ earlier ∷ oldest) → later.task ≢ earlier.task →
    above_ceiling g later.task earlier.sem ≡ true)

-- the tasks that a walk along waits reaches from a task, and where it ends
abbrev pub reached_from : Group → ℕ → Past → List ℕ
reached_from g t past = walk (λ u. waits_for g u past) (length (tasks g)) (waits_for g t past)

abbrev pub end_of : ℕ → List ℕ → ℕ
end_of t [] = t
end_of t (u ∷ us) = end_of u us

-- a walk visits no task twice and ends at a task that does not wait
pub record WalkEnds (g : Group) (t : ℕ) (past : Past) : Type 0 where
  pub once : IsDistinct (t ∷ reached_from g t past)
  pub free : awaits g (end_of t (reached_from g t past)) past ≡ None

-- Every walk from a task that waits to the task that blocks it, and on, visits no task twice and ends at a task that does not wait.
abbrev pub WalksEnd : Type 0
WalksEnd = EveryPast (λ g past. (t : ℕ) → WalkEnds g t past)

-- A walk from a task that waits has one step: whoever blocks does not wait, under each protocol.
abbrev pub WalksHaveOneStep : Type 0
WalksHaveOneStep = EveryPast (λ g past. (t s : ℕ) → awaits g t past ≡ Some s → length (reached_from g t past) ≡ 1)

-- of the requests that wait in a cluster at most one is granted, and no more is held than before
pub record GrantsOne (before after : PcpState) : Type 0 where
  pub waiting : length before.waiting ≤ length after.waiting + 1
  pub held : length after.held ≤ length before.held

-- An Unlock grants at most one request that waits.
abbrev pub UnlockGrantsOne : Type 0
UnlockGrantsOne = EveryMove (λ g e past. (c t s : ℕ) → sem_act e ≡ Frees t s → GrantsOne (pcp g c past) (pcp g c (e ∷ past)))
