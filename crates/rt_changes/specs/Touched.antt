-- Which tasks' facts a move can change: an act's are of the task that its processor runs and of the one that arrives, a clock
-- move's of those that come due.
use Rattle.std.specs.Prelude.{◌≡◌, ℕ, Bool, false, ◌&&◌, ◌||◌, nat_lt, nat_le, max, List, [], ◌∷◌, Option, None, Some, if◌then◌else◌}
use Rattle.rt_task.specs.declared.Act.{Act}
use Rattle.rt_task.specs.declared.Act.TheVariants as acts
use Rattle.rt_rules.specs.Numbers.{has}
use Rattle.rt_rules.specs.Placing.{tasks_in}
use Rattle.rt_model.specs.Answers.{answer}
use Rattle.rt_model.specs.Group.{Group}
use Rattle.rt_model.specs.Jobs.{done, used, position_in_body}
use Rattle.rt_model.specs.NonPreemptive.{non_preemptive}
use Rattle.rt_model.specs.Outcomes.{past_act}
use Rattle.rt_model.specs.Past.{Clock, Acted, Past, now, accepted}
use Rattle.rt_model.specs.Releases.{arrivals, release, deadline, is_released, opens_early, exists, ready}
use Rattle.rt_model.specs.Runs.{runs}
use Rattle.rt_model.specs.Sleep.{wakes, sleeps}
use Rattle.rt_laws.specs.EveryPast.{EveryPast}

-- the task that arrives, if the act is an arrival
abbrev pub arriving : Act → Option ℕ
arriving (acts.Arrive t) = Some t.0
arriving _ = None

-- the tasks whose facts an act can change: none where it is refused
abbrev pub touched_by : Group → ℕ → Act → Past → List ℕ
touched_by g q act past = if accepted (answer g q act past) then tasks_in (runs q past ∷ arriving act ∷ []) else []

-- what is counted of a task's job and of its arrivals, and what follows from these alone, is the same in two pasts
pub record SameJob (g : Group) (t : ℕ) (past past' : Past) : Type 0 where
  pub done_same : done t past' ≡ done t past
  pub used_same : used t past' ≡ used t past
  pub position_same : position_in_body t past' ≡ position_in_body t past
  pub wakes_same : wakes t past' ≡ wakes t past
  pub np_same : non_preemptive t past' ≡ non_preemptive t past
  pub arrivals_same : arrivals t past' ≡ arrivals t past
  pub release_same : release g t past' ≡ release g t past
  pub deadline_same : deadline g t past' ≡ deadline g t past

-- whether the job is there, and whether it sleeps, is the same too
pub record SameReady (g : Group) (t : ℕ) (past past' : Past) : Type 0 where
  pub released_same : is_released g t past' ≡ is_released g t past
  pub early_same : opens_early g t past' ≡ opens_early g t past
  pub exists_same : exists g t past' ≡ exists g t past
  pub sleeps_same : sleeps t past' ≡ sleeps t past
  pub ready_same : ready g t past' ≡ ready g t past

pub record SameFacts (g : Group) (t : ℕ) (past past' : Past) : Type 0 where
  pub same_job : SameJob g t past past'
  pub same_ready : SameReady g t past past'

-- An act changes no fact of a task that it does not touch.
abbrev pub ActsTouchFew : Type 0
ActsTouchFew =
    EveryPast (λ g past. (q : ℕ) (act : Act) (t : ℕ) → has t (touched_by g q act past) ≡ false
    → SameFacts g t past (Acted (past_act g q act past) ∷ past))

-- A move of the clock changes nothing that is counted of any task.
abbrev pub ClockKeepsJobs : Type 0
ClockKeepsJobs = EveryPast (λ g past. (tick t : ℕ) → SameJob g t past (Clock tick ∷ past))

-- a moment lies after a clock, and not after another
abbrev pub lies_in : ℕ → ℕ → ℕ → Bool
lies_in from to n = nat_lt from n && nat_le n to

abbrev pub release_lies_in : ℕ → ℕ → Option ℕ → Bool
release_lies_in from to None = false
release_lies_in from to (Some r) = lies_in from to r

-- as the clock moves to a tick the release of the task's job comes, or its sleep ends
abbrev pub comes_due : Group → ℕ → ℕ → Past → Bool
comes_due g tick t past =
    let to = max (now past) tick in release_lies_in (now past) to (release g t past) || lies_in (now past) to (wakes t past)

-- A move of the clock changes no task that does not come due.
abbrev pub ClockTouchesDue : Type 0
ClockTouchesDue = EveryPast (λ g past. (tick t : ℕ) → comes_due g tick t past ≡ false → SameReady g t past (Clock tick ∷ past))
