-- The list of requests is kept entry by entry, and what the bounds say of it.
use Rattle.std.specs.Prelude.{◌≡◌, ℕ, true, List, [], ◌∷◌}
use Rattle.rt_task.specs.declared.Step.{Step}
use Rattle.rt_rules.specs.Numbers.{has}
use Rattle.rt_rules.specs.SemState.{SemAct, Frees}
use Rattle.rt_model.specs.Blocking.{bound}
use Rattle.rt_model.specs.Group.{Group, sems}
use Rattle.rt_model.specs.Histories.{after, clock_moved, reply_to}
use Rattle.rt_model.specs.Past.{Past, Clock, entries_in}
use Rattle.rt_model.specs.Runs.{runs}
use Rattle.rt_laws.specs.EveryPast.{EveryPast}
use Rattle.rt_changes.specs.Tallies.{AreWaiters, Waiter, act_by, fed, tallies, waiters}

-- Before any entry there is no request, and a move of the clock changes none.
pub record OpensEmpty : Type 0 where
  pub opened : (g : Group) → tallies g [] ≡ []
  pub clocked : (g : Group) (tick : ℕ) (past : Past) → tallies g (Clock tick ∷ past) ≡ tallies g past

-- what a step does at a semaphore, read between its two moves
abbrev pub act_of : Group → Step → Past → SemAct
act_of g step past = act_by step.act (reply_to g step past) (runs step.cpu.0 (clock_moved step past))

-- One entry: the list of the longer past is made of the list of the past, of the entry's act and reply, of what its processor runs,
-- and of the tasks that wait for the semaphore that it frees, between the two moves of its step.
abbrev pub EntryFeeds : Type 0
EntryFeeds =
    (g : Group) (step : Step) (past : Past) (ws : List Waiter) →
    ((t s : ℕ) → act_of g step past ≡ Frees t s → AreWaiters g s (clock_moved step past) ws) →
    tallies g (after g step past) ≡ fed (bound g) (entries_in past) (act_of g step past) ws (tallies g past)

-- The tasks that wait for a semaphore are those on its waiting list.
abbrev pub WaitingListsWait : Type 0
WaitingListsWait = EveryPast (λ g past. (s : ℕ) → has s (sems g) ≡ true → AreWaiters g s past (waiters g s past))
