-- Which tasks are under way, as an engine keeps it for SRP (Baker, Real-Time Systems, 1991): in a list by the number of the task less 1.
use Rattle.std.specs.Prelude.{◌≡◌, ℕ, ◌-◌, Bool, true, false, not, ◌&&◌, List, [], ◌∷◌, length, replicate, Option, None, Some, is_some}
use Rattle.std.specs.Prelude.{if◌then◌else◌, slice_index_or, slice_set}
use Rattle.rt_task.specs.declared.Act.{Act}
use Rattle.rt_task.specs.declared.Act.TheVariants as acts
use Rattle.rt_task.specs.declared.Op.{Op}
use Rattle.rt_rules.specs.declared.history.Reply.{Reply}
use Rattle.rt_rules.specs.declared.history.Reply.TheVariants as replies
use Rattle.rt_rules.specs.Numbers.{has}
use Rattle.rt_model.specs.Answers.{answer}
use Rattle.rt_model.specs.Group.{Group, tasks}
use Rattle.rt_model.specs.Outcomes.{past_act}
use Rattle.rt_model.specs.Past.{Clock, Past, accepted}
use Rattle.rt_model.specs.Runs.{runs}
use Rattle.rt_model.specs.UnderWay.{is_sleep, under_way}
use Rattle.rt_laws.specs.EveryPast.{EveryPast}
use Rattle.group_jobs.specs.FactMoves.{with_act}

abbrev pub way_of : List Bool → ℕ → Bool
way_of ways t = slice_index_or ways (t - 1) false

pub record AreWays (g : Group) (past : Past) (ways : List Bool) : Type 0 where
  pub length_is : length ways ≡ length g.setup.tasks
  pub ways_are : (t : ℕ) → has t (tasks g) ≡ true → way_of ways t ≡ under_way t past

-- an interrupt starts the task that its processor then runs
abbrev pub started : Reply → List Bool → List Bool
started (replies.Runs t) ways = slice_set ways (t.0 - 1) true
started _ ways = ways

-- an operation that ends the job or puts it to sleep ends this
abbrev pub way_after : Bool → Op → Bool → Bool
way_after ends op way = not ends && (not (is_sleep (Some op)) && way)

-- an act, answered so, of a processor that runs this; `ends`: it ends the job
abbrev pub ways_after : Act → Option ℕ → Reply → Bool → List Bool → List Bool
ways_after acts.Irq o reply ends ways = started reply ways
ways_after (acts.Do op) (Some t) reply ends ways =
    if accepted reply then slice_set ways (t - 1) (way_after ends op (way_of ways t)) else ways
ways_after _ o reply ends ways = ways

abbrev pub WaysAtOpening : Type 0
WaysAtOpening = (g : Group) → AreWays g [] (replicate (length g.setup.tasks) false)

abbrev pub WaysAfterClock : Type 0
WaysAfterClock = EveryPast (λ g past. (tick : ℕ) (ways : List Bool) → AreWays g past ways → AreWays g (Clock tick ∷ past) ways)

abbrev pub WaysAfterAct : Type 0
WaysAfterAct = EveryPast (λ g past. (q : ℕ) (act : Act) (ways : List Bool) → AreWays g past ways
    → AreWays g (with_act g q act past) (ways_after act (runs q past) (answer g q act past) (is_some (past_act g q act past).ended) ways))
