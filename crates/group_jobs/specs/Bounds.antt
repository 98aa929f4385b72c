-- How far the facts of a task can grow.
use Rattle.std.specs.Prelude.{◌≡◌, ℕ, ◌+◌, ◌≤◌, [], ◌∷◌, true, length, Some, ⊤}
use Rattle.rt_task.specs.declared.Act.{Act}
use Rattle.rt_task.specs.declared.Act.TheVariants as acts
use Rattle.rt_task.specs.declared.Op.TheVariants as ops
use Rattle.rt_rules.specs.Numbers.{has}
use Rattle.rt_model.specs.Past.{Clock, Acted, Past, now, entries_in}
use Rattle.group_jobs.specs.Facts.{JobFacts, job_facts}

-- counts are at most the number of acts, and moments of arrivals at most the clock
pub record AreBounded (acts clock : ℕ) (job : JobFacts) : Type 0 where
  pub counts : job.done + job.ops_done ≤ acts
  pub used_low : job.used ≤ job.ops_done
  pub arrived_low : job.arrived ≤ acts
  pub few_to_come : length job.to_come ≤ job.arrived
  pub newest_come : (n : ℕ) → job.newest ≡ Some n → n ≤ clock
  pub all_come : (n : ℕ) → has n job.to_come ≡ true → n ≤ clock

abbrev pub FactsAreBounded : Type 0
FactsAreBounded = (t : ℕ) (past : Past) → AreBounded (entries_in past) (now past) (job_facts t past)

-- no Sleep asks for more than the limit
abbrev pub SleepFits : ℕ → Act → Type 0
SleepFits limit (acts.Do (ops.Sleep n)) = n ≤ limit
SleepFits limit _ = ⊤

abbrev pub SleepsFit : ℕ → Past → Type 0
SleepsFit limit [] = ⊤
SleepsFit limit (Clock tick ∷ past) = SleepsFit limit past
SleepsFit limit (Acted d ∷ past) = SleepFits limit d.act × SleepsFit limit past

abbrev pub WakesAreBounded : Type 0
WakesAreBounded = (limit t : ℕ) (past : Past) → SleepsFit limit past → (job_facts t past).wakes ≤ now past + limit
