-- The facts after a move: of the task that runs or arrives, of the processor that acts, and that all others stay.
use Rattle.std.specs.Prelude.{◌≡◌, ℕ, Bool, true, false, ◌==◌, ◌∷◌, None, Some, if◌then◌else◌, is_some}
use Rattle.rt_base.specs.declared.TaskNo.{TaskNo}
use Rattle.rt_task.specs.declared.Act.{Act}
use Rattle.rt_task.specs.declared.Act.TheVariants as acts
use Rattle.rt_task.specs.declared.Op.{Op}
use Rattle.rt_rules.specs.Numbers.{has, is_empty}
use Rattle.rt_model.specs.Answers.{answer}
use Rattle.rt_model.specs.Group.{Group, task}
use Rattle.rt_model.specs.Holders.{holds}
use Rattle.rt_model.specs.Outcomes.{past_act}
use Rattle.rt_model.specs.Past.{Clock, Acted, Past, now, accepted}
use Rattle.rt_model.specs.Runs.{runs}
use Rattle.rt_changes.specs.Touched.{touched_by}
use Rattle.rt_laws.specs.EveryPast.{EveryPast}
use Rattle.group_jobs.specs.Facts.{job_facts, cpu_facts}
use Rattle.group_jobs.specs.Moves.{is_end, after_op, job_arrived, cpu_after}

-- the past with an act
abbrev pub with_act : Group → ℕ → Act → Past → Past
with_act g q act past = Acted (past_act g q act past) ∷ past

-- the task that runs, once an operation of its processor is counted: its facts, and whether its job has ended
pub record IsOperated (g : Group) (q t : ℕ) (op : Op) (past : Past) (holds_none : Bool) : Type 0 where
  pub facts_are : job_facts t (with_act g q (acts.Do op) past) ≡ after_op (task g t) (now past) op holds_none (job_facts t past)
  pub ended_is : (past_act g q (acts.Do op) past).ended
      ≡ (if is_end (task g t) (now past) op holds_none (job_facts t past) then Some t else None)

-- So it is after each operation that is accepted; what the task holds is asked after it.
abbrev pub OperationIsCounted : Type 0
OperationIsCounted = (g : Group) (q t : ℕ) (op : Op) (past : Past) → runs q past ≡ Some t → accepted (answer g q (acts.Do op) past) ≡ true
    → IsOperated g q t op past (is_empty (holds g t (with_act g q (acts.Do op) past)))

-- the task that arrives, once that is counted: its facts, that no job ends, and that the facts of other tasks stay
pub record IsArrived (g : Group) (q : ℕ) (t : TaskNo) (past : Past) : Type 0 where
  pub facts_are : job_facts t.0 (with_act g q (acts.Arrive t) past) ≡ job_arrived (now past) (job_facts t.0 past)
  pub ends_none : (past_act g q (acts.Arrive t) past).ended ≡ None
  pub others : (u : ℕ) → u == t.0 ≡ false → job_facts u (with_act g q (acts.Arrive t) past) ≡ job_facts u past

-- So it is after each arrival that is accepted, whichever processor says so.
abbrev pub ArrivalIsCounted : Type 0
ArrivalIsCounted = (g : Group) (q : ℕ) (t : TaskNo) (past : Past) → accepted (answer g q (acts.Arrive t) past) ≡ true
    → IsArrived g q t past

-- an act counts for no task, and ends no job
pub record CountsNothing (g : Group) (q : ℕ) (act : Act) (past : Past) : Type 0 where
  pub facts_stay : (t : ℕ) → job_facts t (with_act g q act past) ≡ job_facts t past
  pub ends_none : (past_act g q act past).ended ≡ None

-- A Tick and an interrupt do.
abbrev pub OthersCountNothing : Type 0
OthersCountNothing = (g : Group) (q : ℕ) (past : Past) → CountsNothing g q acts.Tick past × CountsNothing g q acts.Irq past

-- An act changes no facts of a task that it does not touch.
abbrev pub OtherJobsStay : Type 0
OtherJobsStay = EveryPast (λ g past. (q t : ℕ) (act : Act) → has t (touched_by g q act past) ≡ false
    → job_facts t (with_act g q act past) ≡ job_facts t past)

-- the facts of the processor that acts, and that those of the others stay
pub record CpuIsAfter (g : Group) (q : ℕ) (act : Act) (past : Past) : Type 0 where
  pub own : cpu_facts q (with_act g q act past)
      ≡ cpu_after (now past) act (answer g q act past) (is_some (past_act g q act past).ended) (cpu_facts q past)
  pub others : (p : ℕ) → q == p ≡ false → cpu_facts p (with_act g q act past) ≡ cpu_facts p past

-- So it is after each act.
abbrev pub CpuIsCounted : Type 0
CpuIsCounted = (g : Group) (q : ℕ) (act : Act) (past : Past) → CpuIsAfter g q act past

-- all facts are the same in two pasts
pub record AllStay (past past' : Past) : Type 0 where
  pub jobs : (t : ℕ) → job_facts t past' ≡ job_facts t past
  pub cpus : (q : ℕ) → cpu_facts q past' ≡ cpu_facts q past

-- An act that is refused changes no facts.
abbrev pub RefusedStays : Type 0
RefusedStays = EveryPast (λ g past. (q : ℕ) (act : Act) → accepted (answer g q act past) ≡ false → AllStay past (with_act g q act past))

-- A move of the clock changes the clock alone.
abbrev pub ClockStays : Type 0
ClockStays = EveryPast (λ g past. (tick : ℕ) → AllStay past (Clock tick ∷ past))
