-- What is kept of a group: the clock, and the facts of each task and of each processor, in lists.
use Rattle.std.specs.Prelude.{◌≡◌, ℕ, ◌-◌, ◌<◌, max, Bool, true, false, List, [], ◌∷◌, length, replicate, Option, None, Some}
use Rattle.std.specs.Prelude.{if◌then◌else◌, slice_index_or, slice_set}
use Rattle.rt_task.specs.declared.Act.{Act}
use Rattle.rt_task.specs.declared.Act.TheVariants as acts
use Rattle.rt_task.specs.declared.Op.{Op}
use Rattle.rt_task.specs.declared.Step.{Step}
use Rattle.rt_task.specs.declared.Task.{Task}
use Rattle.rt_rules.specs.declared.history.Reply.{Reply}
use Rattle.rt_rules.specs.Numbers.{has, is_empty}
use Rattle.rt_model.specs.Answers.{answer}
use Rattle.rt_model.specs.Group.{Group, no_task, tasks, group_processors}
use Rattle.rt_model.specs.Histories.{after, reply_to}
use Rattle.rt_model.specs.Holders.{holds}
use Rattle.rt_model.specs.Past.{Clock, Past, now, accepted}
use Rattle.rt_model.specs.Runs.{runs}
use Rattle.rt_laws.specs.EveryPast.{EveryPast}
use Rattle.rt_changes.specs.Touched.{arriving}
use Rattle.group_jobs.specs.Facts.{JobFacts, CpuFacts, no_job, idle_cpu, job_facts, cpu_facts}
use Rattle.group_jobs.specs.FactMoves.{with_act}
use Rattle.group_jobs.specs.Moves.{is_end, after_op, job_arrived, cpu_after}
use Rattle.group_jobs.specs.Words.{AreRead}

-- the jobs by the task's number less 1, the processors by their number
pub record Kept : Type 0 where
  pub clock : ℕ
  pub jobs : List JobFacts
  pub cpus : List CpuFacts

abbrev pub job_of : Kept → ℕ → JobFacts
job_of k t = slice_index_or k.jobs (t - 1) no_job

abbrev pub cpu_of : Kept → ℕ → CpuFacts
cpu_of k q = slice_index_or k.cpus q idle_cpu

-- each part is what its definition gives at this past, for the group's tasks and processors
pub record IsKept (g : Group) (past : Past) (k : Kept) : Type 0 where
  pub clock_is : k.clock ≡ now past
  pub jobs_length : length k.jobs ≡ length g.setup.tasks
  pub jobs_are : (t : ℕ) → has t (tasks g) ≡ true → job_of k t ≡ job_facts t past
  pub cpus_room : (q : ℕ) → has q (group_processors g) ≡ true → q < length k.cpus
  pub cpus_are : (q : ℕ) → has q (group_processors g) ≡ true → cpu_of k q ≡ cpu_facts q past

-- ---- what moves make of it

-- at the opening, of n tasks and m processors
abbrev pub opened : ℕ → ℕ → Kept
opened n m = record { clock = 0; jobs = replicate n no_job; cpus = replicate m idle_cpu }

abbrev pub with_clock : ℕ → Kept → Kept
with_clock tick k = record k { clock = max k.clock tick }

abbrev pub with_job : ℕ → JobFacts → Kept → Kept
with_job t job k = record k { jobs = slice_set k.jobs (t - 1) job }

abbrev pub with_cpu : ℕ → CpuFacts → Kept → Kept
with_cpu q cpu k = record k { cpus = slice_set k.cpus q cpu }

-- an interrupt of the processor, answered so
abbrev pub interrupted : ℕ → Reply → Kept → Kept
interrupted q reply k = with_cpu q (cpu_after k.clock acts.Irq reply false (cpu_of k q)) k

-- an arrival of the task
abbrev pub has_arrived : ℕ → Kept → Kept
has_arrived t k = with_job t (job_arrived k.clock (job_of k t)) k

-- an operation of the task that the processor runs, answered so; `holds_none`: the task holds no semaphore after it
abbrev pub has_operated : List Task → ℕ → ℕ → Op → Reply → Bool → Kept → Kept
has_operated all q t op reply holds_none k =
    let task = slice_index_or all (t - 1) no_task in
    with_cpu q (cpu_after k.clock (acts.Do op) reply (is_end task k.clock op holds_none (job_of k t)) (cpu_of k q))
    (with_job t (after_op task k.clock op holds_none (job_of k t)) k)

-- an accepted act of a processor that runs this task, or nothing
abbrev pub after_act : List Task → ℕ → Act → Option ℕ → Reply → Bool → Kept → Kept
after_act all q acts.Tick o reply holds_none k = k
after_act all q acts.Irq o reply holds_none k = interrupted q reply k
after_act all q (acts.Arrive t) o reply holds_none k = has_arrived t.0 k
after_act all q (acts.Do op) None reply holds_none k = k
after_act all q (acts.Do op) (Some t) reply holds_none k = has_operated all q t op reply holds_none k

-- an act, answered so
abbrev pub has_acted : List Task → ℕ → Act → Reply → Bool → Kept → Kept
has_acted all q act reply holds_none k = if accepted reply then after_act all q act (cpu_of k q).runs reply holds_none k else k

-- ---- that it is kept

-- there is room for the processors of the group
abbrev pub HasRoom : Group → ℕ → Type 0
HasRoom g m = (q : ℕ) → has q (group_processors g) ≡ true → q < m

abbrev pub KeptAtOpening : Type 0
KeptAtOpening = (g : Group) (m : ℕ) → HasRoom g m → IsKept g [] (opened (length g.setup.tasks) m)

abbrev pub KeptAfterClock : Type 0
KeptAfterClock = EveryPast (λ g past. (tick : ℕ) (k : Kept) → IsKept g past k → IsKept g (Clock tick ∷ past) (with_clock tick k))

-- the processor is of the group, and so is the task, if one arrives
pub record IsOfGroup (g : Group) (q : ℕ) (act : Act) : Type 0 where
  pub inside : has q (group_processors g) ≡ true
  pub arrives_in : (t : ℕ) → arriving act ≡ Some t → has t (tasks g) ≡ true

-- whether the task that the processor ran holds nothing after the act
abbrev pub HoldsNone : Group → ℕ → Act → Past → Bool → Type 0
HoldsNone g q act past holds_none = (t : ℕ) → runs q past ≡ Some t → is_empty (holds g t (with_act g q act past)) ≡ holds_none

abbrev pub KeptAfterAct : Type 0
KeptAfterAct = EveryPast (λ g past. (q : ℕ) (act : Act) (holds_none : Bool) (k : Kept) → IsOfGroup g q act
    → HoldsNone g q act past holds_none → IsKept g past k
    → IsKept g (with_act g q act past) (has_acted g.setup.tasks q act (answer g q act past) holds_none k))

-- At each past there is what is kept of it.
abbrev pub KeptIsThere : Type 0
KeptIsThere = (g : Group) (m : ℕ) (past : Past) → HasRoom g m → (k : Kept) × IsKept g past k

-- a step: a move of the clock and an act
abbrev pub has_stepped : List Task → Step → Reply → Bool → Kept → Kept
has_stepped all step reply holds_none k = has_acted all step.cpu.0 step.act reply holds_none (with_clock step.tick.0 k)

abbrev pub KeptAfterStep : Type 0
KeptAfterStep = EveryPast (λ g past. (step : Step) (holds_none : Bool) (k : Kept) → IsOfGroup g step.cpu.0 step.act
    → HoldsNone g step.cpu.0 step.act (Clock step.tick.0 ∷ past) holds_none → IsKept g past k
    → IsKept g (after g step past) (has_stepped g.setup.tasks step (reply_to g step past) holds_none k))

-- The words of the model are read off what is kept.
abbrev pub WordsOfKept : Type 0
WordsOfKept = (g : Group) (past : Past) (k : Kept) → IsKept g past k → (t : ℕ) → has t (tasks g) ≡ true
    → AreRead g t past k.clock (job_of k t)
