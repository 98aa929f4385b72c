-- Short forms for worked examples.
use Rattle.std.specs.Prelude.{◌≡◌, ℕ, ◌-◌, sum_by, Bool, true, false, List, [], map, Option, None, Some, option_map}
use Rattle.rt_base.specs.declared.SemNo.{SemNo}
use Rattle.rt_base.specs.declared.ResvNo.{ResvNo}
use Rattle.rt_task.specs.declared.Op.{Op}
use Rattle.rt_task.specs.declared.Op.TheVariants as ops
use Rattle.rt_task.specs.declared.Cluster.{Cluster}
use Rattle.rt_task.specs.declared.Drive.TheVariants.{Steps}
use Rattle.rt_task.specs.declared.Protocol.{Protocol}
use Rattle.rt_task.specs.declared.PluginKind.{PluginKind}
use Rattle.rt_task.specs.declared.Resv.{Resv}
use Rattle.rt_task.specs.declared.ResvKind.{ResvKind}
use Rattle.rt_task.specs.declared.ResvKind.TheVariants.{Table}
use Rattle.rt_task.specs.declared.Sem.{Sem}
use Rattle.rt_task.specs.declared.Slot.{Slot}
use Rattle.rt_task.specs.declared.Task.{Task}
use Rattle.rt_task.specs.declared.Step.{Step}
use Rattle.rt_task.specs.declared.Act.{Act}
use Rattle.rt_task.specs.declared.Act.TheVariants as acts
use Rattle.rt_task.specs.declared.Kind.{Kind}
use Rattle.rt_task.specs.declared.Kind.TheVariants.{Periodic, Sporadic}
use Rattle.rt_rules.specs.declared.history.Entry.{Entry}
use Rattle.rt_rules.specs.declared.history.Reply.{Reply}
use Rattle.rt_rules.specs.declared.history.Reply.TheVariants as replies
use Rattle.rt_rules.specs.Pcp.{TaskSem}
use Rattle.rt_model.specs.Blocking.{Asked, requests, ends, ends_all, bound}
use Rattle.rt_model.specs.Group.{Group, group_processors}
use Rattle.rt_model.specs.Histories.{played}
use Rattle.rt_model.specs.Links.{linked}
use Rattle.rt_model.specs.Past.{Past}
use Rattle.rt_model.specs.Reservations.{left, last}

abbrev pub sem_no : ℕ → SemNo
sem_no n = record { 0 = n }

abbrev pub resv_no : ℕ → ResvNo
resv_no n = record { 0 = n }

-- a task: its number and cluster, then its numbers in the order of a task's fields
abbrev pub task_with : ℕ → ℕ → ℕ → ℕ → ℕ → ℕ → Kind → ℕ → Bool → List ℕ → Option ℕ → Task
task_with n c cost period rel_deadline phase kind prio enforce uses r = record {
  number = record { 0 = n };
  name = [];
  cluster = record { 0 = c };
  cost = cost;
  period = period;
  rel_deadline = rel_deadline;
  phase = phase;
  kind = kind;
  prio = prio;
  enforce = enforce;
  uses = map sem_no uses;
  resv = option_map resv_no r;
  body = [];
  early = false;
}

-- a task by its number, cost, period and relative deadline, of cluster 0 and phase 0, and what is otherwise than so
abbrev pub periodic : ℕ → ℕ → ℕ → ℕ → Task
periodic n cost period rel_deadline = task_with n 0 cost period rel_deadline 0 Periodic 511 false [] None

abbrev pub sporadic : ℕ → ℕ → ℕ → ℕ → Task
sporadic n cost period rel_deadline = task_with n 0 cost period rel_deadline 0 Sporadic 511 false [] None

abbrev pub in_cluster : ℕ → Task → Task
in_cluster c t = record t { cluster = record { 0 = c } }

abbrev pub with_phase : ℕ → Task → Task
with_phase phase t = record t { phase = phase }

abbrev pub with_prio : ℕ → Task → Task
with_prio prio t = record t { prio = prio }

abbrev pub using : List ℕ → Task → Task
using ss t = record t { uses = map sem_no ss }

abbrev pub client_of : ℕ → Task → Task
client_of r t = record t { resv = Some (resv_no r) }

abbrev pub enforced : Task → Task
enforced t = record t { enforce = true }

abbrev pub early : Task → Task
early t = record t { early = true }

abbrev pub with_body : List Op → Task → Task
with_body ops t = record t { body = ops }

-- a cluster by its processors and its group
abbrev pub cluster_with : ℕ → ℕ → Cluster
cluster_with cpus n = record { cpus = cpus; group = record { 0 = n } }

abbrev pub sem_under : Protocol → Sem
sem_under p = record { name = []; protocol = p }

-- a reservation of cluster 0 by its kind, budget, period and priority
abbrev pub reservation : ResvKind → ℕ → ℕ → ℕ → Resv
reservation kind budget period prio =
    record { name = []; cluster = record { 0 = 0 }; kind = kind; budget = budget; period = period; prio = prio; slots = [] }

-- a slot from one tick of the cycle up to another, and a table reservation of cluster 0 by its period, priority and slots
abbrev pub slot : ℕ → ℕ → Slot
slot from to = record { from = from; to = to }

abbrev pub table : ℕ → ℕ → List Slot → Resv
table period prio slots =
    record (reservation Table (sum_by (λ (s : Slot). s.to - s.from) slots) period prio) { slots = slots }

-- group 0 of a set
abbrev pub group_of : PluginKind → List Cluster → List Sem → List Resv → List Task → Group
group_of plugin clusters sems resvs tasks = record {
  setup = record { plugin = plugin; clusters = clusters; sems = sems; resvs = resvs; tasks = tasks; drive = Steps [] };
  number = 0;
}

abbrev pub in_group : ℕ → Group → Group
in_group n g = record g { number = n }

-- acts
abbrev pub tick : Act
tick = acts.Tick

abbrev pub irq : Act
irq = acts.Irq

abbrev pub arrive : ℕ → Act
arrive t = acts.Arrive (record { 0 = t })

abbrev pub work : Act
work = acts.Do ops.Work

abbrev pub lock : ℕ → Act
lock s = acts.Do (ops.Lock (sem_no s))

abbrev pub unlock : ℕ → Act
unlock s = acts.Do (ops.Unlock (sem_no s))

abbrev pub sleep : ℕ → Act
sleep n = acts.Do (ops.Sleep n)

abbrev pub np_on : Act
np_on = acts.Do ops.NpOn

abbrev pub np_off : Act
np_off = acts.Do ops.NpOff

abbrev pub end : Act
end = acts.Do ops.End

abbrev pub runs_task : ℕ → Reply
runs_task t = replies.Runs (record { 0 = t })

abbrev pub step_of : ℕ → ℕ → Act → Step
step_of q t act = record { cpu = record { 0 = q }; tick = record { 0 = t }; act = act }

-- the link of a processor
abbrev pub to : ℕ → Option ℕ → ℕ × Option ℕ
to q t = (q, t)

-- a line of a trace: a step, its reply, and the links that it changed
pub record Line : Type 0 where
  pub step : Step
  pub reply : Reply
  pub links : List (ℕ × Option ℕ)

abbrev pub line : ℕ → ℕ → Act → Reply → List (ℕ × Option ℕ) → Line
line q t act reply links = record { step = step_of q t act; reply = reply; links = links }

abbrev pub steps_of : List Line → List Step
steps_of ls = map (λ (l : Line). l.step) ls

abbrev pub entries_of : List Line → List Entry
entries_of ls = map (λ (l : Line). record { step = l.step; reply = l.reply }) ls

-- a task and a semaphore that it holds
abbrev pub held_by : ℕ → ℕ → TaskSem
held_by t s = record { task = t; sem = s }

-- what is left of the budget of a reservation, and the clock of its last replenishment; of reservation 1
abbrev pub budget_at : ℕ → Group → Past → ℕ × Option ℕ
budget_at r g past = (left g r past, last g r past)

abbrev pub budget_of : Group → Past → ℕ × Option ℕ
budget_of g past = budget_at 1 g past

abbrev pub opening : Group → List (ℕ × Option ℕ)
opening g = map (λ q. (q, linked g q [])) (group_processors g)

-- the links at opening, and then the lines
abbrev pub IsTrace : Group → List (ℕ × Option ℕ) → List Line → Type 0
IsTrace g at_opening ls = (opening g ≡ at_opening) × (played g [] (steps_of ls) ≡ map (λ (l : Line). (l.reply, l.links)) ls)

-- the requests of a past: number, task, semaphore, the two counts and the bound
pub record Block : Type 0 where
  pub no : ℕ
  pub task : ℕ
  pub sem : ℕ
  pub ends : ℕ
  pub ends_all : ℕ
  pub bound : Option ℕ

abbrev pub block : ℕ → ℕ → ℕ → ℕ → ℕ → Option ℕ → Block
block n t s e a b = record { no = n; task = t; sem = s; ends = e; ends_all = a; bound = b }

abbrev pub block_of : Group → Past → Asked → Block
block_of g past r = block r.no r.task r.sem (ends g r.no r.task r.sem past) (ends_all g r.no r.task r.sem past) (bound g r.task r.sem)

abbrev pub blocks : Group → Past → List Block
blocks g past = map (block_of g past) (requests past)
