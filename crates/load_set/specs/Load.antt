-- The set that is generated for a number: C-EDF, two clusters of four processors, six OMLP semaphores, and forty tasks.
use Rattle.std.specs.Prelude.{ℕ, zero, suc, ◌+◌, ◌-◌, ◌*◌, ◌%◌, Bool, true, false, ◌==◌, List, [], ◌∷◌, ◌++◌, map, replicate, None, decimal}
use Rattle.rt_base.specs.declared.SemNo.{SemNo}
use Rattle.rt_base.specs.declared.TheConstants.{MOST_PRIO}
use Rattle.rt_task.specs.declared.Cluster.{Cluster}
use Rattle.rt_task.specs.declared.Drive.TheVariants.{Horizon}
use Rattle.rt_task.specs.declared.Kind.TheVariants.{Periodic}
use Rattle.rt_task.specs.declared.Op.{Op}
use Rattle.rt_task.specs.declared.Op.TheVariants as ops
use Rattle.rt_task.specs.declared.Parts.{Parts}
use Rattle.rt_task.specs.declared.PluginKind.TheVariants.{CEdf}
use Rattle.rt_task.specs.declared.Protocol.TheVariants.{Omlp}
use Rattle.rt_task.specs.declared.Sem.{Sem}
use Rattle.rt_task.specs.declared.Task.{Task}
use Rattle.rt_rules.specs.Numbers.{numbers_from}
use Rattle.load_set.specs.declared.draws.Drawn.{Drawn}
use Rattle.load_set.specs.Draws.{draw_from, after_four}

-- a name: a letter and a number
abbrev pub name_of : ℕ → ℕ → List ℕ
name_of letter n = letter ∷ decimal n

-- tasks 1, 3, 5 and so on are in cluster 0, the others in cluster 1
abbrev pub cluster_of : ℕ → ℕ
cluster_of i = (i - 1) % 2

abbrev pub tens : Drawn → ℕ
tens d = 1 + d.period % 100

abbrev pub cost_of : Drawn → ℕ
cost_of d = 1 + d.cost % tens d

-- where the third number is odd the task locks one of the three semaphores of its cluster
abbrev pub has_lock : Drawn → Bool
has_lock d = d.locks % 2 == 1

abbrev pub sem_of : ℕ → Drawn → ℕ
sem_of i d = 3 * cluster_of i + 1 + d.sem % 3

abbrev pub uses_of : Bool → ℕ → List SemNo
uses_of true s = record { 0 = s } ∷ []
uses_of false s = []

-- all its work is one critical section, or it has none
abbrev pub body_of : Bool → ℕ → ℕ → List Op
body_of true s w = ops.Lock (record { 0 = s }) ∷ replicate w ops.Work ++ ops.Unlock (record { 0 = s }) ∷ ops.End ∷ []
body_of false s w = replicate w ops.Work ++ ops.End ∷ []

unfoldable pub task_of : ℕ → Drawn → Task
task_of i d = record {
  number = record { 0 = i };
  name = name_of 116 i;
  cluster = record { 0 = cluster_of i };
  cost = cost_of d;
  period = 10 * tens d;
  rel_deadline = 10 * tens d;
  phase = 0;
  kind = Periodic;
  prio = MOST_PRIO;
  enforce = false;
  uses = uses_of (has_lock d) (sem_of i d);
  resv = None;
  body = body_of (has_lock d) (sem_of i d) (cost_of d);
  early = false;
}

-- so many tasks from number i on, with numbers that are drawn from a state
unfoldable pub tasks_from : ℕ → ℕ → ℕ → List Task
tasks_from zero i x = []
tasks_from (suc n) i x = task_of i (draw_from x) ∷ tasks_from n (suc i) (after_four x)

abbrev pub cluster_in : ℕ → Cluster
cluster_in g = record { cpus = 4; group = record { 0 = g } }

abbrev pub sem_named : ℕ → Sem
sem_named s = record { name = name_of 115 s; protocol = Omlp }

-- the set for a number, which is the state that the first draw moves on
abbrev pub load_of : ℕ → Parts
load_of n = record {
  plugin = CEdf;
  clusters = map cluster_in (numbers_from 0 2);
  sems = map sem_named (numbers_from 1 6);
  resvs = [];
  tasks = tasks_from 40 1 n;
  drive = Horizon 1000;
}
