-- A group of a setup: its clusters, processors, tasks and semaphores.
use Rattle.std.specs.Prelude.{ℕ, zero, suc, ◌+◌, ◌-◌, Bool, false, ◌==◌, nat_lt, List, [], ◌∷◌, length, map, Option, None, Some}
use Rattle.std.specs.Prelude.{if◌then◌else◌, slice_index_or, flat_map}
use Rattle.std.specs.List.{filter}
use Rattle.rt_base.specs.declared.SemNo.{SemNo}
use Rattle.rt_base.specs.declared.ResvNo.{ResvNo}
use Rattle.rt_task.specs.declared.Parts.{Parts}
use Rattle.rt_task.specs.declared.Task.{Task}
use Rattle.rt_task.specs.declared.Sem.{Sem}
use Rattle.rt_task.specs.declared.Resv.{Resv}
use Rattle.rt_task.specs.declared.Cluster.{Cluster}
use Rattle.rt_task.specs.declared.Kind.TheVariants.{Periodic}
use Rattle.rt_task.specs.declared.ResvKind.TheVariants.{Polling}
use Rattle.rt_task.specs.declared.Protocol.{Protocol}
use Rattle.rt_task.specs.declared.Protocol.TheVariants.{Fmlp}
use Rattle.rt_rules.specs.Numbers.{numbers_from, has}

pub record Group : Type 0 where
  pub setup : Parts
  pub number : ℕ

-- what a number that stands for nothing is read as
abbrev pub no_task : Task
no_task = record {
  number = record { 0 = 0 };
  name = [];
  cluster = record { 0 = 0 };
  cost = 0;
  period = 0;
  rel_deadline = 0;
  phase = 0;
  kind = Periodic;
  prio = 0;
  enforce = false;
  uses = [];
  resv = None;
  body = [];
  early = false;
}

abbrev pub no_cluster : Cluster
no_cluster = record { cpus = 0; group = record { 0 = 0 } }

abbrev pub no_sem : Sem
no_sem = record { name = []; protocol = Fmlp }

abbrev pub no_resv : Resv
no_resv = record { name = []; cluster = record { 0 = 0 }; kind = Polling; budget = 0; period = 0; prio = 0; slots = [] }

-- processors are numbered through the clusters in order: the first of a cluster, and the cluster of a processor
abbrev pub first_in : List Cluster → ℕ → ℕ
first_in [] c = 0
first_in (k ∷ ks) zero = 0
first_in (k ∷ ks) (suc c) = k.cpus + first_in ks c

abbrev pub cluster_in : List Cluster → ℕ → ℕ
cluster_in [] q = 0
cluster_in (k ∷ ks) q = if nat_lt q k.cpus then 0 else suc (cluster_in ks (q - k.cpus))

module _ (g : Group) where
  unfoldable pub task : ℕ → Task
  task t = slice_index_or g.setup.tasks (t - 1) no_task

  unfoldable pub cluster : ℕ → Cluster
  cluster c = slice_index_or g.setup.clusters c no_cluster

  unfoldable pub sem : ℕ → Sem
  sem s = slice_index_or g.setup.sems (s - 1) no_sem

  unfoldable pub resv : ℕ → Resv
  resv r = slice_index_or g.setup.resvs (r - 1) no_resv

  -- m, the number of processors of a cluster
  unfoldable pub cpus : ℕ → ℕ
  cpus c = (cluster c).cpus

  unfoldable pub home : ℕ → ℕ
  home t = (task t).cluster.0

  unfoldable pub in_group : ℕ → Bool
  in_group c = (cluster c).group.0 == g.number

  -- the clusters of the group, the processors of a cluster, and the tasks of a cluster and of the group, by rising number
  unfoldable pub clusters : List ℕ
  clusters = filter in_group (numbers_from 0 (length g.setup.clusters))

  unfoldable pub first_cpu : ℕ → ℕ
  first_cpu c = first_in g.setup.clusters c

  unfoldable pub processors : ℕ → List ℕ
  processors c = numbers_from (first_cpu c) (cpus c)

  -- the processors of the group, and the cluster of a processor
  unfoldable pub group_processors : List ℕ
  group_processors = flat_map processors clusters

  unfoldable pub cluster_with : ℕ → ℕ
  cluster_with q = cluster_in g.setup.clusters q

  unfoldable pub tasks : List ℕ
  tasks = filter (λ t. in_group (home t)) (numbers_from 1 (length g.setup.tasks))

  unfoldable pub tasks_of : ℕ → List ℕ
  tasks_of c = filter (λ t. home t == c) tasks

  unfoldable pub sems : List ℕ
  sems = numbers_from 1 (length g.setup.sems)

  unfoldable pub protocol : ℕ → Protocol
  protocol s = (sem s).protocol

  unfoldable pub declares : ℕ → ℕ → Bool
  declares t s = has s (map (λ (n : SemNo). n.0) (task t).uses)

  -- the tasks that declare a semaphore
  unfoldable pub users : ℕ → List ℕ
  users s = filter (λ t. declares t s) tasks

  unfoldable pub served_by : ℕ → ℕ
  served_by t = resv_number (task t).resv
    where
      resv_number : Option ResvNo → ℕ
      resv_number None = 0
      resv_number (Some r) = r.0

  unfoldable pub clients : ℕ → List ℕ
  clients r = filter (λ t. served_by t == r) tasks
