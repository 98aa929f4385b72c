-- What has become of the first of a cluster's eligible tasks since its links were placed.
use Rattle.std.specs.Prelude.{⊤, ℕ, Bool, true, false, ◌&&◌, List, if◌then◌else◌, is_none}
use Rattle.rt_base.specs.TaskNos.{number_of_task}
use Rattle.ready_queue.specs.declared.TopChange.{TopChange}
use Rattle.ready_queue.specs.Exchanges.{IsExchanged}
use Rattle.ready_queue.specs.Queue.{Queue, first_tasks}
use Rattle.link_table.specs.Linked.{Linked, IsPlacedFor}
use Rattle.cluster_table.specs.declared.pending.Pending.{Pending}
use Rattle.cluster_table.specs.declared.pending.Pending.TheVariants.{Nothing, One, Several}
use Rattle.cluster_table.specs.Clusters.{KeptCluster, IsStable}

-- a cluster by its tasks, with these links and runs
abbrev pub cluster_of : Queue → Linked → KeptCluster
cluster_of q l = record { cpus = q.most; keys = q.keys; linked = l }

abbrev pub is_nothing : Pending → Bool
is_nothing Nothing = true
is_nothing (One e) = false
is_nothing Several = false

-- one more change, which may take and bring nothing
abbrev pub after_change : TopChange → Pending → Pending
after_change e p = if is_none e.removed && is_none e.added then p else (if is_nothing p then One e else Several)

-- the links are placed for the tasks that were the first ones before
abbrev pub IsPending : Pending → KeptCluster → Type 0
IsPending Nothing k = IsStable k
IsPending (One e) k = (old : List ℕ) × IsPlacedFor old k.linked
    × IsExchanged old (first_tasks k.cpus k.keys) (number_of_task e.removed) (number_of_task e.added)
IsPending Several k = ⊤
