-- One cluster: the keys of its eligible tasks, and what its processors run and are linked to.
use Rattle.std.specs.Prelude.{◌≡◌, ℕ, suc, ◌+◌, Bool, ◌==◌, List, [], ◌∷◌, ◌++◌, replicate, Option, None, Some, if◌then◌else◌, slice_set}
use Rattle.rt_rules.specs.declared.Key.{Key}
use Rattle.rt_rules.specs.Placing.{placed}
use Rattle.rt_task.specs.declared.Cluster as sets
use Rattle.ready_queue.specs.Queue.{first_tasks}
use Rattle.link_table.specs.Linked.{Linked, after_irq, unlinked, with_run}

-- at each task's number the key of its job, where that is eligible; the links and runs of the processors
pub record KeptCluster : Type 0 where
  pub cpus : ℕ
  pub keys : List (Option Key)
  pub linked : Linked

-- a cluster of processors from `first` on, in which nothing is eligible, runs or is linked, for tasks below the room
abbrev pub fresh : ℕ → ℕ → ℕ → KeptCluster
fresh first cpus room = record { cpus = cpus; keys = replicate room None; linked = unlinked first cpus }

-- a task has this key, or is not eligible
abbrev pub with_key : ℕ → Option Key → KeptCluster → KeptCluster
with_key t key c = record c { keys = slice_set c.keys t key }

-- a processor takes an interrupt, where np says whether what it runs is non-preemptive
abbrev pub after_take : ℕ → Bool → KeptCluster → KeptCluster
after_take q np c = record c { linked = after_irq c.linked q np }

-- a processor runs nothing from now on
abbrev pub left_by : ℕ → KeptCluster → KeptCluster
left_by q c = record c { linked = with_run c.linked q None }

-- the links that follow from the first of the eligible tasks and from what runs
abbrev pub links_now : KeptCluster → List (Option ℕ)
links_now c = placed (first_tasks c.cpus c.keys) c.linked.runs c.linked.links

abbrev pub relinked : KeptCluster → KeptCluster
relinked c = record c { linked = record c.linked { links = links_now c } }

-- placing again changes no link
abbrev pub IsStable : KeptCluster → Type 0
IsStable c = links_now c ≡ c.linked.links

-- the clusters of group n among those of a set, whose first processor is `first`
abbrev pub rows_from : ℕ → ℕ → ℕ → List sets.Cluster → List (Option KeptCluster)
rows_from n room first [] = []
rows_from n room first (k ∷ ks) =
    (if k.group.0 == n then Some (fresh first k.cpus room) else None) ∷ rows_from n room (first + k.cpus) ks

-- the cluster of each processor, where the first cluster has number c
abbrev pub homes_from : ℕ → List sets.Cluster → List ℕ
homes_from c [] = []
homes_from c (k ∷ ks) = replicate k.cpus c ++ homes_from (suc c) ks
