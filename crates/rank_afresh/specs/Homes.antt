-- The cluster of each processor and of each task of a set.
use Rattle.std.specs.Prelude.{ℕ, suc, List, [], ◌∷◌, ◌++◌, map, replicate}
use Rattle.rt_task.specs.declared.Cluster.{Cluster}
use Rattle.rt_task.specs.declared.Task.{Task}

-- by the processor's number the position of its cluster, where the first cluster has position c
abbrev pub homes_from : ℕ → List Cluster → List ℕ
homes_from c [] = []
homes_from c (k ∷ ks) = replicate k.cpus c ++ homes_from (suc c) ks

-- by the task's number, which is from 1 on, the position of its cluster
abbrev pub task_homes : List Task → List ℕ
task_homes ts = 0 ∷ map (λ (t : Task). t.cluster.0) ts
