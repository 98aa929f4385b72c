-- What the tasks that declare a semaphore have in common, as code keeps it.
use Rattle.std.specs.Prelude.{ℕ, true, ◌&&◌, ◌==◌, List, [], ◌∷◌, map, filter, Option, None, Some}
use Rattle.rt_task.specs.declared.draft.Draft.{Draft}
use Rattle.rt_task.specs.declared.draft.DraftTask.{DraftTask}
use Rattle.set_rules.specs.declared.rules.spread.Spread.{Spread}
use Rattle.rt_task.specs.Lookups.{group_of}
use Rattle.rt_task.specs.RuleWords.{has, all_same, first_of, sem_numbers}

-- of tasks in these clusters
abbrev pub spread_of : Draft → List ℕ → Spread
spread_of d cs = record { first = first_of cs; one_cluster = all_same cs; one_group = all_same (map (group_of d) cs) }

-- the clusters of those of some tasks that declare a semaphore
abbrev pub clusters_among : List DraftTask → ℕ → List ℕ
clusters_among ts s = map (λ (p : DraftTask). p.cluster) (filter (λ p. has s (sem_numbers p)) ts)

-- one more task, in this cluster
abbrev added_to : Draft → Option ℕ → Spread → ℕ → Spread
added_to d None s c = record { first = Some c; one_cluster = true; one_group = true }
added_to d (Some x) s c = record {
  first = Some x;
  one_cluster = s.one_cluster && c == x;
  one_group = s.one_group && group_of d c == group_of d x;
}

abbrev pub added : Draft → Spread → ℕ → Spread
added d s c = added_to d s.first s c
