-- The tasks of a cluster, as they stand in a set's list.
use Rattle.std.specs.Prelude.{ℕ, ◌==◌, ◌-◌, List, length, filter, slice_index_or}
use Rattle.rt_task.specs.declared.Task.{Task}
use Rattle.rt_rules.specs.Numbers.{numbers_from}
use Rattle.rt_model.specs.Group.{no_task}

abbrev pub tasks_at : List Task → ℕ → List ℕ
tasks_at tasks c = filter (λ t. (slice_index_or tasks (t - 1) no_task).cluster.0 == c) (numbers_from 1 (length tasks))
