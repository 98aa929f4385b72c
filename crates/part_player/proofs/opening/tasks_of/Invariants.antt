use Rattle.std.proofs.Common.{◌≡◌}
use Rattle.std.specs.Prelude.{◌==◌, ◌-◌, filter, slice_index_or}
use Rattle.rt_base.specs.TaskNos.{numbers}
use Rattle.rt_rules.specs.Numbers.{numbers_from}
use Rattle.rt_model.specs.Group.{no_task}
use Rattle.part_player.proofs.opening.tasks_of.Given as goal

abbrev pub invariant-loop-i : goal.invariant-loop-i
invariant-loop-i l = numbers l.own.items ≡ filter (λ t. (slice_index_or l.tasks (t - 1) no_task).cluster.0 == l.cluster.0) (numbers_from 1 l.i)
