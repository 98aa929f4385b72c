use Rattle.std.proofs.Common.{◌≡◌}
use Rattle.std.specs.Prelude.{◌==◌, filter}
use Rattle.rt_base.specs.TaskNos.{numbers}
use Rattle.rt_model.specs.Group.{home}
use Rattle.rt_rules.specs.Numbers.{numbers_from}
use Rattle.split_rules.specs.Partitions.{part_group}
use Rattle.split_writer.proofs.partition.tasks_of.Given as goal

-- those of the tasks so far that are of the cluster
abbrev pub invariant-loop-i : goal.invariant-loop-i
invariant-loop-i l = numbers l.tasks.items ≡ filter (λ t. home (part_group l.parts l.cpu.0) t == l.cpu.0) (numbers_from 1 l.i)
