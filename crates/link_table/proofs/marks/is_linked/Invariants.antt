use Rattle.std.proofs.Common.{◌≡◌, drop}
use Rattle.rt_rules.specs.Numbers.{has}
use Rattle.rt_rules.specs.Placing.{tasks_in}
use Rattle.rt_base.specs.TaskNos.{numbers_of_tasks}
use Rattle.link_table.proofs.marks.is_linked.Given as goal

-- the rest answers as the whole
abbrev pub invariant-loop-o : goal.invariant-loop-o
invariant-loop-o l = has l.t.0 (tasks_in (numbers_of_tasks (drop l.o-index l.links))) ≡ has l.t.0 (tasks_in (numbers_of_tasks l.links))
