use Rattle.std.proofs.Common.{◌≡◌}
use Rattle.rt_base.specs.TaskNos.{number_of_task, numbers_of_tasks}
use Rattle.link_table.specs.Linked.{exchanged}
use Rattle.link_table.proofs.Exchanging.{exchanged_from}
use Rattle.link_table.proofs.places.exchange.Given as goal

-- the places to come lead to the whole exchange
abbrev pub invariant-loop-q : goal.invariant-loop-q
invariant-loop-q l = exchanged_from l.q (number_of_task l.left) (number_of_task l.waiting) (numbers_of_tasks l.links) ≡ exchanged (number_of_task l.left) (number_of_task l.fn.came) (numbers_of_tasks l.fn.links)
