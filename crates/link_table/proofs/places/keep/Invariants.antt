use Rattle.std.proofs.Common.{◌≡◌, ℕ, ◌<◌, ◌≤◌, get_or}
use Rattle.std.specs.Prelude.{None}
use Rattle.rt_rules.specs.Placing.{kept_link, tasks_in}
use Rattle.rt_base.specs.TaskNos.{numbers, number_of_task, numbers_of_tasks}
use Rattle.link_table.proofs.MarkLaws.{AreLeft}
use Rattle.link_table.proofs.places.keep.Given as goal

-- the first q are done, the others are as they were
abbrev pub invariant-loop-q : goal.invariant-loop-q
invariant-loop-q l = record {
  done : (k : ℕ) → k < l.q → number_of_task (get_or l.links k None) ≡ kept_link (numbers l.top) (tasks_in (numbers_of_tasks l.runs)) (number_of_task (get_or l.runs k None)) (number_of_task (get_or l.fn.links k None));
  left : AreLeft l.top_marks (numbers l.top) (tasks_in (numbers_of_tasks l.runs)) (numbers_of_tasks l.runs) (numbers_of_tasks l.fn.links) l.q;
  rest : (k : ℕ) → l.q ≤ k → get_or l.links k None ≡ get_or l.fn.links k None;
}
