use Rattle.std.proofs.Common.{ℕ, ◌<◌, drop}
use Rattle.std.specs.Prelude.{None, IsSome, slice_index_or}
use Rattle.rt_base.specs.TaskNos.{numbers, numbers_of_tasks}
use Rattle.rt_rules.specs.Placing.{tasks_in}
use Rattle.rt_rules.proofs.PlacingLaws.{beside}
use Rattle.link_table.specs.Marks.{AreMarks}
use Rattle.link_table.proofs.Filling.{Leads}
use Rattle.link_table.proofs.places.fill.Given as goal

-- the tasks that are left lead to what all lead to
abbrev pub invariant-loop-t : goal.invariant-loop-t
invariant-loop-t l = record {
  leads : Leads (numbers l.top) (numbers_of_tasks l.fn.links) (numbers_of_tasks l.links) (numbers (drop l.t-index l.top));
  taken : (k : ℕ) → k < l.from → IsSome (slice_index_or l.links k None);
  marks : AreMarks l.top_marks (beside (tasks_in (numbers_of_tasks l.fn.links)) (numbers (drop l.t-index l.top)));
}
