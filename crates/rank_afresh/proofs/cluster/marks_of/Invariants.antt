use Rattle.std.proofs.Common.{◌≡◌, ◌+◌, take, length}
use Rattle.rt_base.specs.TaskNos.{numbers}
use Rattle.rank_afresh.specs.Ranks.{AreMarks}
use Rattle.rank_afresh.proofs.cluster.marks_of.Given as goal

-- the first tasks are marked
abbrev pub invariant-loop-task : goal.invariant-loop-task
invariant-loop-task l = record {
  marked : AreMarks (numbers (take l.task-index l.tasks)) l.marks.items;
  room : length l.marks.items ≡ l.all + 1;
}
