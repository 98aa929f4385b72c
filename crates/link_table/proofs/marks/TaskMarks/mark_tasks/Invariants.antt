use Rattle.std.proofs.Common.{drop}
use Rattle.rt_base.specs.TaskNos.{numbers}
use Rattle.link_table.proofs.MarkLaws.{AreMarkedBut}
use Rattle.link_table.proofs.marks.TaskMarks.mark_tasks.Given as goal

abbrev pub invariant-loop-t : goal.invariant-loop-t
invariant-loop-t l = AreMarkedBut l.self (numbers (drop l.t-index l.ts)) (numbers l.ts)
