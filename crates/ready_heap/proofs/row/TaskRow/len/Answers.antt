use Rattle.std.proofs.Common.{arith}
use Rattle.ready_heap.proofs.RowLaws.{row-placed}
use Rattle.ready_heap.proofs.row.TaskRow.len.Goals as goal

pub returns-clause-sound : goal.returns-clause-sound
returns-clause-sound c = rw (← c.self.view_is) (row-placed _ _ _ c.self.invariant.placed)

pub returns-clause-small : goal.returns-clause-small
returns-clause-small c = omega (arith, c.self.inside.places.tasks.small, c.self.inside.places.tasks.ok.1, c.len.ensures)
