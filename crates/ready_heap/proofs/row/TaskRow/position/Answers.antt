use Rattle.std.proofs.Common.{sym, ap}
use Rattle.std.specs.Prelude.{option_map}
use Rattle.ready_heap.specs.declared.arena.Node.{Node}
use Rattle.ready_heap.proofs.RowLaws.{row-placed}
use Rattle.ready_heap.proofs.row.TaskRow.position.Goals as goal

pub returns-in-Some-clause-found : goal.returns-in-Some-clause-found
returns-in-Some-clause-found c =
    let s = c.self.invariant.placed.tells.stands c.args.task.0 c.in-Some.node.position (sym (ap (option_map (λ (n : Node). n.position)) c.in-Some.ensures)) in
    rw (← c.self.view_is) (s.0, s.1)

pub returns-in-Some-clause-sound : goal.returns-in-Some-clause-sound
returns-in-Some-clause-sound c = rw (← c.self.view_is) (row-placed _ _ _ c.self.invariant.placed)

pub returns-in-None-clause-sound : goal.returns-in-None-clause-sound
returns-in-None-clause-sound c = rw (← c.self.view_is) (row-placed _ _ _ c.self.invariant.placed)
