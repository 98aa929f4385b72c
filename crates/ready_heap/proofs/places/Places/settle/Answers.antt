use Rattle.rt_base.specs.TaskNos.{numbers}
use Rattle.ready_heap.proofs.RowLaws.{keys_in-told_at, numbers-set}
use Rattle.ready_heap.proofs.HeldLaws.{keyed-settled, held-inside}
use Rattle.ready_heap.proofs.places.Places.settle.Goals as goal

pub move_to-requires : goal.move_to-requires
move_to-requires c = held-inside c.args.self.now.arena (numbers c.args.self.now.tasks.items) _ c.args.held.task.0 c.args.free c.requires.held.placed c.requires.inside

pub returns-clause-settled : goal.returns-clause-settled
returns-clause-settled c = rw (c.move_to.ensures, keys_in-told_at, numbers-set)

pub returns-clause-sound : goal.returns-clause-sound
returns-clause-sound c = record {
  placed = rw (c.move_to.ensures, numbers-set) c.requires.held.placed;
  keyed = rw (c.move_to.ensures, numbers-set) (keyed-settled c.args.self.now.arena (numbers c.args.self.now.tasks.items) c.args.self.now.keys.items _ c.args.free c.args.held.task.0 c.args.held.key c.requires.inside c.requires.held.key c.requires.held.keyed);
}
