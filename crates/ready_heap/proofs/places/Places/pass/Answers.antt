use Rattle.std.proofs.Common.{◌≡◌, get_or, length-set, arith}
use Rattle.rt_base.specs.TaskNos.{numbers}
use Rattle.ready_heap.specs.Row.{key_beside}
use Rattle.ready_heap.proofs.RowLaws.{numbers-set, read_number, length-numbers, keys_in-told_at}
use Rattle.ready_heap.proofs.KeyedLaws.{read_key}
use Rattle.ready_heap.proofs.HeldLaws.{placed-passed, keyed-passed, swapped-passed, keyed-inside}
use Rattle.ready_heap.proofs.places.Places.pass.Goals as goal
use Rattle.ready_heap.proofs.places.Places.pass.Goals.{After-index_mut-2}

task_is : (c : After-index_mut-2) → c.index-task.result.now.0 ≡ get_or (numbers c.args.self.now.tasks.items) c.args.from 0
task_is c = read_number c.args.self.now.tasks.items c.args.from c.index-task.result.now (rw (length-numbers c.args.self.now.tasks.items) at c.requires.from) c.index-task.ensures

key_is : (c : After-index_mut-2) → key_beside c.args.self.now.keys.items c.args.from ≡ c.index-key.result.now
key_is c = read_key c.args.self.now.keys.items c.args.from c.index-key.result.now (omega (arith, c.requires.from, c.requires.keys.same_length)) c.index-key.ensures

pub move_to-requires : goal.move_to-requires
move_to-requires c = rw (task_is (goal.at.move_to-requires c).After-index_mut-2) (keyed-inside c.args.self.now.arena (numbers c.args.self.now.tasks.items) c.args.self.now.keys.items _ c.args.from c.requires.from c.requires.keys)

pub returns-clause-passed : goal.returns-clause-passed
returns-clause-passed c = λ held h. rw (c.move_to.ensures, numbers-set, task_is (goal.at.returns-clause-passed c).After-index_mut-2) (swapped-passed c.args.self.now.arena (numbers c.args.self.now.tasks.items) held.task.0 _ c.args.free c.args.from c.requires.inside c.requires.from c.requires.apart h.placed)

pub returns-clause-held : goal.returns-clause-held
returns-clause-held c = λ held h.
    let here = (goal.at.returns-clause-held c).After-index_mut-2 in
    record {
      placed = rw (c.move_to.ensures, numbers-set, task_is here) (placed-passed c.args.self.now.arena (numbers c.args.self.now.tasks.items) held.task.0 _ c.args.free c.args.from c.requires.inside c.requires.from c.requires.apart h.placed);
      keyed = rw (c.move_to.ensures, numbers-set, task_is here, ← key_is here) (keyed-passed c.args.self.now.arena (numbers c.args.self.now.tasks.items) c.args.self.now.keys.items _ c.args.free c.args.from c.requires.inside c.requires.from c.requires.keys);
      key = rw (c.move_to.ensures, keys_in-told_at) h.key;
    }

pub returns-clause-same_length : goal.returns-clause-same_length
returns-clause-same_length c = rw (numbers-set, length-set)
