use Rattle.std.proofs.Common.{◌≡◌, ◌∙◌, ◌<◌, None, get_or, length, sym, arith}
use Rattle.rt_base.specs.TaskNos.{numbers}
use Rattle.ready_heap.specs.Row.{keys_in}
use Rattle.ready_heap.proofs.RowLaws.{row-placed, placed-push, pushed-lists, row_room, no_node, length-keys_in, length-numbers, numbers-append}
use Rattle.ready_heap.proofs.KeyedLaws.{keyed-push, keyed-room}
use Rattle.ready_heap.proofs.row.TaskRow.push.Goals as goal

pub push_reserved-requires : goal.push_reserved-requires
push_reserved-requires c =
    let absent : get_or c.self.inside.places.arena c.args.task.0 None ≡ None = no_node c.self.inside.places.arena c.args.task.0 (rw (← c.self.view_is) at c.requires.absent) in
    let in_keys : c.args.task.0 < length (keys_in c.self.inside.places.arena) = rw (← c.self.view_is) at c.requires.room in
    let inside : c.args.task.0 < length c.self.inside.places.arena = rw (length-keys_in c.self.inside.places.arena) at in_keys in
    let room = row_room _ _ _ c.self.invariant.placed c.args.task.0 inside absent in
    let long : length (numbers c.self.inside.places.tasks.items) ≡ length c.self.inside.places.tasks.items = length-numbers c.self.inside.places.tasks.items in
    omega (arith, room, long, c.self.inside.places.tasks.ok.0)

pub push_reserved-requires-2 : goal.push_reserved-requires-2
push_reserved-requires-2 c =
    let absent : get_or c.self.inside.places.arena c.args.task.0 None ≡ None = no_node c.self.inside.places.arena c.args.task.0 (rw (← c.self.view_is) at c.requires.absent) in
    let in_keys : c.args.task.0 < length (keys_in c.self.inside.places.arena) = rw (← c.self.view_is) at c.requires.room in
    let inside : c.args.task.0 < length c.self.inside.places.arena = rw (length-keys_in c.self.inside.places.arena) at in_keys in
    let room = keyed-room _ _ _ _ _ c.self.invariant.placed c.self.invariant.keyed c.args.task.0 inside absent in
    omega (arith, room, c.self.inside.places.keys.ok.0)

pub invariant_of-self : goal.invariant_of-self
invariant_of-self c =
    let absent : get_or c.self.inside.places.arena c.args.task.0 None ≡ None = no_node c.self.inside.places.arena c.args.task.0 (rw (← c.self.view_is) at c.requires.absent) in
    let in_keys : c.args.task.0 < length (keys_in c.self.inside.places.arena) = rw (← c.self.view_is) at c.requires.room in
    let inside : c.args.task.0 < length c.self.inside.places.arena = rw (length-keys_in c.self.inside.places.arena) at in_keys in
    let position : c.len-position.result ≡ length (numbers c.self.inside.places.tasks.items) = c.len-position.ensures ∙ c.self.inside.places.tasks.ok.0 ∙ sym (length-numbers c.self.inside.places.tasks.items) in record {
      placed = rw (c.insert.ensures, c.push_reserved.ensures.items, c.push_reserved.ensures.capacity, numbers-append, position) (placed-push _ _ _ c.self.invariant.placed c.args.task.0 c.args.key inside absent);
      keyed = rw (c.insert.ensures, c.push_reserved.ensures.items, c.push_reserved-2.ensures.items, c.push_reserved-2.ensures.capacity, numbers-append) (keyed-push _ _ _ _ _ c.self.invariant.placed c.self.invariant.keyed c.args.task.0 c.args.key c.len-position.result inside absent);
    }

pub returns-clause-pushed : goal.returns-clause-pushed
returns-clause-pushed c =
    let position : c.len-position.result ≡ length (numbers c.self.inside.places.tasks.items) = c.len-position.ensures ∙ c.self.inside.places.tasks.ok.0 ∙ sym (length-numbers c.self.inside.places.tasks.items) in
    rw (← c.self.view_is, c.insert.ensures, c.push_reserved.ensures.items, numbers-append, position) (pushed-lists c.self.inside.places.arena (numbers c.self.inside.places.tasks.items) c.args.task.0 c.args.key)

pub returns-clause-sound : goal.returns-clause-sound
returns-clause-sound c = row-placed _ _ _ (invariant_of-self c).placed
