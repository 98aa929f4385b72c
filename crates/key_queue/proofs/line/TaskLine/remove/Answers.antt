use Rattle.std.proofs.Common.{◌≡◌, ◌<◌, true, arith}
use Rattle.std.specs.Prelude.{slice_index}
use Rattle.std.proofs.lemmas.List.{get_or_read}
use Rattle.rt_rules.specs.Numbers.{has}
use Rattle.key_queue.specs.Ring.{ring_tasks}
use Rattle.key_queue.proofs.RingLaws.{ring_tasks-ring, ring-without, previous_within, next_within}
use Rattle.key_queue.proofs.line.TaskLine.remove.Goals as goal

pub index_mut-requires : goal.index_mut-requires
index_mut-requires c =
    let there : has c.args.task.0 (ring_tasks c.self.inside.next.items c.self.inside.room) ≡ true = rw (← c.self.view_is) at c.requires in
    let within : c.args.task.0 < c.self.inside.room = c.self.invariant.below c.args.task.0 there in
    let read : c.index-previous.result.now ≡ slice_index c.self.inside.previous.items c.args.task.0 = get_or_read c.self.inside.previous.items c.args.task.0 c.index-previous.result.now (omega (arith, c.self.invariant.previous_length, within)) c.index-previous.ensures 0 in
    omega (arith, previous_within _ _ _ _ c.self.invariant c.args.task.0 there, c.self.invariant.next_length)

pub index_mut-requires-2 : goal.index_mut-requires-2
index_mut-requires-2 c =
    let there : has c.args.task.0 (ring_tasks c.self.inside.next.items c.self.inside.room) ≡ true = rw (← c.self.view_is) at c.requires in
    let within : c.args.task.0 < c.self.inside.room = c.self.invariant.below c.args.task.0 there in
    let read : c.index-next.result.now ≡ slice_index c.self.inside.next.items c.args.task.0 = get_or_read c.self.inside.next.items c.args.task.0 c.index-next.result.now (omega (arith, c.self.invariant.next_length, within)) c.index-next.ensures 0 in
    omega (arith, next_within _ _ _ _ c.self.invariant c.args.task.0 there, c.self.invariant.previous_length)

pub invariant_of-self : goal.invariant_of-self
invariant_of-self c =
    let there : has c.args.task.0 (ring_tasks c.self.inside.next.items c.self.inside.room) ≡ true = rw (← c.self.view_is) at c.requires in
    let within : c.args.task.0 < c.self.inside.room = c.self.invariant.below c.args.task.0 there in
    let read_next : c.index-next.result.now ≡ slice_index c.self.inside.next.items c.args.task.0 = get_or_read c.self.inside.next.items c.args.task.0 c.index-next.result.now (omega (arith, c.self.invariant.next_length, within)) c.index-next.ensures 0 in
    let read_previous : c.index-previous.result.now ≡ slice_index c.self.inside.previous.items c.args.task.0 = get_or_read c.self.inside.previous.items c.args.task.0 c.index-previous.result.now (omega (arith, c.self.invariant.previous_length, within)) c.index-previous.ensures 0 in
    let ring = ring-without _ _ _ _ c.self.invariant c.args.task.0 there in
    rw (read_next, read_previous, ring_tasks-ring _ _ _ _ ring) ring

pub returns : goal.returns
returns c =
    let there : has c.args.task.0 (ring_tasks c.self.inside.next.items c.self.inside.room) ≡ true = rw (← c.self.view_is) at c.requires in
    let within : c.args.task.0 < c.self.inside.room = c.self.invariant.below c.args.task.0 there in
    let read_next : c.index-next.result.now ≡ slice_index c.self.inside.next.items c.args.task.0 = get_or_read c.self.inside.next.items c.args.task.0 c.index-next.result.now (omega (arith, c.self.invariant.next_length, within)) c.index-next.ensures 0 in
    let read_previous : c.index-previous.result.now ≡ slice_index c.self.inside.previous.items c.args.task.0 = get_or_read c.self.inside.previous.items c.args.task.0 c.index-previous.result.now (omega (arith, c.self.invariant.previous_length, within)) c.index-previous.ensures 0 in
    let ring = ring-without _ _ _ _ c.self.invariant c.args.task.0 there in
    rw (← c.self.view_is, read_next, read_previous, ring_tasks-ring _ _ _ _ ring)
