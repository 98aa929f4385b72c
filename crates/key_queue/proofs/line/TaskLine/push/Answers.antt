use Rattle.std.proofs.Common.{◌≡◌, ◌<◌, false, arith}
use Rattle.std.specs.Prelude.{slice_index}
use Rattle.std.proofs.lemmas.List.{get_or_read}
use Rattle.rt_rules.specs.Numbers.{has}
use Rattle.key_queue.specs.Ring.{ring_tasks}
use Rattle.key_queue.proofs.RingLaws.{ring_tasks-ring, ring-push, last_within}
use Rattle.key_queue.proofs.line.TaskLine.push.Goals as goal

pub index_mut-requires : goal.index_mut-requires
index_mut-requires c =
    let read : c.index-last.result.now ≡ slice_index c.self.inside.previous.items c.self.inside.room = get_or_read c.self.inside.previous.items c.self.inside.room c.index-last.result.now (omega (arith, c.self.invariant.previous_length)) c.index-last.ensures 0 in
    omega (arith, last_within _ _ _ _ c.self.invariant, c.self.invariant.next_length)

pub invariant_of-self : goal.invariant_of-self
invariant_of-self c =
    let below : c.args.task.0 < c.self.inside.room = rw (← c.self.view_is) at c.requires.below in
    let outside : has c.args.task.0 (ring_tasks c.self.inside.next.items c.self.inside.room) ≡ false = rw (← c.self.view_is) at c.requires.outside in
    let read : c.index-last.result.now ≡ slice_index c.self.inside.previous.items c.self.inside.room = get_or_read c.self.inside.previous.items c.self.inside.room c.index-last.result.now (omega (arith, c.self.invariant.previous_length)) c.index-last.ensures 0 in
    let ring = ring-push _ _ _ _ c.self.invariant c.args.task.0 c.index-last.result.now read below outside in
    rw (ring_tasks-ring _ _ _ _ ring) ring

pub returns : goal.returns
returns c =
    let below : c.args.task.0 < c.self.inside.room = rw (← c.self.view_is) at c.requires.below in
    let outside : has c.args.task.0 (ring_tasks c.self.inside.next.items c.self.inside.room) ≡ false = rw (← c.self.view_is) at c.requires.outside in
    let read : c.index-last.result.now ≡ slice_index c.self.inside.previous.items c.self.inside.room = get_or_read c.self.inside.previous.items c.self.inside.room c.index-last.result.now (omega (arith, c.self.invariant.previous_length)) c.index-last.ensures 0 in
    let ring = ring-push _ _ _ _ c.self.invariant c.args.task.0 c.index-last.result.now read below outside in
    rw (← c.self.view_is, ring_tasks-ring _ _ _ _ ring)
