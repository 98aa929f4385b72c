use Rattle.std.proofs.Common.{◌≡◌, ◌<◌, length, get_or, arith}
use Rattle.std.proofs.lemmas.List.{get_or_read, map-set}
use Rattle.release_queue.proofs.TimerLaws.{empty-not_due, first-due, first-late, first_inside, timed-cancel}
use Rattle.release_queue.proofs.ReleaseQueue.next_due.Goals as goal

pub returns-in_default-clause-none : goal.returns-in_default-clause-none
returns-in_default-clause-none c = rw (← c.self.view_is) (empty-not_due _ _ c.in_default.ensures.none)

pub returns-then-index-now-clause-none : goal.returns-then-index-now-clause-none
returns-then-index-now-clause-none c =
    let in_heap = first_inside c.self.inside.heap.keys c.self.inside.ticks.items c.self.invariant c.in-Some.task.0 c.in-Some.ensures.first in
    let within : c.in-Some.task.0 < length c.self.inside.ticks.items = omega (arith, in_heap, c.self.invariant.same_length) in
    let read : c.index.result.now ≡ get_or c.self.inside.ticks.items c.in-Some.task.0 0 = get_or_read _ _ _ within c.index.ensures 0 in
    rw (← c.self.view_is) (first-late _ _ c.self.invariant c.in-Some.task.0 c.in-Some.ensures.first c.args.now.0 (omega (arith, read, c.if-index-now.true)))

pub invariant_of-self : goal.invariant_of-self
invariant_of-self c =
    let in_heap = first_inside c.self.inside.heap.keys c.self.inside.ticks.items c.self.invariant c.in-Some.task.0 c.in-Some.ensures.first in
    rw c.take_out.ensures.removed (timed-cancel _ _ c.in-Some.task.0 c.self.invariant in_heap)

pub returns-clause-due : goal.returns-clause-due
returns-clause-due c =
    let in_heap = first_inside c.self.inside.heap.keys c.self.inside.ticks.items c.self.invariant c.in-Some.task.0 c.in-Some.ensures.first in
    let within : c.in-Some.task.0 < length c.self.inside.ticks.items = omega (arith, in_heap, c.self.invariant.same_length) in
    let read : c.index.result.now ≡ get_or c.self.inside.ticks.items c.in-Some.task.0 0 = get_or_read _ _ _ within c.index.ensures 0 in
    rw (← c.self.view_is) (first-due _ _ c.self.invariant c.in-Some.task.0 c.in-Some.ensures.first c.args.now.0 (omega (arith, read, c.if-index-now.false)))

pub returns-clause-taken : goal.returns-clause-taken
returns-clause-taken c = rw (← c.self.view_is, c.take_out.ensures.removed) (map-set _ _ _ _)
