use Rattle.std.proofs.Common.{◌≡◌, ◌∙◌, ◌+◌, ◌-◌, ◌<◌, ap, arith, get_or, length}
use Rattle.std.proofs.lemmas.List.{get_or_read}
use Rattle.arrival_queue.specs.Chains.{no_ends}
use Rattle.arrival_queue.specs.Waiting.{Waiting}
use Rattle.arrival_queue.proofs.ChainLaws.{within}
use Rattle.arrival_queue.proofs.PushLaws.{chained-pushed, newest-inside, pushed, pushed-length, waiting-pushed}
use Rattle.arrival_queue.proofs.ArrivalQueue.push.Goals as goal

pub index-ends-requires : goal.index-ends-requires
index-ends-requires c = omega (arith, within _ _ _ c.args.task.0 (ap (λ (w : Waiting). w.queues) c.self.view_is) c.requires.task, c.self.inside.ends.ok.0)

pub link_behind-requires : goal.link_behind-requires
link_behind-requires c =
    let low : c.args.task.0 < length c.self.inside.ends.items = within _ _ _ c.args.task.0 (ap (λ (w : Waiting). w.queues) c.self.view_is) c.requires.task in
    let read : c.index-ends.result.now ≡ get_or c.self.inside.ends.items c.args.task.0 no_ends = get_or_read _ _ _ low c.index-ends.ensures no_ends in
    rw read (newest-inside _ _ c.self.invariant.0 c.args.task.0 low c.args.clock.0)

pub index_mut-requires : goal.index_mut-requires
index_mut-requires c = omega (arith, within _ _ _ c.args.task.0 (ap (λ (w : Waiting). w.queues) c.self.view_is) c.requires.task, c.self.inside.ends.ok.0)

pub invariant_of-self : goal.invariant_of-self
invariant_of-self c =
    let low : c.args.task.0 < length c.self.inside.ends.items = within _ _ _ c.args.task.0 (ap (λ (w : Waiting). w.queues) c.self.view_is) c.requires.task in
    let read : c.index-ends.result.now ≡ get_or c.self.inside.ends.items c.args.task.0 no_ends = get_or_read _ _ _ low c.index-ends.ensures no_ends in
    let position : c.len-position.result ≡ length c.self.inside.arrivals.items = c.len-position.ensures ∙ c.self.inside.arrivals.ok.0 in
    let items : c.push_reserved.new.self.items ≡ pushed _ _ c.self.invariant.0 c.args.task.0 low c.args.clock.0 = rw (c.push_reserved.ensures.items, c.link_behind.ensures.items, read, position) in
    let longer : length c.push_reserved.new.self.items ≡ length c.self.inside.arrivals.items + 1 = ap length items ∙ pushed-length _ _ c.self.invariant.0 c.args.task.0 low c.args.clock.0 in
    let room : c.self.inside.room - length c.self.inside.arrivals.items ≡ c.args.self.now.room = ap (λ (w : Waiting). w.room) c.self.view_is in (
      rw (items, c.unwrap_or.ensures, read, position) (chained-pushed _ _ c.self.invariant.0 c.args.task.0 low c.args.clock.0),
      omega (arith, longer, room, c.requires.room),
      omega (arith, c.push_reserved.ensures.capacity, c.link_behind.ensures.room, c.self.invariant.2),
    )

pub returns-clause-queues : goal.returns-clause-queues
returns-clause-queues c =
    let low : c.args.task.0 < length c.self.inside.ends.items = within _ _ _ c.args.task.0 (ap (λ (w : Waiting). w.queues) c.self.view_is) c.requires.task in
    let read : c.index-ends.result.now ≡ get_or c.self.inside.ends.items c.args.task.0 no_ends = get_or_read _ _ _ low c.index-ends.ensures no_ends in
    let position : c.len-position.result ≡ length c.self.inside.arrivals.items = c.len-position.ensures ∙ c.self.inside.arrivals.ok.0 in
    rw (← c.self.view_is, c.push_reserved.ensures.items, c.link_behind.ensures.items, c.unwrap_or.ensures, read, position) (waiting-pushed _ _ c.self.invariant.0 c.args.task.0 low c.args.clock.0)
