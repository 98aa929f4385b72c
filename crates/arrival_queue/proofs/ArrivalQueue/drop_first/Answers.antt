use Rattle.std.proofs.Common.{◌≡◌, ◌∙◌, ◌<◌, [], ap, arith, refl, get_or, length, set, sym}
use Rattle.std.proofs.lemmas.List.{get_or_read, set-get_or}
use Rattle.std.specs.Prelude.{None}
use Rattle.arrival_queue.specs.Chains.{no_arrival, no_ends, waiting_of}
use Rattle.arrival_queue.specs.Waiting.{Waiting, rest_of}
use Rattle.arrival_queue.proofs.ChainLaws.{chained-dropped, position-inside, queue-at, queue-dropped, queue-none, waiting-set, within}
use Rattle.arrival_queue.proofs.ArrivalQueue.drop_first.Goals as goal

pub index-ends-requires : goal.index-ends-requires
index-ends-requires c = omega (arith, within _ _ _ c.args.task.0 (ap (λ (w : Waiting). w.queues) c.self.view_is) c.requires, c.self.inside.ends.ok.0)

pub index-requires : goal.index-requires
index-requires c =
    let low : c.args.task.0 < length c.self.inside.ends.items = within _ _ _ c.args.task.0 (ap (λ (w : Waiting). w.queues) c.self.view_is) c.requires in
    let read : c.index-ends.result.now ≡ get_or c.self.inside.ends.items c.args.task.0 no_ends = get_or_read _ _ _ low c.index-ends.ensures no_ends in
    omega (arith, position-inside _ _ c.self.invariant.0 c.args.task.0 low c.in-Some.position (ap (λ e. e.first) (sym read) ∙ c.in-Some.is), c.self.inside.arrivals.ok.0)

pub index_mut-requires : goal.index_mut-requires
index_mut-requires c = omega (arith, within _ _ _ c.args.task.0 (ap (λ (w : Waiting). w.queues) c.self.view_is) c.requires, c.self.inside.ends.ok.0)

pub invariant_of-self : goal.invariant_of-self
invariant_of-self c =
    let low : c.args.task.0 < length c.self.inside.ends.items = within _ _ _ c.args.task.0 (ap (λ (w : Waiting). w.queues) c.self.view_is) c.requires in
    let read : c.index-ends.result.now ≡ get_or c.self.inside.ends.items c.args.task.0 no_ends = get_or_read _ _ _ low c.index-ends.ensures no_ends in
    let is = ap (λ e. e.first) (sym read) ∙ c.in-Some.is in
    let inside = position-inside _ _ c.self.invariant.0 c.args.task.0 low c.in-Some.position is in
    let found : c.index.result.now ≡ get_or c.self.inside.arrivals.items c.in-Some.position no_arrival = get_or_read _ _ _ inside c.index.ensures no_arrival in
    (rw (read, found) (chained-dropped _ _ c.self.invariant.0 c.args.task.0 low c.in-Some.position is), c.self.invariant.1, c.self.invariant.2)

pub returns-in-Some-clause-queues : goal.returns-in-Some-clause-queues
returns-in-Some-clause-queues c =
    let low : c.args.task.0 < length c.self.inside.ends.items = within _ _ _ c.args.task.0 (ap (λ (w : Waiting). w.queues) c.self.view_is) c.requires in
    let read : c.index-ends.result.now ≡ get_or c.self.inside.ends.items c.args.task.0 no_ends = get_or_read _ _ _ low c.index-ends.ensures no_ends in
    let is = ap (λ e. e.first) (sym read) ∙ c.in-Some.is in
    let inside = position-inside _ _ c.self.invariant.0 c.args.task.0 low c.in-Some.position is in
    let found : c.index.result.now ≡ get_or c.self.inside.arrivals.items c.in-Some.position no_arrival = get_or_read _ _ _ inside c.index.ensures no_arrival in
    let rest = queue-dropped _ _ c.self.invariant.0 c.args.task.0 low c.in-Some.position is c.index.result.now.next (ap (λ n. n.next) (sym found)) c.index-ends.result.now.newest in
    rw (← c.self.view_is) (waiting-set c.self.inside.arrivals.items c.self.inside.arrivals.items _ c.args.task.0 _ low (λ u low_u ne. refl) ∙ ap (λ q. set (waiting_of c.self.inside.arrivals.items c.self.inside.ends.items) c.args.task.0 q) (rest ∙ ap rest_of (sym (queue-at _ _ c.args.task.0 low))))

pub returns-in_default-clause-queues : goal.returns-in_default-clause-queues
returns-in_default-clause-queues c =
    let low : c.args.task.0 < length c.self.inside.ends.items = within _ _ _ c.args.task.0 (ap (λ (w : Waiting). w.queues) c.self.view_is) c.requires in
    let read : c.index-ends.result.now ≡ get_or c.self.inside.ends.items c.args.task.0 no_ends = get_or_read _ _ _ low c.index-ends.ensures no_ends in
    let none : (get_or c.self.inside.ends.items c.args.task.0 no_ends).first ≡ None = ap (λ e. e.first) (sym read) ∙ c.in_default.is in
    let empty = queue-at _ _ c.args.task.0 low ∙ queue-none _ _ c.self.invariant.0 c.args.task.0 low none in
    rw (← c.self.view_is) (sym (set-get_or (waiting_of c.self.inside.arrivals.items c.self.inside.ends.items) c.args.task.0 []) ∙ ap (λ q. set (waiting_of c.self.inside.arrivals.items c.self.inside.ends.items) c.args.task.0 q) (empty ∙ ap rest_of (sym empty)))
