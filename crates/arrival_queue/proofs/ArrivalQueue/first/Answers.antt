use Rattle.std.proofs.Common.{◌≡◌, ◌∙◌, ◌<◌, ap, arith, get_or, length, sym}
use Rattle.std.proofs.lemmas.List.{get_or_read}
use Rattle.arrival_queue.specs.Chains.{no_arrival, no_ends}
use Rattle.arrival_queue.specs.Waiting.{Waiting, first_of}
use Rattle.arrival_queue.proofs.ChainLaws.{position-inside, queue-at, queue-none, queue-some, within}
use Rattle.arrival_queue.proofs.ArrivalQueue.first.Goals as goal

pub index-requires : goal.index-requires
index-requires c = omega (arith, within _ _ _ c.args.task.0 (ap (λ (w : Waiting). w.queues) c.self.view_is) c.requires, c.self.inside.ends.ok.0)

pub returns-in_err-position : goal.returns-in_err-position
returns-in_err-position c =
    let low : c.args.task.0 < length c.self.inside.ends.items = within _ _ _ c.args.task.0 (ap (λ (w : Waiting). w.queues) c.self.view_is) c.requires in
    let read : c.index.result.now ≡ get_or c.self.inside.ends.items c.args.task.0 no_ends = get_or_read _ _ _ low c.index.ensures no_ends in
    let empty = queue-none _ _ c.self.invariant.0 c.args.task.0 low (ap (λ e. e.first) (sym read) ∙ c.in_err-position.was) in
    rw (← c.self.view_is) (c.from_residual.ensures ∙ ap first_of (sym empty) ∙ ap first_of (sym (queue-at _ _ c.args.task.0 low)))

pub index-requires-2 : goal.index-requires-2
index-requires-2 c =
    let low : c.args.task.0 < length c.self.inside.ends.items = within _ _ _ c.args.task.0 (ap (λ (w : Waiting). w.queues) c.self.view_is) c.requires in
    let read : c.index.result.now ≡ get_or c.self.inside.ends.items c.args.task.0 no_ends = get_or_read _ _ _ low c.index.ensures no_ends in
    omega (arith, position-inside _ _ c.self.invariant.0 c.args.task.0 low c.in_ok-position.position (ap (λ e. e.first) (sym read) ∙ c.in_ok-position.was), c.self.inside.arrivals.ok.0)

pub returns : goal.returns
returns c =
    let low : c.args.task.0 < length c.self.inside.ends.items = within _ _ _ c.args.task.0 (ap (λ (w : Waiting). w.queues) c.self.view_is) c.requires in
    let read : c.index.result.now ≡ get_or c.self.inside.ends.items c.args.task.0 no_ends = get_or_read _ _ _ low c.index.ensures no_ends in
    let is = ap (λ e. e.first) (sym read) ∙ c.in_ok-position.was in
    let inside = position-inside _ _ c.self.invariant.0 c.args.task.0 low c.in_ok-position.position is in
    let found : c.index-2.result.now ≡ get_or c.self.inside.arrivals.items c.in_ok-position.position no_arrival = get_or_read _ _ _ inside c.index-2.ensures no_arrival in
    let head = queue-some _ _ c.self.invariant.0 c.args.task.0 low c.in_ok-position.position is in
    rw (← c.self.view_is, found) (ap first_of (sym head) ∙ ap first_of (sym (queue-at _ _ c.args.task.0 low)))
