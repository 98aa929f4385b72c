use Rattle.std.proofs.Common.{List, length, sym, ap, ◌∙◌, subst}
use Rattle.std.proofs.lemmas.List.{with_items_is}
use Rattle.split_inbox.specs.Inboxes.{PosterOf, TakerOf}
use Rattle.split_inbox.specs.Posting.{AreRising}
use Rattle.part_seat.specs.Partitions.{PartOf}
use Rattle.part_seat.specs.PartSeats.{IsPartSeat}
use Rattle.part_seat.proofs.SeatLaws.{after-grant, grant-home, is-next, reserved, stepped}
use Rattle.part_seat.proofs.seat.PartSeat.step.Goals as goal

pub take-requires-in-Some-clause-home : goal.take-requires-in-Some-clause-home
take-requires-in-Some-clause-home g c =
    let i = c.self.inside in
    let k = c.self.invariant in
    let part = c.reserve.new.self in
    let same = c.in_ok-reserve.ensures.same in
    let seat = subst (λ (x : PartOf). IsPartSeat g.N.Names.turns (record { part = x; posters = i.senders.items; taker = i.taker })) (sym same) (reserved g.N.Names.turns i.part i.senders.items i.taker part.room k) in
    grant-home g.N.Names.turns part i.senders.items i.taker seat c.entries-entries.ensures.kept c.in-Some.grant.claim.task c.in-Some.ensures.task

pub take-requires-in-Some-clause-next : goal.take-requires-in-Some-clause-next
take-requires-in-Some-clause-next g c =
    let i = c.self.inside in
    let k = c.self.invariant in
    let part = c.reserve.new.self in
    let same = c.in_ok-reserve.ensures.same in
    let seat = subst (λ (x : PartOf). IsPartSeat g.N.Names.turns (record { part = x; posters = i.senders.items; taker = i.taker })) (sym same) (reserved g.N.Names.turns i.part i.senders.items i.taker part.room k) in
    is-next g.N.Names.turns part i.senders.items i.taker seat c.in-Some.grant.claim (subst (λ (t : TakerOf). AreRising t.taken) c.in-Some.ensures.some c.in-Some.ensures.rising)

pub invariant_of-self-in-Some : goal.invariant_of-self-in-Some
invariant_of-self-in-Some g c =
    let i = c.self.inside in
    let k = c.self.invariant in
    let part = c.reserve.new.self in
    let same = c.in_ok-reserve.ensures.same in
    let seat = subst (λ (x : PartOf). IsPartSeat g.N.Names.turns (record { part = x; posters = i.senders.items; taker = i.taker })) (sym same) (reserved g.N.Names.turns i.part i.senders.items i.taker part.room k) in
    after-grant g.N.Names.turns part i.senders.items i.taker seat c.take-in-Some.new.self c.in-Some.grant.claim c.take-in-Some.result c.take-in-Some.ensures c.take.new.seat _ c.in-Some.ensures.some

pub invariant_of-self-in-None : goal.invariant_of-self-in-None
invariant_of-self-in-None g c =
    let i = c.self.inside in
    let k = c.self.invariant in
    let part = c.reserve.new.self in
    let same = c.in_ok-reserve.ensures.same in
    let seat = subst (λ (x : PartOf). IsPartSeat g.N.Names.turns (record { part = x; posters = i.senders.items; taker = i.taker })) (sym same) (reserved g.N.Names.turns i.part i.senders.items i.taker part.room k) in
    let kept = with_items_is i.senders c.play.new.senders (let a = c.play.auto.senders in let b = c.as_mut_slice.ensures.value in let d = i.senders.ok.0 in a ∙ ap length b ∙ sym d) in
    let taken = c.in-None.ensures.none in
    subst (λ (l : List PosterOf). IsPartSeat g.N.Names.turns (record { part = c.play.new.part; posters = l; taker = c.take.new.seat })) (sym kept)
    (stepped g.N.Names.turns part i.senders.items i.taker seat c.play.result c.play.new.part c.play.new.senders c.take.new.seat c.play.ensures.step c.play.ensures.senders c.play.ensures.posted
    (ap (λ (t : TakerOf). t.tasks) taken) (ap (λ (t : TakerOf). t.taken) taken))
