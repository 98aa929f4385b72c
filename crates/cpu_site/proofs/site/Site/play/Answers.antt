use Rattle.std.proofs.Common.{length, sym, ap, ◌∙◌, subst, arith, vec_capacity}
use Rattle.rt_model.specs.Group.{Group}
use Rattle.rt_plays.specs.Groups.{GroupHistory, group_of}
use Rattle.cpu_site.specs.Playing.{IsFar}
use Rattle.cpu_site.proofs.SetFacts.{cpus-few}
use Rattle.cpu_site.proofs.Seating as seating
use Rattle.cpu_site.proofs.TurnTaking.{far-few}
use Rattle.cpu_site.proofs.site.Site.play.Goals as goal

pub copy-requires : goal.copy-requires
copy-requires g c =
    let seat = seating.seat-of _ _ _ _ _ c.take-group.result _ _ _ _ c.seat.view_is c.self.view_is c.requires c.take-group.ensures.subject c.seat.invariant.2 in
    c.raises.ensures.raises.all ∙ sym seat.all

pub advance-requires-clause-cpu : goal.advance-requires-clause-cpu
advance-requires-clause-cpu g c =
    let seat = seating.seat-of _ _ _ _ _ c.take-group.result _ _ _ _ c.seat.view_is c.self.view_is c.requires c.take-group.ensures.subject c.seat.invariant.2 in
    seating.in-group c.seat.inside.seat c.seat.inside.cpu.0 c.take-group.result c.seat.inside.at c.seat.inside.taken c.seat.inside.counts.items (vec_capacity c.seat.inside.raised) seat c.raises.ensures.begun c.take-group.ensures.later c.take-group.ensures.mine

pub advance-requires-clause-far : goal.advance-requires-clause-far
advance-requires-clause-far g c =
    let seat = seating.seat-of _ _ _ _ _ c.take-group.result _ _ _ _ c.seat.view_is c.self.view_is c.requires c.take-group.ensures.subject c.seat.invariant.2 in
    seating.far-found c.seat.inside.seat c.seat.inside.cpu.0 c.take-group.result c.seat.inside.at c.seat.inside.taken c.seat.inside.counts.items (vec_capacity c.seat.inside.raised) seat c.raises.ensures.begun c.take-group.ensures.later c.take-group.ensures.mine

pub invariant_of-seat-in-TurnOver : goal.invariant_of-seat-in-TurnOver
invariant_of-seat-in-TurnOver g c =
    let seat = seating.seat-of _ _ _ _ _ c.take-group.result _ _ _ _ c.seat.view_is c.self.view_is c.requires c.take-group.ensures.subject c.seat.invariant.2 in
    let long = ap length c.copy.ensures ∙ c.raises.ensures.raises.all ∙ sym seat.all in
    seating.quiet-keeps c.seat.inside.seat c.take-group.new.seat c.give-in-TurnOver.new.seat _ c.self.inside.turn _ c.take-group.result c.advance.new.self c.seat.inside.cpu.0 c.seat.inside.at c.seat.inside.position c.seat.inside.taken c.seat.inside.counts.items (vec_capacity c.seat.inside.raised) c.seat.view_is c.self.view_is c.requires c.take-group.ensures.subject c.seat.invariant c.raises.ensures.begun c.take-group.ensures.later c.take-group.ensures.mine c.take-group.ensures.seat c.give-in-TurnOver.ensures c.advance.new.at c.copy.new.to.items c.in-TurnOver.ensures.outcome.1 c.in-TurnOver.ensures.far long

pub returns-in-TurnOver-clause-few : goal.returns-in-TurnOver-clause-few
returns-in-TurnOver-clause-few g c =
    let site = seating.site-of c.self.inside.turn c.take-group.result c.take-group.ensures.subject c.self.invariant in
    let far = subst (λ (h : GroupHistory). IsFar (group_of h) c.seat.inside.cpu.0 h.entries c.advance.new.at) c.in-TurnOver.ensures.outcome.1 c.in-TurnOver.ensures.far in
    far-few (group_of c.take-group.result) site.playable.valid site.playable.there c.seat.inside.cpu.0 c.take-group.result.entries c.advance.new.at far

pub returns-in-TurnOver-clause-later : goal.returns-in-TurnOver-clause-later
returns-in-TurnOver-clause-later g c = seating.quiet-later c.seat.inside.seat c.take-group.new.seat c.give-in-TurnOver.new.seat _ c.self.inside.turn _ c.take-group.result c.advance.new.self c.seat.inside.cpu.0 c.seat.inside.at c.seat.inside.position c.seat.inside.taken c.seat.inside.counts.items (vec_capacity c.seat.inside.raised) c.seat.view_is c.self.view_is c.requires c.take-group.ensures.subject c.seat.invariant c.raises.ensures.begun c.take-group.ensures.later c.take-group.ensures.mine c.take-group.ensures.seat c.give-in-TurnOver.ensures c.in-TurnOver.ensures.outcome.1

pub returns-in-TurnOver-clause-turn_over : goal.returns-in-TurnOver-clause-turn_over
returns-in-TurnOver-clause-turn_over g c = seating.turn-tells c.seat.inside.seat c.take-group.new.seat c.give-in-TurnOver.new.seat _ c.self.inside.turn _ c.take-group.result c.advance.new.self c.seat.inside.cpu.0 c.seat.inside.at c.seat.inside.position c.seat.inside.taken c.seat.inside.counts.items (vec_capacity c.seat.inside.raised) c.seat.view_is c.self.view_is c.requires c.take-group.ensures.subject c.seat.invariant c.raises.ensures.begun c.take-group.ensures.later c.take-group.ensures.mine c.take-group.ensures.seat c.give-in-TurnOver.ensures c.advance.new.at c.in-TurnOver.ensures.outcome.1 c.in-TurnOver.ensures.outcome.0

pub invariant_of-seat-in-Ended : goal.invariant_of-seat-in-Ended
invariant_of-seat-in-Ended g c =
    let seat = seating.seat-of _ _ _ _ _ c.take-group.result _ _ _ _ c.seat.view_is c.self.view_is c.requires c.take-group.ensures.subject c.seat.invariant.2 in
    let long = ap length c.copy.ensures ∙ c.raises.ensures.raises.all ∙ sym seat.all in
    seating.quiet-keeps c.seat.inside.seat c.take-group.new.seat c.give-in-Ended.new.seat _ c.self.inside.turn _ c.take-group.result c.advance.new.self c.seat.inside.cpu.0 c.seat.inside.at c.seat.inside.position c.seat.inside.taken c.seat.inside.counts.items (vec_capacity c.seat.inside.raised) c.seat.view_is c.self.view_is c.requires c.take-group.ensures.subject c.seat.invariant c.raises.ensures.begun c.take-group.ensures.later c.take-group.ensures.mine c.take-group.ensures.seat c.give-in-Ended.ensures c.advance.new.at c.copy.new.to.items c.in-Ended.ensures.outcome.2 c.in-Ended.ensures.far long

pub returns-in-Ended-clause-few : goal.returns-in-Ended-clause-few
returns-in-Ended-clause-few g c =
    let site = seating.site-of c.self.inside.turn c.take-group.result c.take-group.ensures.subject c.self.invariant in
    let far = subst (λ (h : GroupHistory). IsFar (group_of h) c.seat.inside.cpu.0 h.entries c.advance.new.at) c.in-Ended.ensures.outcome.2 c.in-Ended.ensures.far in
    far-few (group_of c.take-group.result) site.playable.valid site.playable.there c.seat.inside.cpu.0 c.take-group.result.entries c.advance.new.at far

pub returns-in-Ended-clause-later : goal.returns-in-Ended-clause-later
returns-in-Ended-clause-later g c = seating.quiet-later c.seat.inside.seat c.take-group.new.seat c.give-in-Ended.new.seat _ c.self.inside.turn _ c.take-group.result c.advance.new.self c.seat.inside.cpu.0 c.seat.inside.at c.seat.inside.position c.seat.inside.taken c.seat.inside.counts.items (vec_capacity c.seat.inside.raised) c.seat.view_is c.self.view_is c.requires c.take-group.ensures.subject c.seat.invariant c.raises.ensures.begun c.take-group.ensures.later c.take-group.ensures.mine c.take-group.ensures.seat c.give-in-Ended.ensures c.in-Ended.ensures.outcome.2

pub returns-in-Ended-clause-ended : goal.returns-in-Ended-clause-ended
returns-in-Ended-clause-ended g c = seating.ended-tells c.seat.inside.seat c.take-group.new.seat c.give-in-Ended.new.seat _ c.self.inside.turn _ c.take-group.result c.advance.new.self c.seat.inside.cpu.0 c.seat.inside.at c.seat.inside.position c.seat.inside.taken c.seat.inside.counts.items (vec_capacity c.seat.inside.raised) c.seat.view_is c.self.view_is c.requires c.take-group.ensures.subject c.seat.invariant c.raises.ensures.begun c.take-group.ensures.later c.take-group.ensures.mine c.take-group.ensures.seat c.give-in-Ended.ensures c.advance.new.at c.in-Ended.ensures.outcome.2 c.in-Ended.ensures.outcome.0 c.in-Ended.ensures.outcome.1

pub changed-requires-clause-few : goal.changed-requires-clause-few
changed-requires-clause-few g c =
    let site = seating.site-of c.self.inside.turn c.take-group.result c.take-group.ensures.subject c.self.invariant in
    let high = cpus-few (group_of c.take-group.result) site.playable.valid in
    let same = ap length (c.as_slice.ensures.value ∙ c.copy.ensures) in
    omega (arith, high, same, c.raises.ensures.raises.all)

pub changed-requires-clause-room : goal.changed-requires-clause-room
changed-requires-clause-room g c =
    let seat = seating.seat-of _ _ _ _ _ c.take-group.result _ _ _ _ c.seat.view_is c.self.view_is c.requires c.take-group.ensures.subject c.seat.invariant.2 in
    let same = ap length (c.as_slice.ensures.value ∙ c.copy.ensures) in
    let room = seat.room_is in
    omega (arith, room, same, c.raises.ensures.raises.all)

pub changed-requires-clause-each : goal.changed-requires-clause-each
changed-requires-clause-each g c =
    let same = c.as_slice.ensures.value ∙ c.copy.ensures in
    rw same (λ q lt. seating.raises-each c.take-group.result c.advance.new.self c.in-Did.entry c.raises.result.now c.raises-in-Did.result.now c.in-Did.ensures.outcome.1 c.raises.ensures.raises c.raises-in-Did.ensures.raises q lt)

pub word_after-seat-inside-requires : goal.word_after-seat-inside-requires
word_after-seat-inside-requires g c =
    let seat = seating.seat-of _ _ _ _ _ c.take-group.result _ _ _ _ c.seat.view_is c.self.view_is c.requires c.take-group.ensures.subject c.seat.invariant.2 in
    let low = seat.low in
    let all = c.raises-in-Did-2.ensures.raises.all in
    let same = seating.count-same c.take-group.result c.advance.new.self c.in-Did.entry c.in-Did.ensures.outcome.1 in
    let cpu = c.seat.invariant.1 in
    omega (arith, low, all, same, cpu)

pub give-requires-clause-gift : goal.give-requires-clause-gift
give-requires-clause-gift g c =
    let seat = seating.seat-of _ _ _ _ _ c.take-group.result _ _ _ _ c.seat.view_is c.self.view_is c.requires c.take-group.ensures.subject c.seat.invariant.2 in
    let site = seating.site-of c.self.inside.turn c.take-group.result c.take-group.ensures.subject c.self.invariant in
    let same = c.as_slice.ensures.value ∙ c.copy.ensures in
    rw c.as_slice-in-Did.ensures.value (seating.gift-at c.seat.inside.seat c.take-group.new.seat c.seat.inside.cpu.0 c.take-group.result c.advance.new.self c.seat.inside.at c.seat.inside.taken (vec_capacity c.seat.inside.raised) c.self.inside.turn.cpus c.seat.inside.counts.items c.raises.result.now c.raises-in-Did.result.now c.changed.new.positions.items seat
    c.raises.ensures.begun c.take-group.ensures.later c.take-group.ensures.mine c.take-group.ensures.seat c.in-Did.entry c.in-Did.ensures.outcome.0 c.in-Did.ensures.outcome.1 site.all c.raises.ensures.raises c.raises-in-Did.ensures.raises c.in-Did.ensures.few
    (rw same at c.changed.ensures.named) c.changed.ensures.once (rw same at c.changed.ensures.counted))

pub invariant_of-seat : goal.invariant_of-seat
invariant_of-seat g c =
    let seat = seating.seat-of _ _ _ _ _ c.take-group.result _ _ _ _ c.seat.view_is c.self.view_is c.requires c.take-group.ensures.subject c.seat.invariant.2 in
    let long = ap length c.copy.ensures ∙ c.raises.ensures.raises.all ∙ sym seat.all in
    seating.played-keeps c.seat.inside.seat c.take-group.new.seat c.give.new.seat _ c.self.inside.turn _ c.take-group.result c.advance.new.self c.seat.inside.cpu.0 c.seat.inside.at c.seat.inside.position c.seat.inside.taken c.seat.inside.counts.items (vec_capacity c.seat.inside.raised) c.seat.view_is c.self.view_is c.requires c.take-group.ensures.subject c.seat.invariant c.raises.ensures.begun c.take-group.ensures.later c.take-group.ensures.mine c.take-group.ensures.seat c.give.ensures c.in-Did.entry c.in-Did.ensures.outcome.0 c.in-Did.ensures.outcome.1 c.advance.new.at c.copy.new.to.items c.raises-in-Did-2.result.now c.word_after-seat-inside.result (vec_capacity c.changed.new.positions) c.in-Did.ensures.begun c.in-Did.ensures.far long c.raises-in-Did-2.ensures.raises c.word_after-seat-inside.ensures c.changed.ensures.capacity

pub returns-in-Did-clause-did : goal.returns-in-Did-clause-did
returns-in-Did-clause-did g c = seating.played-tells c.seat.inside.seat c.take-group.new.seat c.give.new.seat _ c.self.inside.turn _ c.take-group.result c.advance.new.self c.seat.inside.cpu.0 c.seat.inside.at c.seat.inside.position c.seat.inside.taken c.seat.inside.counts.items (vec_capacity c.seat.inside.raised) c.seat.view_is c.self.view_is c.requires c.take-group.ensures.subject c.seat.invariant c.raises.ensures.begun c.take-group.ensures.later c.take-group.ensures.mine c.take-group.ensures.seat c.give.ensures c.in-Did.entry c.in-Did.ensures.outcome.0 c.in-Did.ensures.outcome.1 c.advance.new.at

pub returns-in-Did-clause-few : goal.returns-in-Did-clause-few
returns-in-Did-clause-few g c =
    let site = seating.site-of c.self.inside.turn c.take-group.result c.take-group.ensures.subject c.self.invariant in
    let same = ap group_of c.in-Did.ensures.outcome.1 in
    let far = subst (λ (x : Group). IsFar x c.seat.inside.cpu.0 c.advance.new.self.entries c.advance.new.at) same c.in-Did.ensures.far in
    far-few (group_of c.take-group.result) site.playable.valid site.playable.there c.seat.inside.cpu.0 c.advance.new.self.entries c.advance.new.at far

pub returns-in-Did-clause-later : goal.returns-in-Did-clause-later
returns-in-Did-clause-later g c = seating.played-later c.seat.inside.seat c.take-group.new.seat c.give.new.seat _ c.self.inside.turn _ c.take-group.result c.advance.new.self c.seat.inside.cpu.0 c.seat.inside.at c.seat.inside.position c.seat.inside.taken c.seat.inside.counts.items (vec_capacity c.seat.inside.raised) c.seat.view_is c.self.view_is c.requires c.take-group.ensures.subject c.seat.invariant c.raises.ensures.begun c.take-group.ensures.later c.take-group.ensures.mine c.take-group.ensures.seat c.give.ensures c.in-Did.entry c.in-Did.ensures.outcome.0 c.in-Did.ensures.outcome.1
