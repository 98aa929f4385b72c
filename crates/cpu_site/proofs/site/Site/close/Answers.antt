use Rattle.std.proofs.Common.{ℕ, sym, subst, arith, ◌∷◌, [], length, map, ap, ◌∙◌, vec_capacity, length-append}
use Rattle.std.specs.Prelude.{All, Contains}
use Rattle.rt_plays.specs.Homes.{IsProcessorOf}
use Rattle.rt_plays.specs.Plays.{IsBegunPlay}
use Rattle.turn_cell.specs.SeatViews.{TurnOf}
use Rattle.turn_cell.specs.Words.{AgreeOn, StartsWith}
use Rattle.rt_plays.specs.Groups.{GroupHistory, group_of}
use Rattle.cpu_site.specs.declared.story.GroupOf.{GroupOf}
use Rattle.cpu_site.specs.Seats.{cpu_of, group_at, About, CpuSeatView}
use Rattle.cpu_site.proofs.Returning.{back-all, back-end, back-more, later-all, middle, taken-more, whole-all}
use Rattle.cpu_site.proofs.site.Site.close.Goals as goal

pub loop-seat-preserved : goal.loop-seat-preserved
loop-seat-preserved c =
    let i = c.loop-seat.invariant.0 in
    let split = taken-more c.args.seats.items c.loop-seat.seats.items c.pop.new.self.items i.0 c.in-Some.seat i.1 c.in-Some.ensures.items in
    let cell = middle c.args.self.cell c.args.seats.items c.pop.new.self.items i.0 c.in-Some.seat c.requires.seats split ∙ ap (λ (t : TurnOf GroupOf). t.cell) (sym c.self.view_is) in (
      (
        c.in-Some.seat ∷ i.0,
        split,
        back-more c.self.inside.turn.cell i.0 c.loop-seat.back.items c.push_reserved.new.self.items c.seat.inside.seat c.in-Some.seat c.seat.inside.cpu.0 c.seat.inside.at c.seat.inside.position c.seat.inside.taken c.seat.inside.counts.items (vec_capacity c.seat.inside.raised) i.2 c.push_reserved.ensures.items c.seat.view_is cell c.seat.invariant,
      ),
      omega (arith, c.loop-seat.invariant.1, ap length c.push_reserved.ensures.items, length-append c.loop-seat.back.items (c.seat.inside.seat ∷ []), ap length c.in-Some.ensures.items, length-append c.pop.new.self.items (c.in-Some.seat ∷ [])),
      omega (arith, c.loop-seat.invariant.2, c.push_reserved.ensures.capacity),
    )

pub close-requires-clause-all : goal.close-requires-clause-all
close-requires-clause-all c =
    let i = c.loop-seat.invariant.0 in
    let are = back-end c.self.inside.turn.cell c.args.seats.items c.loop-seat.seats.items i.0 c.loop-seat.back.items (omega (arith, c.in_default.ensures.cases.0, c.loop-seat.seats.ok.0)) i.1 i.2 in
    back-all c.self.inside.turn c.self.invariant c.args.seats.items c.loop-seat.back.items are
    (subst (λ (t : TurnOf GroupOf). About t.cell (λ s. (q : ℕ) → IsProcessorOf (group_at s) q → Contains (map (λ (p : CpuSeatView). p.cpu) c.args.seats.items) q)) (sym c.self.view_is) c.requires.all)

pub returns-clause-later : goal.returns-clause-later
returns-clause-later c =
    let i = c.loop-seat.invariant.0 in
    let are = back-end c.self.inside.turn.cell c.args.seats.items c.loop-seat.seats.items i.0 c.loop-seat.back.items (omega (arith, c.in_default.ensures.cases.0, c.loop-seat.seats.ok.0)) i.1 i.2 in
    let begun = subst (λ (h : GroupHistory). IsBegunPlay (group_of h) h.entries) c.into_engine.ensures.same c.into_engine.ensures.begun in
    subst (λ (h : GroupHistory). All (λ (p : CpuSeatView). StartsWith h.entries p.seen) c.args.seats.items) (sym c.into_engine.ensures.same)
    (later-all c.self.inside.turn c.self.invariant c.args.seats.items c.loop-seat.back.items are c.close.result c.close.ensures.subject begun c.close.ensures.later)

pub returns-clause-whole : goal.returns-clause-whole
returns-clause-whole c =
    let i = c.loop-seat.invariant.0 in
    let are = back-end c.self.inside.turn.cell c.args.seats.items c.loop-seat.seats.items i.0 c.loop-seat.back.items (omega (arith, c.in_default.ensures.cases.0, c.loop-seat.seats.ok.0)) i.1 i.2 in
    let begun = subst (λ (h : GroupHistory). IsBegunPlay (group_of h) h.entries) c.into_engine.ensures.same c.into_engine.ensures.begun in
    subst (λ (h : GroupHistory). All (λ (p : CpuSeatView). AgreeOn cpu_of p.cpu h.entries p.seen) c.args.seats.items) (sym c.into_engine.ensures.same)
    (whole-all c.self.inside.turn c.self.invariant c.args.seats.items c.loop-seat.back.items are c.close.result c.close.ensures.subject begun c.close.ensures.whole)
