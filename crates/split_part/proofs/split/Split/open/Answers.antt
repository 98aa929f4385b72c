use Rattle.std.proofs.Common.{◌≡◌, ◌≤◌, List, length, map, sym, ap, ◌∙◌, subst, arith}
use Rattle.split_inbox.specs.Sums.{sum_of}
use Rattle.turn_cell.specs.SeatViews.{Cell, TurnOf}
use Rattle.split_inbox.specs.declared.subject.SemOf.{SemOf}
use Rattle.rt_plays.specs.Room.{processor_count}
use Rattle.part_seat.specs.PartSeats.{unlocks_of}
use Rattle.split_part.specs.Closings.{HaveCpus}
use Rattle.split_part.specs.Columns.{AreBoth}
use Rattle.split_part.specs.inside.Deals.{lists}
use Rattle.split_part.specs.Openings.{AreSeated, CanSeat, IsFreshTaker, posters_at}
use Rattle.split_part.specs.Splits.{SplitOf}
use Rattle.split_part.proofs.Unlocks.{unlocks-few}
use Rattle.split_part.proofs.OpeningLaws.{can-seat, cells-turns, fresh_rows, have-cpus, seats-are, seats-unplayed}
use Rattle.split_part.proofs.split.Split.open.Goals as goal

pub partitions-requires-clause-rows : goal.partitions-requires-clause-rows
partitions-requires-clause-rows g c = fresh_rows c.args.setup.now c.args.turns (lists c.in_ok-turns.rows.items) c.requires.turns c.in_ok-turns.ensures.seats

pub inboxes-requires : goal.inboxes-requires
inboxes-requires g c =
    let few = unlocks-few c.args.setup.now c.parts-parts.ensures.valid c.requires.split in
    let same = ap sum_of (c.as_slice-2.ensures.value ∙ c.in_ok-quotas.ensures) in
    omega (arith, few, same)

pub seated-requires : goal.seated-requires
seated-requires g c =
    let p = c.args.setup.now in
    let rows = lists c.in_ok-turns.rows.items in
    let fr = fresh_rows p c.args.turns rows c.requires.turns c.in_ok-turns.ensures.seats in
    let takers = c.in_ok-inboxes.takers.items in
    let are = subst (λ qs. AreBoth (IsFreshTaker qs) c.in_ok-parts.parts.items takers) (c.as_slice-2.ensures.value ∙ c.in_ok-quotas.ensures)
    (subst (λ l. AreBoth (IsFreshTaker c.as_slice-2.result.now) l takers) c.as_slice.ensures.value c.in_ok-inboxes.ensures.takers) in
    let can = can-seat p rows fr c.in_ok-parts.parts.items c.in_ok-parts.ensures takers are in
    subst (λ ts. CanSeat ts c.in_ok-parts.parts.items (lists c.in_ok-inboxes.posters.items) takers) c.requires.names
    (subst (λ l. CanSeat fr.cells c.in_ok-parts.parts.items l takers) (sym c.in_ok-inboxes.ensures.posters) can)

pub invariant_of-result : goal.invariant_of-result
invariant_of-result g c =
    subst (λ q. HaveCpus (processor_count q) c.in_ok-turns.turns.items) (sym c.in_ok-setup.ensures)
    (subst (HaveCpus (processor_count c.args.setup.now)) (sym c.in_ok-turns.ensures.turns) (have-cpus c.args.setup.now 1 c.args.turns c.requires.turns.each))

pub returns-clause-seats : goal.returns-clause-seats
returns-clause-seats g c =
    let p = c.args.setup.now in
    let rows = lists c.in_ok-turns.rows.items in
    let fr = fresh_rows p c.args.turns rows c.requires.turns c.in_ok-turns.ensures.seats in
    let parts = c.in_ok-parts.parts.items in
    let takers = c.in_ok-inboxes.takers.items in
    let are = subst (λ qs. AreBoth (IsFreshTaker qs) parts takers) (c.as_slice-2.ensures.value ∙ c.in_ok-quotas.ensures)
    (subst (λ l. AreBoth (IsFreshTaker c.as_slice-2.result.now) l takers) c.as_slice.ensures.value c.in_ok-inboxes.ensures.takers) in
    let seated = subst (λ l. AreSeated parts l takers c.in_ok-seats.seats.items) c.in_ok-inboxes.ensures.posters c.in_ok-seats.ensures in
    let x : SplitOf = record { setup = c.in_ok-setup.setup; turns = c.in_ok-turns.turns.items; inboxes = c.in_ok-inboxes.inboxes.items } in
    let turns = ap (map (λ (t : TurnOf SemOf). t.cell)) c.in_ok-turns.ensures.turns ∙ cells-turns c.args.turns in
    seats-are p rows fr parts c.in_ok-parts.ensures takers are x c.in_ok-setup.ensures turns c.in_ok-inboxes.ensures.inboxes c.in_ok-seats.seats.items seated

pub returns-clause-unplayed : goal.returns-clause-unplayed
returns-clause-unplayed g c =
    let p = c.args.setup.now in
    let rows = lists c.in_ok-turns.rows.items in
    let fr = fresh_rows p c.args.turns rows c.requires.turns c.in_ok-turns.ensures.seats in
    let parts = c.in_ok-parts.parts.items in
    let takers = c.in_ok-inboxes.takers.items in
    let are = subst (λ qs. AreBoth (IsFreshTaker qs) parts takers) (c.as_slice-2.ensures.value ∙ c.in_ok-quotas.ensures)
    (subst (λ l. AreBoth (IsFreshTaker c.as_slice-2.result.now) l takers) c.as_slice.ensures.value c.in_ok-inboxes.ensures.takers) in
    let seated = subst (λ l. AreSeated parts l takers c.in_ok-seats.seats.items) c.in_ok-inboxes.ensures.posters c.in_ok-seats.ensures in
    let x : SplitOf = record { setup = c.in_ok-setup.setup; turns = c.in_ok-turns.turns.items; inboxes = c.in_ok-inboxes.inboxes.items } in
    let turns = ap (map (λ (t : TurnOf SemOf). t.cell)) c.in_ok-turns.ensures.turns ∙ cells-turns c.args.turns in
    seats-unplayed p rows fr parts c.in_ok-parts.ensures takers are x c.in_ok-setup.ensures turns c.in_ok-inboxes.ensures.inboxes c.in_ok-seats.seats.items seated
