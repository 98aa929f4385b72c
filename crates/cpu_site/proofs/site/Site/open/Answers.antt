use Rattle.std.proofs.Common.{◌≡◌, ◌<◌, ◌≤◌, ◌∷◌, [], length, sym, ap, ◌∙◌, arith, append-nil}
use Rattle.std.proofs.lemmas.List.{length-map}
use Rattle.rt_model.specs.Group.{group_processors}
use Rattle.rt_plays.specs.Groups.{GroupHistory, group_of}
use Rattle.rt_plays.specs.Plays.{group_with}
use Rattle.cpu_site.specs.Cpus.{cpu_numbers}
use Rattle.cpu_site.specs.Seats.{unused_seat}
use Rattle.cpu_site.proofs.Numbering.{cpus-read}
use Rattle.cpu_site.proofs.Returning.{all-put, fresh-about, fresh-last, fresh-self, put-more, raises-opened, seat-numbered, taken-more}
use Rattle.rt_plays.proofs.GroupLimits.{processor-some}
use Rattle.cpu_site.proofs.SetFacts.{cpus-few}
use Rattle.cpu_site.proofs.site.Site.open.Goals as goal

pub overflow_cast-count : goal.overflow_cast-count
overflow_cast-count c =
    let g = group_with c.args.setup.now c.args.group.0 in
    let low : c.len-count.result ≤ 64 = omega (arith, cpus-few g c.in_ok-value.ensures.playable.valid, cpus-read g c.in_ok-cpus.cpus.items c.in_ok-cpus.ensures, c.len-count.ensures, c.in_ok-cpus.cpus.ok.0) in
    search (arith, low)

pub open-requires-2-clause-cpus : goal.open-requires-2-clause-cpus
open-requires-2-clause-cpus c =
    let g = group_with c.args.setup.now c.args.group.0 in
    omega (arith, processor-some g c.in_ok-value.ensures.playable.valid c.requires.group, cpus-read g c.in_ok-cpus.cpus.items c.in_ok-cpus.ensures, c.len-count.ensures, c.in_ok-cpus.cpus.ok.0)

pub open-requires-2-clause-raises : goal.open-requires-2-clause-raises
open-requires-2-clause-raises c = λ q lt.
    let are : cpu_numbers c.in_ok-cpus.cpus.items ≡ group_processors (group_of c.in_ok-value.value) = c.in_ok-cpus.ensures ∙ ap (λ (h : GroupHistory). group_processors (group_of h)) (sym c.in_ok-value.ensures.group) in
    raises-opened c.in_ok-value.value c.len-count.result q (ap (λ (h : GroupHistory). h.entries) c.in_ok-value.ensures.group) (omega (arith, cpus-read (group_of c.in_ok-value.value) c.in_ok-cpus.cpus.items are, c.len-count.ensures, c.in_ok-cpus.cpus.ok.0)) lt

pub loop-seat-init : goal.loop-seat-init
loop-seat-init c = ([], sym (append-nil c.in_ok-turn.seats.items), c.new-all.ensures.items)

pub index-cpu-requires : goal.index-cpu-requires
index-cpu-requires c =
    let i = c.loop-seat.invariant in
    let last = fresh-last c.in_ok-turn.turn.cell c.len-count.result c.in_ok-turn.seats.items c.pop.new.self.items i.0 c.in-Some.seat c.in_ok-turn.ensures.seats (taken-more c.in_ok-turn.seats.items c.loop-seat.seats.items c.pop.new.self.items i.0 c.in-Some.seat i.1 c.in-Some.ensures.items) in
    omega (arith, last.0, c.len-position.ensures, c.pop.new.self.ok.0, c.len-count.ensures)

pub overflow_cast-position : goal.overflow_cast-position
overflow_cast-position c =
    let i = c.loop-seat.invariant in
    let last = fresh-last c.in_ok-turn.turn.cell c.len-count.result c.in_ok-turn.seats.items c.pop.new.self.items i.0 c.in-Some.seat c.in_ok-turn.ensures.seats (taken-more c.in_ok-turn.seats.items c.loop-seat.seats.items c.pop.new.self.items i.0 c.in-Some.seat i.1 c.in-Some.ensures.items) in
    let g = group_with c.args.setup.now c.args.group.0 in
    let low : c.len-position.result ≤ 64 = omega (arith, last.0, c.len-position.ensures, c.pop.new.self.ok.0, cpus-few g c.in_ok-value.ensures.playable.valid, cpus-read g c.in_ok-cpus.cpus.items c.in_ok-cpus.ensures, c.len-count.ensures, c.in_ok-cpus.cpus.ok.0) in
    search (arith, low)

pub seated-requires-clause-seat : goal.seated-requires-clause-seat
seated-requires-clause-seat c =
    let i = c.loop-seat.invariant in
    let last = fresh-last c.in_ok-turn.turn.cell c.len-count.result c.in_ok-turn.seats.items c.pop.new.self.items i.0 c.in-Some.seat c.in_ok-turn.ensures.seats (taken-more c.in_ok-turn.seats.items c.loop-seat.seats.items c.pop.new.self.items i.0 c.in-Some.seat i.1 c.in-Some.ensures.items) in
    fresh-self c.in_ok-turn.turn.cell (length c.pop.new.self.items) c.len-position.result c.in-Some.seat last.1 (omega (arith, c.len-position.ensures, c.pop.new.self.ok.0))

pub seated-requires-clause-position : goal.seated-requires-clause-position
seated-requires-clause-position c =
    let i = c.loop-seat.invariant in
    let last = fresh-last c.in_ok-turn.turn.cell c.len-count.result c.in_ok-turn.seats.items c.pop.new.self.items i.0 c.in-Some.seat c.in_ok-turn.ensures.seats (taken-more c.in_ok-turn.seats.items c.loop-seat.seats.items c.pop.new.self.items i.0 c.in-Some.seat i.1 c.in-Some.ensures.items) in
    let are : cpu_numbers c.in_ok-cpus.cpus.items ≡ group_processors (group_of c.in_ok-value.value) = c.in_ok-cpus.ensures ∙ ap (λ (h : GroupHistory). group_processors (group_of h)) (sym c.in_ok-value.ensures.group) in
    fresh-about c.in_ok-turn.turn.cell c.in_ok-value.value c.in_ok-cpus.cpus.items c.index-cpu.result.now c.len-count.result (length c.pop.new.self.items) c.len-position.result c.in-Some.seat c.in_ok-turn.ensures.turn.1 are (omega (arith, c.len-count.ensures, c.in_ok-cpus.cpus.ok.0)) last.1 (omega (arith, c.len-position.ensures, c.pop.new.self.ok.0)) last.0 c.index-cpu.ensures

pub loop-seat-preserved : goal.loop-seat-preserved
loop-seat-preserved c =
    let i = c.loop-seat.invariant in
    let g = group_with c.args.setup.now c.args.group.0 in
    let split = taken-more c.in_ok-turn.seats.items c.loop-seat.seats.items c.pop.new.self.items i.0 c.in-Some.seat i.1 c.in-Some.ensures.items in
    let last = fresh-last c.in_ok-turn.turn.cell c.len-count.result c.in_ok-turn.seats.items c.pop.new.self.items i.0 c.in-Some.seat c.in_ok-turn.ensures.seats split in
    let here : c.len-position.result ≡ length c.pop.new.self.items = omega (arith, c.len-position.ensures, c.pop.new.self.ok.0) in
    let low : c.len-position.result < length c.in_ok-cpus.cpus.items = omega (arith, last.0, here, c.len-count.ensures, c.in_ok-cpus.cpus.ok.0) in (
      c.in-Some.seat ∷ i.0,
      split,
      put-more g c.loop-seat.all.items c.push.new.self.items i.0 c.in-Some.seat c.in_ok-seat.seat i.2 c.in_ok-push.ensures.items
          (seat-numbered c.in_ok-turn.turn.cell g c.in_ok-cpus.cpus.items c.index-cpu.result.now (length c.pop.new.self.items) c.len-position.result c.in-Some.seat c.in_ok-seat.seat c.in_ok-cpus.ensures last.1 here low c.index-cpu.ensures c.in_ok-seat.ensures),
    )

pub returns-clause-seats : goal.returns-clause-seats
returns-clause-seats c =
    let i = c.loop-seat.invariant in
    let g = group_with c.args.setup.now c.args.group.0 in
    all-put c.in_ok-turn.turn.cell g c.len-count.result c.in_ok-turn.seats.items c.loop-seat.seats.items i.0 c.loop-seat.all.items c.turn_round.new.items.items (omega (arith, cpus-read g c.in_ok-cpus.cpus.items c.in_ok-cpus.ensures, c.len-count.ensures, c.in_ok-cpus.cpus.ok.0)) (omega (arith, c.in_default.ensures.cases.0, c.loop-seat.seats.ok.0)) c.in_ok-turn.ensures.seats i.1 i.2 c.turn_round.ensures

pub returns-clause-few : goal.returns-clause-few
returns-clause-few c =
    let g = group_with c.args.setup.now c.args.group.0 in
    omega (arith, ap length (returns-clause-seats c), length-map (group_processors g) (unused_seat c.in_ok-turn.turn.cell), cpus-few g c.in_ok-value.ensures.playable.valid)
