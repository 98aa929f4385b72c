use Rattle.std.proofs.Common.{◌≡◌, ◌-◌, ◌<◌, Option, Some, length, sym, ap, ◌∙◌, subst, arith}
use Rattle.std.specs.Prelude.{IfSome, slice_get, slice_index_or}
use Rattle.std.proofs.lemmas.Option.{slice_get-get_or}
use Rattle.turn_cell.specs.SeatViews.{split_off}
use Rattle.part_seat.specs.Partitions.{Seat, cells_of}
use Rattle.part_seat.proofs.PositionLaws.{cells-at}
use Rattle.part_seat.proofs.partition.Partition.spare.Goals as goal

pub spare-requires-clause-cell : goal.spare-requires-clause-cell
spare-requires-clause-cell g c =
    let seats : c.self.inside.seats.items ≡ c.args.self.now.seats = ap (λ a. a.seats) c.self.view_is in
    let low : c.args.sem.0 - 1 < length c.self.inside.seats.items = let l = c.requires.low in let h = c.requires.high in let n = ap length seats in omega (arith, l, h, n) in
    ap (λ (a : Seat). a.cell) c.index_mut.ensures.value
    ∙ cells-at c.args.turns.now c.self.inside.seats.items (c.args.sem.0 - 1) c.index-turns-position.result c.index_mut.result.now (c.requires.turns ∙ ap cells_of (sym seats)) low
    ∙ ap (λ t. t.cell) (sym c.index-turns-position.is)

pub returns-clause-copy : goal.returns-clause-copy
returns-clause-copy g c =
    let seats : c.self.inside.seats.items ≡ c.args.self.now.seats = ap (λ a. a.seats) c.self.view_is in
    let low : c.args.sem.0 - 1 < length c.args.self.now.seats = let l = c.requires.low in let h = c.requires.high in omega (arith, l, h) in
    let there : slice_get c.args.self.now.seats (c.args.sem.0 - 1) ≡ Some c.index_mut.result.now =
    slice_get-get_or c.args.self.now.seats (c.args.sem.0 - 1) c.index_mut.result.now low
    ∙ ap Some (ap (λ l. slice_index_or l (c.args.sem.0 - 1) c.index_mut.result.now) (sym seats) ∙ sym c.index_mut.ensures.value) in
    subst (λ (o : Option Seat). IfSome o (λ a. c.spare.result ≡ split_off a)) (sym there) c.spare.ensures.copy
