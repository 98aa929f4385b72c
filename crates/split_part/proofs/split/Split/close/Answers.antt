use Rattle.std.proofs.Common.{◌≡◌, ◌<◌, All, length, map, reverse, sym, ap, ◌∙◌, subst}
use Rattle.std.proofs.lemmas.List.{length-map}
use Rattle.turn_cell.specs.SeatViews.{TurnOf}
use Rattle.rt_plays.specs.Room.{processor_count}
use Rattle.split_inbox.specs.declared.subject.SemOf.{SemOf}
use Rattle.split_turns.proofs.SetLaws.{some-cpu}
use Rattle.part_seat.specs.Partitions.{PartOf, cells_of}
use Rattle.part_seat.specs.PartSeats.{inboxes_of}
use Rattle.split_part.specs.Closings.{AreRests, AreResting, CanTakeEach, HaveCpus, HaveTaken, IsTold}
use Rattle.split_part.specs.Columns.{AreBoth, AreFrom}
use Rattle.split_part.specs.inside.Deals.{lists}
use Rattle.split_part.specs.Ends.{AllGoOn, AllPlayed, EndOf, HavePlayed, IsSplitEnd}
use Rattle.split_part.specs.Openings.{inboxes_at}
use Rattle.split_part.specs.Splits.{AreSeatsOf, SplitOf}
use Rattle.split_part.proofs.EndLaws.{all-go-on, all-played, can-take-each, parts-names, parts-turns, posters-are, rows-cells, rows-count, rows-resting, seat_rows, split-end, takers-are, takers_at}
use Rattle.split_part.proofs.split.Split.close.Goals as goal

pub rests_of-requires-clause-takers : goal.rests_of-requires-clause-takers
rests_of-requires-clause-takers g c =
    let i = c.self.inside in
    let x : SplitOf = record { setup = i.setup; turns = i.turns.items; inboxes = i.inboxes.items } in
    let ts = g.N.Names.turns in
    let views = c.args.seats.items in
    let seats = subst (λ v. AreSeatsOf v views) (sym c.self.view_is) c.requires in
    let apart = c.in_ok-parts.ensures in
    let kept = apart.kept in
    takers-are x ts views seats kept (some-cpu i.setup c.parts-parts.ensures.valid) ∙ ap inboxes_at (sym apart.takers)

pub rests_of-requires-clause-posters : goal.rests_of-requires-clause-posters
rests_of-requires-clause-posters g c =
    let i = c.self.inside in
    let x : SplitOf = record { setup = i.setup; turns = i.turns.items; inboxes = i.inboxes.items } in
    let ts = g.N.Names.turns in
    let views = c.args.seats.items in
    let seats = subst (λ v. AreSeatsOf v views) (sym c.self.view_is) c.requires in
    let apart = c.in_ok-parts.ensures in
    let kept = apart.kept in
    subst (All (λ row. inboxes_of row ≡ x.inboxes)) (sym apart.posters) (posters-are x ts views seats kept)

pub take_rests-requires-clause-turns : goal.take_rests-requires-clause-turns
take_rests-requires-clause-turns g c =
    let i = c.self.inside in
    let x : SplitOf = record { setup = i.setup; turns = i.turns.items; inboxes = i.inboxes.items } in
    let ts = g.N.Names.turns in
    let views = c.args.seats.items in
    let seats = subst (λ v. AreSeatsOf v views) (sym c.self.view_is) c.requires in
    let apart = c.in_ok-parts.ensures in
    let kept = apart.kept in
    subst (λ us. All (λ (a : PartOf). map (λ (t : TurnOf SemOf). t.cell) us ≡ cells_of a.seats) c.in_ok-parts.parts.items) (sym c.as_slice.ensures.value)
    (subst (All (λ (a : PartOf). map (λ (t : TurnOf SemOf). t.cell) x.turns ≡ cells_of a.seats)) (sym apart.parts) (parts-turns x ts views seats kept))

pub take_rests-requires-clause-names : goal.take_rests-requires-clause-names
take_rests-requires-clause-names g c =
    let i = c.self.inside in
    let x : SplitOf = record { setup = i.setup; turns = i.turns.items; inboxes = i.inboxes.items } in
    let ts = g.N.Names.turns in
    let views = c.args.seats.items in
    let seats = subst (λ v. AreSeatsOf v views) (sym c.self.view_is) c.requires in
    let apart = c.in_ok-parts.ensures in
    let kept = apart.kept in
    subst (All (λ (a : PartOf). cells_of a.seats ≡ ts)) (sym apart.parts) (parts-names x ts views seats kept)

pub take_rests-requires-clause-can : goal.take_rests-requires-clause-can
take_rests-requires-clause-can g c =
    let i = c.self.inside in
    let x : SplitOf = record { setup = i.setup; turns = i.turns.items; inboxes = i.inboxes.items } in
    let ts = g.N.Names.turns in
    let views = c.args.seats.items in
    let seats = subst (λ v. AreSeatsOf v views) (sym c.self.view_is) c.requires in
    let apart = c.in_ok-parts.ensures in
    let kept = apart.kept in
    let rests = lists (reverse c.in_ok-rests.rests.items) in
    let left = subst (λ l. AreRests l (takers_at x ts views seats kept) rests) apart.posters (subst (λ l. AreRests (lists c.in_ok-parts.posters.items) l rests) apart.takers c.in_ok-rests.ensures) in
    subst (λ l. CanTakeEach l rests) (sym apart.parts) (can-take-each x ts views seats kept rests left)

pub books_of-requires-clause-cells : goal.books_of-requires-clause-cells
books_of-requires-clause-cells g c =
    let i = c.self.inside in
    let x : SplitOf = record { setup = i.setup; turns = i.turns.items; inboxes = i.inboxes.items } in
    let ts = g.N.Names.turns in
    let views = c.args.seats.items in
    let seats = subst (λ v. AreSeatsOf v views) (sym c.self.view_is) c.requires in
    let apart = c.in_ok-parts.ensures in
    let kept = apart.kept in
    let rests = lists (reverse c.in_ok-rests.rests.items) in
    let left = subst (λ l. AreRests l (takers_at x ts views seats kept) rests) apart.posters (subst (λ l. AreRests (lists c.in_ok-parts.posters.items) l rests) apart.takers c.in_ok-rests.ensures) in
    let parts = c.in_ok-parts-2.parts.items in
    let taken = subst (λ l. HaveTaken l rests parts) apart.parts c.in_ok-parts-2.ensures in
    let after = c.in_ok-histories.ensures.kept in
    subst (All (λ row. map (λ (t : TurnOf SemOf). t.cell) x.turns ≡ cells_of row)) (sym c.in_ok-histories.ensures.seats) (rows-cells x ts views seats kept rests left parts taken after)

pub books_of-requires-clause-seats : goal.books_of-requires-clause-seats
books_of-requires-clause-seats g c =
    let i = c.self.inside in
    let x : SplitOf = record { setup = i.setup; turns = i.turns.items; inboxes = i.inboxes.items } in
    let ts = g.N.Names.turns in
    let views = c.args.seats.items in
    let seats = subst (λ v. AreSeatsOf v views) (sym c.self.view_is) c.requires in
    let apart = c.in_ok-parts.ensures in
    let kept = apart.kept in
    let rests = lists (reverse c.in_ok-rests.rests.items) in
    let left = subst (λ l. AreRests l (takers_at x ts views seats kept) rests) apart.posters (subst (λ l. AreRests (lists c.in_ok-parts.posters.items) l rests) apart.takers c.in_ok-rests.ensures) in
    let parts = c.in_ok-parts-2.parts.items in
    let taken = subst (λ l. HaveTaken l rests parts) apart.parts c.in_ok-parts-2.ensures in
    let after = c.in_ok-histories.ensures.kept in
    subst (AreFrom AreResting 0) (sym c.in_ok-histories.ensures.seats) (rows-resting x ts views seats kept rests left parts taken after)

pub books_of-requires-clause-cpus : goal.books_of-requires-clause-cpus
books_of-requires-clause-cpus g c =
    let i = c.self.inside in
    let x : SplitOf = record { setup = i.setup; turns = i.turns.items; inboxes = i.inboxes.items } in
    let ts = g.N.Names.turns in
    let views = c.args.seats.items in
    let seats = subst (λ v. AreSeatsOf v views) (sym c.self.view_is) c.requires in
    let apart = c.in_ok-parts.ensures in
    let kept = apart.kept in
    let rests = lists (reverse c.in_ok-rests.rests.items) in
    let left = subst (λ l. AreRests l (takers_at x ts views seats kept) rests) apart.posters (subst (λ l. AreRests (lists c.in_ok-parts.posters.items) l rests) apart.takers c.in_ok-rests.ensures) in
    let parts = c.in_ok-parts-2.parts.items in
    let taken = subst (λ l. HaveTaken l rests parts) apart.parts c.in_ok-parts-2.ensures in
    let after = c.in_ok-histories.ensures.kept in
    let count = sym (length-map c.in_ok-histories.rows.items (λ v. v.items)) ∙ ap length c.in_ok-histories.ensures.seats ∙ rows-count x ts views seats kept rests left parts taken after in
    subst (λ n. HaveCpus n i.turns.items) (sym count) c.self.invariant

pub returns-clause-end : goal.returns-clause-end
returns-clause-end g c =
    let i = c.self.inside in
    let x : SplitOf = record { setup = i.setup; turns = i.turns.items; inboxes = i.inboxes.items } in
    let ts = g.N.Names.turns in
    let views = c.args.seats.items in
    let seats = subst (λ v. AreSeatsOf v views) (sym c.self.view_is) c.requires in
    let apart = c.in_ok-parts.ensures in
    let kept = apart.kept in
    let rests = lists (reverse c.in_ok-rests.rests.items) in
    let left = subst (λ l. AreRests l (takers_at x ts views seats kept) rests) apart.posters (subst (λ l. AreRests (lists c.in_ok-parts.posters.items) l rests) apart.takers c.in_ok-rests.ensures) in
    let parts = c.in_ok-parts-2.parts.items in
    let taken = subst (λ l. HaveTaken l rests parts) apart.parts c.in_ok-parts-2.ensures in
    let after = c.in_ok-histories.ensures.kept in
    let valid = c.parts-parts.ensures.valid in
    let e : EndOf = record { sems = c.new.result; parts = c.new-2.result } in
    let told = subst (λ l. All (λ row. AreBoth IsTold row l) (seat_rows x ts views seats kept rests left parts taken after)) (sym c.new.ensures)
    (subst (All (λ row. AreBoth IsTold row (lists c.in_ok-books.books.items))) c.in_ok-histories.ensures.seats c.in_ok-books.ensures.told) in
    let entries = c.new-2.ensures ∙ c.in_ok-histories.ensures.histories in
    subst (λ v. IsSplitEnd v.setup e) c.self.view_is (split-end x ts views seats kept rests left parts taken after valid e told entries)

pub returns-clause-later : goal.returns-clause-later
returns-clause-later g c =
    let i = c.self.inside in
    let x : SplitOf = record { setup = i.setup; turns = i.turns.items; inboxes = i.inboxes.items } in
    let ts = g.N.Names.turns in
    let views = c.args.seats.items in
    let seats = subst (λ v. AreSeatsOf v views) (sym c.self.view_is) c.requires in
    let apart = c.in_ok-parts.ensures in
    let kept = apart.kept in
    let rests = lists (reverse c.in_ok-rests.rests.items) in
    let left = subst (λ l. AreRests l (takers_at x ts views seats kept) rests) apart.posters (subst (λ l. AreRests (lists c.in_ok-parts.posters.items) l rests) apart.takers c.in_ok-rests.ensures) in
    let parts = c.in_ok-parts-2.parts.items in
    let taken = subst (λ l. HaveTaken l rests parts) apart.parts c.in_ok-parts-2.ensures in
    let after = c.in_ok-histories.ensures.kept in
    let valid = c.parts-parts.ensures.valid in
    let e : EndOf = record { sems = c.new.result; parts = c.new-2.result } in
    let told = subst (λ l. All (λ row. AreBoth IsTold row l) (seat_rows x ts views seats kept rests left parts taken after)) (sym c.new.ensures)
    (subst (All (λ row. AreBoth IsTold row (lists c.in_ok-books.books.items))) c.in_ok-histories.ensures.seats c.in_ok-books.ensures.told) in
    let entries = c.new-2.ensures ∙ c.in_ok-histories.ensures.histories in
    all-go-on x ts views seats kept rests left parts taken after valid e told entries

pub returns-clause-played : goal.returns-clause-played
returns-clause-played g c = λ have.
    let i = c.self.inside in
    let x : SplitOf = record { setup = i.setup; turns = i.turns.items; inboxes = i.inboxes.items } in
    let ts = g.N.Names.turns in
    let views = c.args.seats.items in
    let seats = subst (λ v. AreSeatsOf v views) (sym c.self.view_is) c.requires in
    let apart = c.in_ok-parts.ensures in
    let kept = apart.kept in
    let rests = lists (reverse c.in_ok-rests.rests.items) in
    let left = subst (λ l. AreRests l (takers_at x ts views seats kept) rests) apart.posters (subst (λ l. AreRests (lists c.in_ok-parts.posters.items) l rests) apart.takers c.in_ok-rests.ensures) in
    let parts = c.in_ok-parts-2.parts.items in
    let taken = subst (λ l. HaveTaken l rests parts) apart.parts c.in_ok-parts-2.ensures in
    let after = c.in_ok-histories.ensures.kept in
    let valid = c.parts-parts.ensures.valid in
    let e : EndOf = record { sems = c.new.result; parts = c.new-2.result } in
    let told = subst (λ l. All (λ row. AreBoth IsTold row l) (seat_rows x ts views seats kept rests left parts taken after)) (sym c.new.ensures)
    (subst (All (λ row. AreBoth IsTold row (lists c.in_ok-books.books.items))) c.in_ok-histories.ensures.seats c.in_ok-books.ensures.told) in
    let entries = c.new-2.ensures ∙ c.in_ok-histories.ensures.histories in
    subst (λ v. AllPlayed v.setup e) c.self.view_is (all-played x ts views seats kept rests left parts taken after valid e told entries (subst (λ v. HavePlayed v.setup views) (sym c.self.view_is) have))
