use Rattle.std.proofs.Common.{◌≡◌, ◌-◌, ◌++◌, ◌∷◌, [], false, Some, refl, sym, ap, ◌∙◌, subst}
use Rattle.std.specs.Prelude.{slice_index_or, slice_set}
use Rattle.turn_cell.specs.SeatViews.{IsJoined}
use Rattle.split_inbox.specs.Books.{cpu_of}
use Rattle.split_inbox.specs.Grants.{IsGrant}
use Rattle.split_inbox.specs.declared.subject.SemOf.{SemOf}
use Rattle.split_rules.specs.PartHistories.{past_of}
use Rattle.split_rules.specs.PartSems.{awaiting}
use Rattle.split_rules.specs.Partitions.{part_group}
use Rattle.split_rules.specs.SemHistories.{seat_of}
use Rattle.split_rules.specs.declared.SplitEntry.{SplitEntry}
use Rattle.part_player.specs.Players as players
use Rattle.part_player.specs.Players.{PlayerOf, has_entry, take_entry}
use Rattle.part_seat.specs.AtTurns.{HasTaken, IsNext, taken_claim}
use Rattle.part_seat.specs.Partitions.{IsMeeting, PartOf, Seat, books_in, cells_of, group_of, past_at}
use Rattle.part_seat.proofs.BookLists.{set-cells}
use Rattle.part_seat.proofs.PlayLaws.{part_of}
use Rattle.part_seat.proofs.TakeLaws as laws
use Rattle.part_seat.proofs.partition.Partition.take.Goals as goal

pub take-requires-clause-waits : goal.take-requires-clause-waits
take-requires-clause-waits g c =
    let x = c.self.inside.player in
    let seats = c.self.inside.seats.items in
    let gr = c.args.grant in
    let d = c.index_mut.result.now in
    let a' = c.join.new.seat in
    let view = c.self.view_is in
    let is = subst (λ ts. IsGrant ts gr) (sym (ap (λ (a : PartOf). cells_of a.seats) view ∙ c.requires.names)) c.into_seen.ensures.grant in
    let joined = subst (λ y. IsJoined (λ (s : SemOf). cpu_of) y gr.seen a') (c.index_mut.ensures.value ∙ ap (λ n. slice_index_or seats (n - 1) d) c.sem-sem.ensures)
    (subst (λ o. IsJoined (λ (s : SemOf). cpu_of) d o a') c.into_seen.ensures.seat c.join.ensures) in
    let home = subst (λ (a : PartOf). seat_of (group_of a) gr.claim.task ≡ a.cpu) (sym view) c.requires.home in
    let next = subst (λ (a : PartOf). IsNext (books_in a.seats) (past_at a) (taken_claim gr.claim)) (sym view) c.requires.next in
    let played = c.entries-entries.ensures.played in
    ap (λ n. awaiting n (laws.past x.setup x.cpu x.entries seats played c.self.invariant.1 gr is d a' joined home next)) c.task-task.ensures ∙ laws.waits x.setup x.cpu x.entries seats played c.self.invariant.1 gr is d a' joined home next ∙ ap Some (sym c.sem-sem.ensures)

pub invariant_of-self : goal.invariant_of-self
invariant_of-self g c =
    let x = c.self.inside.player in
    let seats = c.self.inside.seats.items in
    let gr = c.args.grant in
    let d = c.index_mut.result.now in
    let a' = c.join.new.seat in
    let view = c.self.view_is in
    let is = subst (λ ts. IsGrant ts gr) (sym (ap (λ (a : PartOf). cells_of a.seats) view ∙ c.requires.names)) c.into_seen.ensures.grant in
    let joined = subst (λ y. IsJoined (λ (s : SemOf). cpu_of) y gr.seen a') (c.index_mut.ensures.value ∙ ap (λ n. slice_index_or seats (n - 1) d) c.sem-sem.ensures)
    (subst (λ o. IsJoined (λ (s : SemOf). cpu_of) d o a') c.into_seen.ensures.seat c.join.ensures) in
    let home = subst (λ (a : PartOf). seat_of (group_of a) gr.claim.task ≡ a.cpu) (sym view) c.requires.home in
    let next = subst (λ (a : PartOf). IsNext (books_in a.seats) (past_at a) (taken_claim gr.claim)) (sym view) c.requires.next in
    let played = c.entries-entries.ensures.played in
    let e : SplitEntry = laws.e x.setup x.cpu x.entries seats played c.self.invariant.1 gr is d a' joined home next in
    let entry : c.take.result ≡ e =
    c.take.ensures.entry
    ∙ ap (λ n. take_entry (laws.past x.setup x.cpu x.entries seats played c.self.invariant.1 gr is d a' joined home next) (record { 0 = n }) c.no-no.result c.task-task.result) c.sem-sem.ensures
    ∙ ap (λ n. take_entry (laws.past x.setup x.cpu x.entries seats played c.self.invariant.1 gr is d a' joined home next) (record { 0 = gr.claim.sem }) n c.task-task.result) c.no-no.ensures
    ∙ ap (λ n. take_entry (laws.past x.setup x.cpu x.entries seats played c.self.invariant.1 gr is d a' joined home next) (record { 0 = gr.claim.sem }) gr.claim.no (record { 0 = n })) c.task-task.ensures in
    let added : c.take.new.self ≡ has_entry e x = c.take.ensures.taken ∙ ap (λ (y : SplitEntry). has_entry y x) entry in
    subst (λ (y : PlayerOf). (y.begun ≡ false) × IsMeeting y.setup y.cpu (slice_set seats (c.sem-sem.result.0 - 1) a') (players.past_at y)) (sym added)
    (refl, subst (λ n. IsMeeting x.setup x.cpu (slice_set seats (n - 1) a') (past_of (part_group x.setup x.cpu) x.cpu (x.entries ++ e ∷ []))) (sym c.sem-sem.ensures) (laws.taken-meets x.setup x.cpu x.entries seats played c.self.invariant.1 gr is d a' joined home next))

pub returns : goal.returns
returns g c =
    let x = c.self.inside.player in
    let seats = c.self.inside.seats.items in
    let gr = c.args.grant in
    let d = c.index_mut.result.now in
    let a' = c.join.new.seat in
    let view = c.self.view_is in
    let is = subst (λ ts. IsGrant ts gr) (sym (ap (λ (a : PartOf). cells_of a.seats) view ∙ c.requires.names)) c.into_seen.ensures.grant in
    let joined = subst (λ y. IsJoined (λ (s : SemOf). cpu_of) y gr.seen a') (c.index_mut.ensures.value ∙ ap (λ n. slice_index_or seats (n - 1) d) c.sem-sem.ensures)
    (subst (λ o. IsJoined (λ (s : SemOf). cpu_of) d o a') c.into_seen.ensures.seat c.join.ensures) in
    let home = subst (λ (a : PartOf). seat_of (group_of a) gr.claim.task ≡ a.cpu) (sym view) c.requires.home in
    let next = subst (λ (a : PartOf). IsNext (books_in a.seats) (past_at a) (taken_claim gr.claim)) (sym view) c.requires.next in
    let played = c.entries-entries.ensures.played in
    let e : SplitEntry = laws.e x.setup x.cpu x.entries seats played c.self.invariant.1 gr is d a' joined home next in
    let entry : c.take.result ≡ e =
    c.take.ensures.entry
    ∙ ap (λ n. take_entry (laws.past x.setup x.cpu x.entries seats played c.self.invariant.1 gr is d a' joined home next) (record { 0 = n }) c.no-no.result c.task-task.result) c.sem-sem.ensures
    ∙ ap (λ n. take_entry (laws.past x.setup x.cpu x.entries seats played c.self.invariant.1 gr is d a' joined home next) (record { 0 = gr.claim.sem }) n c.task-task.result) c.no-no.ensures
    ∙ ap (λ n. take_entry (laws.past x.setup x.cpu x.entries seats played c.self.invariant.1 gr is d a' joined home next) (record { 0 = gr.claim.sem }) gr.claim.no (record { 0 = n })) c.task-task.ensures in
    let added : c.take.new.self ≡ has_entry e x = c.take.ensures.taken ∙ ap (λ (y : SplitEntry). has_entry y x) entry in
    subst (λ (m : PartOf). HasTaken m (part_of c.take.new.self (slice_set seats (c.sem-sem.result.0 - 1) a')) gr.claim c.take.result) view
    (subst (λ (y : SplitEntry). HasTaken (part_of x seats) (part_of c.take.new.self (slice_set seats (c.sem-sem.result.0 - 1) a')) gr.claim y) (sym entry)
    (subst (λ (y : PlayerOf). HasTaken (part_of x seats) (part_of y (slice_set seats (c.sem-sem.result.0 - 1) a')) gr.claim e) (sym added)
    (subst (λ n. HasTaken (part_of x seats) (part_of (has_entry e x) (slice_set seats (n - 1) a')) gr.claim e) (sym c.sem-sem.ensures) (record {
      same = record { setup = refl; cpu = refl; cells = set-cells seats gr.claim.sem a' is.low (laws.high x.setup x.cpu x.entries seats played c.self.invariant.1 gr is d a' joined home next) d (ap (λ (k : Seat). k.cell) joined.same) };
      entry = refl;
      entries = refl;
      grown = laws.take-grown x.setup x.cpu x.entries seats played c.self.invariant.1 gr is d a' joined home next;
      from = laws.from-there x.setup x.cpu x.entries seats played c.self.invariant.1 gr is d a' joined home next;
    }))))
