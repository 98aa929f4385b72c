use Rattle.std.proofs.Common.{◌-◌, ◌++◌, ◌∷◌, List, [], length, sym, ap, ◌∙◌, subst, arith, length-append}
use Rattle.std.specs.Prelude.{option_map, slice_index_or, slice_set}
use Rattle.split_inbox.specs.Books as book
use Rattle.split_inbox.specs.Books.{entry}
use Rattle.rt_rules.specs.declared.history.Reply.TheVariants as replies
use Rattle.split_rules.specs.PartHistories.{past_of}
use Rattle.split_rules.specs.Partitions.{part_group}
use Rattle.split_rules.specs.declared.SemAct.TheVariants as acts
use Rattle.split_rules.specs.declared.SemEntry.{SemEntry}
use Rattle.split_rules.specs.declared.SplitEntry.{SplitEntry}
use Rattle.split_turns.specs.SplitTurns.{book_of}
use Rattle.part_player.specs.Players.{PlayerOf, entry_of, past_at}
use Rattle.part_seat.specs.AtTurns.{HasGiven, claim_passed}
use Rattle.part_seat.specs.Partitions.{IsMeeting, Seat, books_in}
use Rattle.part_seat.proofs.BookLists.{put, put-here, set-cells, set-here}
use Rattle.part_seat.proofs.PassLaws.{passed-at, passes-law}
use Rattle.part_seat.proofs.MeetingLaws as laws
use Rattle.part_seat.proofs.PositionLaws.{cells-at, cells-count, few-there, position-of, within-seats}
use Rattle.part_seat.proofs.moves.frees.Goals as goal

pub overflow_sub-position : goal.overflow_sub-position
overflow_sub-position g c = (within-seats _ _ _ _ _ c.requires.meeting c.requires.frees.known).0

pub bounds-turns-position : goal.bounds-turns-position
bounds-turns-position g c = let w = within-seats _ _ _ _ _ c.requires.meeting c.requires.frees.known in let n = cells-count c.args.turns.now c.args.seats.now c.requires.turns in omega (arith, w.1, n)

pub bounds-seats-position : goal.bounds-seats-position
bounds-seats-position g c = (within-seats _ _ _ _ _ c.requires.meeting c.requires.frees.known).1

pub release-next-requires-clause-cell : goal.release-next-requires-clause-cell
release-next-requires-clause-cell g c =
    let a = c.args.player.now in
    let at = position-of a.setup a.cpu c.args.sem.0 c.args.seats.now _ c.index-seats-position.result c.requires.meeting c.requires.frees.known in
    cells-at c.args.turns.now c.args.seats.now (c.args.sem.0 - 1) c.index-turns-position.result c.index-seats-position.result c.requires.turns at.high
    ∙ ap (λ t. t.cell) (sym c.index-turns-position.is)

pub release-next-requires-clause-seat : goal.release-next-requires-clause-seat
release-next-requires-clause-seat g c =
    let a = c.args.player.now in
    let at = position-of a.setup a.cpu c.args.sem.0 c.args.seats.now _ c.index-seats-position.result c.requires.meeting c.requires.frees.known in
    (at.seat.cpu ∙ sym c.cpu-cpu.ensures.cpu, at.seat.rests)

pub release-next-requires-clause-few : goal.release-next-requires-clause-few
release-next-requires-clause-few g c =
    let a = c.args.player.now in
    let at = position-of a.setup a.cpu c.args.sem.0 c.args.seats.now _ c.index-seats-position.result c.requires.meeting c.requires.frees.known in
    few-there a.setup a.cpu c.args.sem.0 c.args.seats.now c.index-seats-position.result at c.cpu-cpu.ensures.played.of_split

pub release-next-requires-clause-may : goal.release-next-requires-clause-may
release-next-requires-clause-may g c =
    let a = c.args.player.now in
    let at = position-of a.setup a.cpu c.args.sem.0 c.args.seats.now _ c.index-seats-position.result c.requires.meeting c.requires.frees.known in
    laws.may-release a.setup a.cpu a.entries c.args.seats.now c.cpu-cpu.ensures.played c.requires.meeting c.args.sem.0 c.index-seats-position.result at c.cpu-cpu.result.0 c.cpu-cpu.ensures.cpu c.args.task.0 c.args.step c.requires.next c.requires.frees

pub returns-clause-meeting : goal.returns-clause-meeting
returns-clause-meeting g c =
    let a = c.args.player.now in
    let d = c.index-seats-position.result in
    let at = position-of a.setup a.cpu c.args.sem.0 c.args.seats.now (past_at a) d c.requires.meeting c.requires.frees.known in
    let b : SemEntry = entry c.cpu-cpu.result c.args.task (acts.Release c.release-next.result.0) in
    let e : SplitEntry = entry_of c.args.step replies.Done in
    let given = subst (λ n. HasGiven (book_of a.setup c.args.sem.0) n b (slice_index_or c.args.seats.now (c.args.sem.0 - 1) d) c.release-next.new.seat) c.cpu-cpu.ensures.cpu (c.release-next.ensures.given _ at.seat.about) in
    let seats : List Seat = slice_set c.args.seats.now (c.args.sem.0 - 1) c.release-next.new.seat in
    let made = laws.acted a.setup a.cpu a.entries c.args.seats.now c.cpu-cpu.ensures.played c.requires.meeting c.args.sem.0 at.low at.high b e c.release-next.new.seat d c.cpu-cpu.ensures.cpu given
    c.requires.answers c.requires.frees.deed in
    subst (λ (x : PlayerOf). IsMeeting x.setup x.cpu seats (past_at x)) (sym c.finish-entry.ensures.added)
    (subst (λ (x : SplitEntry). IsMeeting a.setup a.cpu seats (past_of (part_group a.setup a.cpu) a.cpu (a.entries ++ x ∷ []))) (sym c.finish-entry.ensures.entry) made)

pub returns-clause-cells : goal.returns-clause-cells
returns-clause-cells g c =
    let a = c.args.player.now in
    let d = c.index-seats-position.result in
    let at = position-of a.setup a.cpu c.args.sem.0 c.args.seats.now (past_at a) d c.requires.meeting c.requires.frees.known in
    set-cells c.args.seats.now c.args.sem.0 c.release-next.new.seat at.low at.high d (ap (λ (x : Seat). x.cell) (c.release-next.ensures.given _ at.seat.about).same)

pub returns-clause-acted : goal.returns-clause-acted
returns-clause-acted g c =
    let a = c.args.player.now in
    let d = c.index-seats-position.result in
    let at = position-of a.setup a.cpu c.args.sem.0 c.args.seats.now (past_at a) d c.requires.meeting c.requires.frees.known in
    let b : SemEntry = entry c.cpu-cpu.result c.args.task (acts.Release c.release-next.result.0) in
    let e : SplitEntry = entry_of c.args.step replies.Done in
    let given = subst (λ n. HasGiven (book_of a.setup c.args.sem.0) n b (slice_index_or c.args.seats.now (c.args.sem.0 - 1) d) c.release-next.new.seat) c.cpu-cpu.ensures.cpu (c.release-next.ensures.given _ at.seat.about) in
    let found = laws.was-found a.setup a.cpu a.entries c.args.seats.now c.cpu-cpu.ensures.played c.requires.meeting c.args.sem.0 at.low at.high b e c.release-next.new.seat d c.cpu-cpu.ensures.cpu given
    c.requires.answers c.requires.frees.deed in
    let long = ap length given.seen in
    let more = length-append given.found (b ∷ []) in
    let number = c.release-next.ensures.number _ at.seat.about in
    let here = ap length (put-here (books_in c.args.seats.now) c.args.sem.0 given.found) in
    record {
      sem = c.args.sem.0;
      entry = b;
      found = put (books_in c.args.seats.now) c.args.sem.0 given.found;
      grown = laws.grown a.setup a.cpu a.entries c.args.seats.now c.cpu-cpu.ensures.played c.requires.meeting c.args.sem.0 given.found found;
      act = laws.act-in a.setup a.cpu a.entries c.args.seats.now c.cpu-cpu.ensures.played c.requires.meeting c.args.sem.0 at.low at.high b e c.release-next.new.seat d c.cpu-cpu.ensures.cpu given
          c.requires.answers c.requires.frees.deed;
      passes = ap (option_map claim_passed) c.passed_by.ensures ∙ passes-law c.args.sem c.release-next.result.1 _ c.release-next.result.0 (omega (arith, long, more, number, here));
    }

pub returns-clause-passed : goal.returns-clause-passed
returns-clause-passed g c k some =
    let a = c.args.player.now in
    let d = c.index-seats-position.result in
    let at = position-of a.setup a.cpu c.args.sem.0 c.args.seats.now (past_at a) d c.requires.meeting c.requires.frees.known in
    let b : SemEntry = entry c.cpu-cpu.result c.args.task (acts.Release c.release-next.result.0) in
    let e : SplitEntry = entry_of c.args.step replies.Done in
    let given = subst (λ n. HasGiven (book_of a.setup c.args.sem.0) n b (slice_index_or c.args.seats.now (c.args.sem.0 - 1) d) c.release-next.new.seat) c.cpu-cpu.ensures.cpu (c.release-next.ensures.given _ at.seat.about) in
    let high = c.requires.meeting.count in
    let below = at.high in
    let low = at.low in
    let seats : List Seat = slice_set c.args.seats.now (c.args.sem.0 - 1) c.release-next.new.seat in
    let here = set-here c.args.seats.now c.args.sem.0 c.release-next.new.seat at.low at.high in
    passed-at a.setup a.cpu seats c.args.sem c.cpu-cpu.result c.args.task given.found c.release-next.result.1 at.low (omega (arith, high, below, low)) c.cpu-cpu.ensures.cpu
    c.release-next.result.0 (here ∙ given.seen) (subst (book.IsLegalSem (book_of a.setup c.args.sem.0)) (sym here) given.legal)
    (c.release-next.ensures.number _ at.seat.about ∙ ap length (sym here)) k (sym c.passed_by.ensures ∙ some)
