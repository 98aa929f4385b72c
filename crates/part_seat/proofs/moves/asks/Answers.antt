use Rattle.std.proofs.Common.{◌-◌, ◌++◌, ◌∷◌, List, [], refl, sym, ap, ◌∙◌, subst, arith}
use Rattle.std.specs.Prelude.{slice_index_or, slice_set}
use Rattle.rt_rules.specs.declared.history.Reply.{Reply}
use Rattle.split_inbox.specs.Books.{entry}
use Rattle.split_rules.specs.PartAnswers.{asked}
use Rattle.split_rules.specs.PartHistories.{past_of}
use Rattle.split_rules.specs.Partitions.{part_group}
use Rattle.split_rules.specs.declared.SemAct.TheVariants as acts
use Rattle.split_rules.specs.declared.SemEntry.{SemEntry}
use Rattle.split_rules.specs.declared.SplitEntry.{SplitEntry}
use Rattle.split_turns.specs.SplitTurns.{book_of}
use Rattle.part_player.specs.Players.{IsAnswered, PlayerOf, entry_of, group_of, past_at}
use Rattle.part_seat.specs.AtTurns.{HasGiven}
use Rattle.part_seat.specs.Partitions.{IsMeeting, Seat}
use Rattle.part_seat.proofs.BookLists.{set-cells}
use Rattle.part_seat.proofs.MeetingLaws as laws
use Rattle.part_seat.proofs.PositionLaws.{cells-at, cells-count, few-there, position-of, within-seats}
use Rattle.part_seat.proofs.moves.asks.Goals as goal

pub overflow_sub-position : goal.overflow_sub-position
overflow_sub-position g c = (within-seats _ _ _ _ _ c.requires.meeting c.requires.asks.known).0

pub bounds-turns-position : goal.bounds-turns-position
bounds-turns-position g c = let w = within-seats _ _ _ _ _ c.requires.meeting c.requires.asks.known in let n = cells-count c.args.turns.now c.args.seats.now c.requires.turns in omega (arith, w.1, n)

pub bounds-seats-position : goal.bounds-seats-position
bounds-seats-position g c = (within-seats _ _ _ _ _ c.requires.meeting c.requires.asks.known).1

pub ask-answer-requires-clause-cell : goal.ask-answer-requires-clause-cell
ask-answer-requires-clause-cell g c =
    let a = c.args.player.now in
    let at = position-of a.setup a.cpu c.args.sem.0 c.args.seats.now _ c.index-seats-position.result c.requires.meeting c.requires.asks.known in
    cells-at c.args.turns.now c.args.seats.now (c.args.sem.0 - 1) c.index-turns-position.result c.index-seats-position.result c.requires.turns at.high
    ∙ ap (λ t. t.cell) (sym c.index-turns-position.is)

pub ask-answer-requires-clause-seat : goal.ask-answer-requires-clause-seat
ask-answer-requires-clause-seat g c =
    let a = c.args.player.now in
    let at = position-of a.setup a.cpu c.args.sem.0 c.args.seats.now _ c.index-seats-position.result c.requires.meeting c.requires.asks.known in
    (at.seat.cpu ∙ sym c.cpu-cpu.ensures.cpu, at.seat.rests)

pub ask-answer-requires-clause-few : goal.ask-answer-requires-clause-few
ask-answer-requires-clause-few g c =
    let a = c.args.player.now in
    let at = position-of a.setup a.cpu c.args.sem.0 c.args.seats.now _ c.index-seats-position.result c.requires.meeting c.requires.asks.known in
    few-there a.setup a.cpu c.args.sem.0 c.args.seats.now c.index-seats-position.result at c.cpu-cpu.ensures.played.of_split

pub ask-answer-requires-clause-may : goal.ask-answer-requires-clause-may
ask-answer-requires-clause-may g c =
    let a = c.args.player.now in
    let at = position-of a.setup a.cpu c.args.sem.0 c.args.seats.now _ c.index-seats-position.result c.requires.meeting c.requires.asks.known in
    laws.may-ask a.setup a.cpu a.entries c.args.seats.now c.cpu-cpu.ensures.played c.requires.meeting c.args.sem.0 c.index-seats-position.result at c.cpu-cpu.result.0 c.cpu-cpu.ensures.cpu c.args.task.0 c.args.step c.requires.next c.requires.asks

pub finish-entry-requires-clause-reply : goal.finish-entry-requires-clause-reply
finish-entry-requires-clause-reply g c =
    let a = c.args.player.now in
    subst (λ (r : Reply). IsAnswered (group_of a) a.cpu (past_at a) c.args.step r) (sym c.reply_of.ensures) (c.requires.answers c.ask-answer.result)

pub returns-clause-meeting : goal.returns-clause-meeting
returns-clause-meeting g c =
    let a = c.args.player.now in
    let d = c.index-seats-position.result in
    let at = position-of a.setup a.cpu c.args.sem.0 c.args.seats.now (past_at a) d c.requires.meeting c.requires.asks.known in
    let b : SemEntry = entry c.cpu-cpu.result c.args.task (acts.Ask c.ask-answer.result) in
    let e : SplitEntry = entry_of c.args.step (asked c.ask-answer.result) in
    let seats : List Seat = slice_set c.args.seats.now (c.args.sem.0 - 1) c.ask-answer.new.seat in
    let given = subst (λ n. HasGiven (book_of a.setup c.args.sem.0) n b (slice_index_or c.args.seats.now (c.args.sem.0 - 1) d) c.ask-answer.new.seat) c.cpu-cpu.ensures.cpu (c.ask-answer.ensures _ at.seat.about) in
    let made = laws.acted a.setup a.cpu a.entries c.args.seats.now c.cpu-cpu.ensures.played c.requires.meeting c.args.sem.0 at.low at.high b e c.ask-answer.new.seat d c.cpu-cpu.ensures.cpu given
    (c.requires.answers c.ask-answer.result) (c.requires.asks.deed c.ask-answer.result) in
    let is = c.finish-entry.ensures.entry ∙ ap (entry_of c.args.step) c.reply_of.ensures in
    subst (λ (x : PlayerOf). IsMeeting x.setup x.cpu seats (past_at x)) (sym c.finish-entry.ensures.added)
    (subst (λ (x : SplitEntry). IsMeeting a.setup a.cpu seats (past_of (part_group a.setup a.cpu) a.cpu (a.entries ++ x ∷ []))) (sym is) made)

pub returns-clause-cells : goal.returns-clause-cells
returns-clause-cells g c =
    let a = c.args.player.now in
    let d = c.index-seats-position.result in
    let at = position-of a.setup a.cpu c.args.sem.0 c.args.seats.now (past_at a) d c.requires.meeting c.requires.asks.known in
    set-cells c.args.seats.now c.args.sem.0 c.ask-answer.new.seat at.low at.high d (ap (λ (x : Seat). x.cell) (c.ask-answer.ensures _ at.seat.about).same)

pub returns-clause-acted : goal.returns-clause-acted
returns-clause-acted g c =
    let a = c.args.player.now in
    let d = c.index-seats-position.result in
    let at = position-of a.setup a.cpu c.args.sem.0 c.args.seats.now (past_at a) d c.requires.meeting c.requires.asks.known in
    let b : SemEntry = entry c.cpu-cpu.result c.args.task (acts.Ask c.ask-answer.result) in
    let e : SplitEntry = entry_of c.args.step (asked c.ask-answer.result) in
    let given = subst (λ n. HasGiven (book_of a.setup c.args.sem.0) n b (slice_index_or c.args.seats.now (c.args.sem.0 - 1) d) c.ask-answer.new.seat) c.cpu-cpu.ensures.cpu (c.ask-answer.ensures _ at.seat.about) in
    record {
      sem = c.args.sem.0;
      entry = b;
      found = _;
      grown = laws.grown a.setup a.cpu a.entries c.args.seats.now c.cpu-cpu.ensures.played c.requires.meeting c.args.sem.0 given.found
          (laws.was-found a.setup a.cpu a.entries c.args.seats.now c.cpu-cpu.ensures.played c.requires.meeting c.args.sem.0 at.low at.high b e c.ask-answer.new.seat d c.cpu-cpu.ensures.cpu given
          (c.requires.answers c.ask-answer.result) (c.requires.asks.deed c.ask-answer.result));
      act = laws.act-in a.setup a.cpu a.entries c.args.seats.now c.cpu-cpu.ensures.played c.requires.meeting c.args.sem.0 at.low at.high b e c.ask-answer.new.seat d c.cpu-cpu.ensures.cpu given
          (c.requires.answers c.ask-answer.result) (c.requires.asks.deed c.ask-answer.result);
      passes = refl;
    }
