use Rattle.std.proofs.Common.{◌≡◌, ◌∷◌, ◌++◌, [], inl, inr, List, length, true, false, None, refl, sym, ap, ◌∙◌, subst, arith}
use Rattle.std.proofs.lemmas.List.{with_items_is}
use Rattle.std.specs.Vec.{with_items}
use Rattle.rt_base.specs.declared.Ask.{Ask}
use Rattle.rt_base.specs.declared.Ask.TheVariants as asks
use Rattle.split_rules.specs.PartAnswers.{answer, asked}
use Rattle.split_rules.specs.PartHistories.{past_of}
use Rattle.split_rules.specs.Partitions.{part_group}
use Rattle.split_rules.specs.declared.SplitEntry.{SplitEntry}
use Rattle.part_state.specs.Replies.{reply_by}
use Rattle.part_state.specs.declared.replies.PartReply.{PartReply}
use Rattle.part_player.specs.Players.{DoesBy, IsAnswered, PlayerOf, entry_of, group_of, has_entry, moved, past_at}
use Rattle.part_seat.specs.AtTurns.{ComesUnlock}
use Rattle.part_seat.specs.Partitions.{IsMeeting, Seat}
use Rattle.part_seat.proofs.MeetingLaws as laws
use Rattle.part_seat.proofs.PlayLaws.{has-played, part_of}
use Rattle.part_seat.proofs.partition.Partition.play.Goals as goal

pub invariant_of-self-in-Is : goal.invariant_of-self-in-Is
invariant_of-self-in-Is g c =
    let x = c.self.inside.player in
    let seats = c.self.inside.seats in
    let step = c.in_ok-step.field-0.step in
    let begun = c.in_ok-step.ensures in
    let played = c.entries-entries.ensures.played in
    let value = c.as_mut_slice-seats.ensures.value in
    let kept = with_items_is seats c.as_mut_slice-seats.result.now (ap length value ∙ sym seats.ok.0) ∙ value in
    let does = subst (DoesBy (group_of x) x.cpu (past_at x) step) c.in-Is.is begun.begun.does in
    let answers : IsAnswered (group_of x) x.cpu (past_at x) step c.in-Is.reply = (asks.Granted, ap (λ (r : PartReply). reply_by r asks.Granted) (sym c.in-Is.is) ∙ begun.begun.answers asks.Granted) in
    let e : SplitEntry = entry_of step c.in-Is.reply in
    let made = laws.alone x.setup x.cpu x.entries seats.items played c.self.invariant.1 e answers does in
    let added = c.finish-entry.ensures.added ∙ ap (has_entry c.finish-entry.result) begun.same ∙ ap (λ (d : SplitEntry). has_entry d (record x { begun = true })) c.finish-entry.ensures.entry in
    subst (λ (y : PlayerOf). (y.begun ≡ false) × IsMeeting y.setup y.cpu (with_items seats c.as_mut_slice-seats.result.now).items (past_at y)) (sym added)
    (refl, subst (λ (l : List Seat). IsMeeting x.setup x.cpu l (past_of (part_group x.setup x.cpu) x.cpu (x.entries ++ e ∷ []))) (sym kept) made)

pub asks-requires-clause-answers : goal.asks-requires-clause-answers
asks-requires-clause-answers g c x =
    let b = c.in_ok-step.ensures in
    let step = c.in_ok-step.field-0.step in
    subst (λ (y : PlayerOf). (z : Ask) × (asked x ≡ answer (group_of y) y.cpu step.act z (moved step (past_at y)))) (sym b.same)
    (x, ap (λ (r : PartReply). reply_by r x) (sym c.in-Asks.is) ∙ b.begun.answers x)

pub invariant_of-self-in-Asks : goal.invariant_of-self-in-Asks
invariant_of-self-in-Asks g c =
    let seats = c.self.inside.seats in
    let kept = with_items_is seats c.asks.new.seats (let a = c.asks.auto.seats in let b = c.as_mut_slice-seats.ensures.len in let d = seats.ok.0 in omega (arith, a, b, d)) in
    (ap (λ (y : PlayerOf). y.begun) c.asks.ensures.player, subst (λ (l : List Seat). IsMeeting c.asks.new.player.setup c.asks.new.player.cpu l (past_at c.asks.new.player)) (sym kept) c.asks.ensures.meeting)

pub invariant_of-self-in-Frees : goal.invariant_of-self-in-Frees
invariant_of-self-in-Frees g c =
    let seats = c.self.inside.seats in
    let kept = with_items_is seats c.frees.new.seats (let a = c.frees.auto.seats in let b = c.as_mut_slice-seats.ensures.len in let d = seats.ok.0 in omega (arith, a, b, d)) in
    (ap (λ (y : PlayerOf). y.begun) c.frees.ensures.player, subst (λ (l : List Seat). IsMeeting c.frees.new.player.setup c.frees.new.player.cpu l (past_at c.frees.new.player)) (sym kept) c.frees.ensures.meeting)

pub returns-in-Is-clause-played : goal.returns-in-Is-clause-played
returns-in-Is-clause-played g c =
    let x = c.self.inside.player in
    let seats = c.self.inside.seats in
    let begun = c.in_ok-step.ensures in
    let at = c.as_mut_slice-seats.result.now in
    let value = c.as_mut_slice-seats.ensures.value in
    let kept = with_items_is seats at (ap length value ∙ sym seats.ok.0) in
    has-played c.args.self.now x c.finish-entry.new.self at at (with_items seats at).items (record { entry = c.finish-entry.result; passed = None }) c.begin.new.self
    (ap (part_of x) value ∙ c.self.view_is) begun.same c.finish-entry.ensures.added kept refl (c.in_ok-step.field-0.step.act, ap (λ (e : SplitEntry). e.act) c.finish-entry.ensures.entry) (inl (refl, refl)) (λ k h. cc)

pub returns-in-Asks-clause-played : goal.returns-in-Asks-clause-played
returns-in-Asks-clause-played g c =
    let x = c.self.inside.player in
    let seats = c.self.inside.seats in
    let step = c.in_ok-step.field-0.step in
    let begun = c.in_ok-step.ensures in
    let at = c.as_mut_slice-seats.result.now in
    let kept = with_items_is seats c.asks.new.seats (let a = c.asks.auto.seats in let b = c.as_mut_slice-seats.ensures.len in let d = seats.ok.0 in omega (arith, a, b, d)) in
    has-played c.args.self.now x c.asks.new.player at c.asks.new.seats (with_items seats c.asks.new.seats).items c.asks.result c.begin.new.self
    (ap (part_of x) c.as_mut_slice-seats.ensures.value ∙ c.self.view_is) begun.same c.asks.ensures.player kept c.asks.ensures.cells (step.act, c.asks.ensures.plain) (inr c.asks.ensures.acted)
    (λ k h. let none = c.asks.ensures.passed in cc)

pub returns-in-Frees-clause-played : goal.returns-in-Frees-clause-played
returns-in-Frees-clause-played g c =
    let x = c.self.inside.player in
    let seats = c.self.inside.seats in
    let step = c.in_ok-step.field-0.step in
    let begun = c.in_ok-step.ensures in
    let at = c.as_mut_slice-seats.result.now in
    let kept = with_items_is seats c.frees.new.seats (let a = c.frees.auto.seats in let b = c.as_mut_slice-seats.ensures.len in let d = seats.ok.0 in omega (arith, a, b, d)) in
    has-played c.args.self.now x c.frees.new.player at c.frees.new.seats (with_items seats c.frees.new.seats).items c.frees.result c.begin.new.self
    (ap (part_of x) c.as_mut_slice-seats.ensures.value ∙ c.self.view_is) begun.same c.frees.ensures.player kept c.frees.ensures.cells (step.act, c.frees.ensures.plain) (inr c.frees.ensures.acted)
    (λ k h. (
      c.frees.ensures.passed k h,
      subst (λ (y : PlayerOf). ComesUnlock (part_of y at)) (sym begun.same) (record {
        step = step;
        next = begun.begun.next;
        unlocks = (subst (DoesBy (group_of x) x.cpu (past_at x) step) c.in-Frees.is begun.begun.does).unlocks;
      }),
    ))
