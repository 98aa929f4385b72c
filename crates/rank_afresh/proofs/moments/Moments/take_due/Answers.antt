use Rattle.std.proofs.Common.{◌≡◌, ◌<◌, ℕ, List, length, refl, sym, ap, ◌∙◌, arith}
use Rattle.std.specs.Prelude.{None, Option}
use Rattle.std.proofs.lemmas.List.{get_or_default}
use Rattle.rt_model.specs.Releases.{has_come}
use Rattle.release_queue.specs.Timers.{tick_at}
use Rattle.rank_afresh.proofs.Due.{due-all, least-all, none-due, none-taken, taken-all, taken-first, taken-less, taken-more}
use Rattle.rank_afresh.proofs.moments.Moments.take_due.Goals as goal
use Rattle.rank_afresh.proofs.moments.Moments.take_due.Goals.{then-is_due, else-is_due}

pub returns-then-clock-self-clause-due : goal.returns-then-clock-self-clause-due
returns-then-clock-self-clause-due c = rw (c.clear.ensures.items, ← c.self.view_is) (sym (none-due c.args.clock c.self.inside.next c.self.inside.ticks.items c.if-clock-self.true c.self.invariant))

pub returns-then-clock-self-clause-taken_out : goal.returns-then-clock-self-clause-taken_out
returns-then-clock-self-clause-taken_out c = rw (← c.self.view_is, none-due c.args.clock c.self.inside.next c.self.inside.ticks.items c.if-clock-self.true c.self.invariant) (none-taken c.self.inside.ticks.items)

pub loop-i-init : goal.loop-i-init
loop-i-init c = record {
  so_far = taken-first c.args.clock c.self.inside.ticks.items c.clear.new.self.items _ c.clear.ensures.items;
  few = omega (arith, c.clear.ensures.len);
  room = c.clear.ensures.capacity;
}

pub push_reserved-requires : goal.push_reserved-requires
push_reserved-requires c =
    let same = ap (λ (xs : List (Option ℕ)). length xs) c.self.view_is in
    omega (arith, same, c.loop-i.invariant.few, c.loop-i.invariant.room, c.requires.room, c.loop-i-test.true, c.len-i-end.ensures, c.self.inside.ticks.ok.0)

pub loop-i-preserved : goal.loop-i-preserved
loop-i-preserved c =
    let old : List (Option ℕ) = c.self.inside.ticks.items in
    let now : List (Option ℕ) = c.loop-i.self-inside.ticks.items in
    let i : ℕ = c.loop-i.i in
    let so_far = c.loop-i.invariant.so_far in
    let inside : i < length now = omega (arith, so_far.count_same, c.loop-i-test.true, c.len-i-end.ensures, c.self.inside.ticks.ok.0) in
    let moment : c.index-moment.result.now ≡ tick_at now i = c.index-moment.ensures ∙ get_or_default now i c.index-moment.result.now None inside in
    let tested : has_come c.args.clock (tick_at now i) ≡ c.is_due.result = ap (has_come c.args.clock) (sym moment) ∙ sym c.is_due.ensures in
    elim c.if-is_due.branch [
      | then-is_due w ↦ record {
        so_far = rw (w.due-is, w.self-inside-is, w.next-is) (taken-more c.args.clock old i c.loop-i.due.items now c.loop-i.next c.loop-i.auto.i inside so_far _ (record { 0 = i }) refl (tested ∙ w.if-is_due.true) w.push_reserved.ensures.items);
        few = rw w.due-is (omega (arith, w.push_reserved.ensures.len, c.loop-i.invariant.few));
        room = rw w.due-is (w.push_reserved.ensures.capacity ∙ c.loop-i.invariant.room);
      }
      | else-is_due w ↦ record {
        so_far = rw (w.due-is, w.self-inside-is, w.next-is) (taken-less c.args.clock old i c.loop-i.due.items now c.loop-i.next c.loop-i.auto.i inside so_far w.earlier-next.result (tested ∙ w.if-is_due.false) w.earlier-next.ensures.low (λ n h. w.earlier-next.ensures.least n (moment ∙ h)));
        few = rw w.due-is (omega (arith, c.loop-i.invariant.few));
        room = rw w.due-is c.loop-i.invariant.room;
      }
    ]

all-done : (c : goal.After-self-2-1) → c.loop-i.i ≡ length c.self.inside.ticks.items
all-done c =
    let same = ap (λ (xs : List (Option ℕ)). length xs) c.self.view_is in
    omega (arith, c.loop-i-test.false, c.loop-i.auto, c.len-i-end.ensures, c.self.inside.ticks.ok.0, c.requires.some, same)

pub invariant_of-self : goal.invariant_of-self
invariant_of-self c = least-all c.args.clock c.self.inside.ticks.items c.loop-i.i c.loop-i.due.items _ c.loop-i.next c.loop-i.invariant.so_far (all-done c)

pub returns-clause-due : goal.returns-clause-due
returns-clause-due c = rw (← c.self.view_is) (due-all c.args.clock c.self.inside.ticks.items c.loop-i.i c.loop-i.due.items _ c.loop-i.next c.loop-i.invariant.so_far (all-done c))

pub returns-clause-taken_out : goal.returns-clause-taken_out
returns-clause-taken_out c = rw (← c.self.view_is) (taken-all c.args.clock c.self.inside.ticks.items c.loop-i.i c.loop-i.due.items _ c.loop-i.next c.loop-i.invariant.so_far (all-done c))
