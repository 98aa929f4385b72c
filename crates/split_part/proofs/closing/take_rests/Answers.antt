use Rattle.std.proofs.Common.{◌≡◌, ◌+◌, [], ◌∷◌, ◌++◌, List, Some, length, reverse, sym, ap, ◌∙◌, subst, append_assoc, arith, length-append}
use Rattle.std.specs.Prelude.{slice_get}
use Rattle.split_inbox.specs.Grants.{GrantOf}
use Rattle.part_seat.specs.Partitions.{PartOf}
use Rattle.split_part.specs.Closings.{CanTake, HasTakenAt, claims_in}
use Rattle.split_part.specs.Columns.{AreFrom}
use Rattle.split_part.specs.inside.Deals.{lists}
use Rattle.split_part.proofs.ClosingLaws.{taken-at}
use Rattle.split_part.proofs.ColumnLaws.{from-push, get-after, length-popped, reversed-lists}
use Rattle.split_part.proofs.closing.take_rests.Goals as goal

pub take_rest-requires-clause-can : goal.take_rest-requires-clause-can
take_rest-requires-clause-can g c =
    let inv = c.loop-part.invariant in
    let steps = c.in-Some.ensures.steps.0 in
    let rest : List GrantOf = c.in-Some-pop.rest.items in
    let part = get-after c.args.parts.items inv.gone c.next.new.self.rest.items c.in-Some.part (inv.parts_are ∙ ap (λ l. inv.gone ++ l) steps) in
    let left = inv.rests_are ∙ ap (λ l. inv.used ++ lists (reverse l)) c.in-Some-pop.ensures.items ∙ ap (λ l. inv.used ++ l) (reversed-lists c.pop.new.self.items c.in-Some-pop.rest) in
    let there = subst (λ n. slice_get (lists (reverse c.args.rests.items)) n ≡ Some rest) inv.used_count (get-after (lists (reverse c.args.rests.items)) inv.used (lists (reverse c.pop.new.self.items)) rest left) in
    c.requires.can (length inv.gone) c.in-Some.part rest part there

pub loop-part-preserved : goal.loop-part-preserved
loop-part-preserved g c =
    let inv = c.loop-part.invariant in
    let steps = c.in-Some.ensures.steps.0 in
    let rest : List GrantOf = c.in-Some-pop.rest.items in
    let a : PartOf = c.in-Some.part in
    let parts = inv.parts_are ∙ ap (λ l. inv.gone ++ l) steps in
    let part = get-after c.args.parts.items inv.gone c.next.new.self.rest.items a parts in
    let left = inv.rests_are ∙ ap (λ l. inv.used ++ lists (reverse l)) c.in-Some-pop.ensures.items ∙ ap (λ l. inv.used ++ l) (reversed-lists c.pop.new.self.items c.in-Some-pop.rest) in
    let there = subst (λ n. slice_get (lists (reverse c.args.rests.items)) n ≡ Some rest) inv.used_count (get-after (lists (reverse c.args.rests.items)) inv.used (lists (reverse c.pop.new.self.items)) rest left) in
    let a' : PartOf = c.take_rest.new.part in
    let took = taken-at c.args.parts.items (lists (reverse c.args.rests.items)) (length inv.gone) a a' rest part there c.in_ok-take_rest.ensures in
    let pushed = c.in_ok-push.ensures.items in
    let P = HasTakenAt c.args.parts.items (lists (reverse c.args.rests.items)) in
    let n = length-popped c.loop-part.rests.items c.pop.new.self.items c.in-Some-pop.rest c.in-Some-pop.ensures.items in
    let m = ap length steps in
    let same = inv.left_count in
    let used = inv.used_count in
    let count = inv.count in
    record {
      gone = inv.gone ++ a ∷ [];
      parts_are = parts ∙ sym (append_assoc inv.gone (a ∷ []) c.next.new.self.rest.items);
      used = inv.used ++ rest ∷ [];
      rests_are = left ∙ sym (append_assoc inv.used (rest ∷ []) (lists (reverse c.pop.new.self.items)));
      used_count = let x = length-append inv.used (rest ∷ []) in let y = length-append inv.gone (a ∷ []) in omega (arith, x, y, used);
      left_count = omega (arith, n, m, same);
      count = let x = length-popped c.push.new.self.items c.loop-part.taken.items a' pushed in let y = length-append inv.gone (a ∷ []) in omega (arith, x, y, count);
      taken_are = subst (AreFrom P 0) (sym pushed) (from-push P 0 c.loop-part.taken.items a' inv.taken_are (let z : length inv.gone ≡ 0 + length c.loop-part.taken.items = omega (arith, count) in subst (λ i. P i a') z took));
    }
