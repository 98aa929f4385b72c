use Rattle.std.proofs.Common.{◌<◌, suc, arith, All, length, [], ◌∷◌, ◌++◌, sym, ap, ◌∙◌, subst, append_assoc}
use Rattle.split_part.specs.inside.Deals.{IsPopped, lists}
use Rattle.split_part.proofs.Dealing.{vecs_then}
use Rattle.split_part.proofs.deal.pop_each.Goals as goal

-- src/deal.rt:19:5
pub loop-row-preserved : goal.loop-row-preserved
loop-row-preserved g c =
    let inv = c.loop-row.invariant in
    let steps = c.in-Some.ensures.steps.0 in
    let all = subst (λ l. All (λ row. 0 < length row.items) l) steps inv.full in
    let rests = c.in_ok-push.ensures.items in
    let hand = c.in_ok-push-in-Some-pop.ensures.items in
    record {
      gone = inv.gone ++ c.in-Some.row ∷ [];
      parts = inv.parts ∙ ap (λ l. inv.gone ++ l) steps ∙ sym (append_assoc inv.gone (c.in-Some.row ∷ []) c.next.new.self.rest.items);
      popped =
          subst (λ l. IsPopped (lists (inv.gone ++ c.in-Some.row ∷ [])) (lists l) c.push.new.self.items) (sym rests)
          (subst (λ l. IsPopped (lists (inv.gone ++ c.in-Some.row ∷ [])) (lists (c.loop-row.rests.items ++ c.pop.new.self ∷ [])) l) (sym hand)
          (vecs_then inv.gone c.loop-row.rests.items c.loop-row.hand.items c.in-Some.row c.pop.new.self c.in-Some-pop.x inv.popped c.in-Some-pop.ensures.items));
      full = λ k d high. all (suc k) d (omega (arith, high));
    }
