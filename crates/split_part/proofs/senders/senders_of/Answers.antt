use Rattle.std.proofs.Common.{◌≡◌, suc, arith, All, [], ◌∷◌, ◌++◌, sym, ap, ◌∙◌, subst, append_assoc}
use Rattle.split_part.proofs.senders.senders_of.Goals as goal

pub loop-poster-preserved : goal.loop-poster-preserved
loop-poster-preserved g c =
    let inv = c.loop-poster.invariant in
    let steps = c.in-Some.ensures.steps.0 in
    let all = subst (λ l. All (λ b. b.posted ≡ []) l) steps inv.unposted in
    let now = c.loop-poster.senders.items in
    let left = c.next.new.self.rest.items in
    record {
      same =
          ap (λ l. l ++ left) c.in_ok-push.ensures.items
          ∙ append_assoc now (c.new.result ∷ []) left
          ∙ ap (λ b. now ++ b ∷ left) c.new.ensures
          ∙ ap (λ l. now ++ l) (sym steps)
          ∙ inv.same;
      unposted = λ k d high. all (suc k) d (omega (arith, high));
    }
