use Rattle.std.proofs.Common.{◌≡◌, List, [], ◌∷◌, ◌++◌, sym, ap, ◌∙◌, subst, append_assoc, rules}
use Rattle.std.proofs.lemmas.List.{map_push}
use Rattle.split_inbox.specs.Grants.{GrantOf, claim_of}
use Rattle.split_inbox.specs.declared.rule.Claim as inbox
use Rattle.part_seat.specs.Partitions.{PartOf}
use Rattle.split_part.specs.Closings.{CanTake, HasTakenAll, claims_in}
use Rattle.split_part.proofs.RestLaws.{can-more, can-reserved, claims-more, grant-home, grant-next, taken-more, taken-none, taken-reserved}
use Rattle.split_part.proofs.closing.take_rest.Goals as goal

pub loop-grant-init : goal.loop-grant-init
loop-grant-init g c = record {
  gone = [];
  rest_is = search rules;
  took = taken-none c.args.part.now;
  can = subst (λ l. CanTake c.args.part.now (claims_in l)) (search rules) c.requires.can;
}

pub take-entry-requires-clause-home : goal.take-entry-requires-clause-home
take-entry-requires-clause-home g c =
    let inv = c.loop-grant.invariant in
    let left : List inbox.Claim = claims_in c.next.new.self.rest.items in
    let was = subst (λ l. CanTake c.loop-grant.part (claims_in l)) c.in-Some.ensures.steps.0 inv.can in
    let can = subst (λ (a : PartOf). CanTake a (c.in-Some.grant.claim ∷ left)) (sym c.in_ok-reserve.ensures.same) (can-reserved c.loop-grant.part c.reserve.new.self.room (c.in-Some.grant.claim ∷ left) was) in
    grant-home c.reserve.new.self c.entries-entries.ensures.kept c.in-Some.grant.claim left can

pub take-entry-requires-clause-next : goal.take-entry-requires-clause-next
take-entry-requires-clause-next g c =
    let inv = c.loop-grant.invariant in
    let left : List inbox.Claim = claims_in c.next.new.self.rest.items in
    let was = subst (λ l. CanTake c.loop-grant.part (claims_in l)) c.in-Some.ensures.steps.0 inv.can in
    let can = subst (λ (a : PartOf). CanTake a (c.in-Some.grant.claim ∷ left)) (sym c.in_ok-reserve.ensures.same) (can-reserved c.loop-grant.part c.reserve.new.self.room (c.in-Some.grant.claim ∷ left) was) in
    grant-next c.reserve.new.self c.entries-entries.ensures.kept c.in-Some.grant.claim left can

pub loop-grant-preserved : goal.loop-grant-preserved
loop-grant-preserved g c =
    let inv = c.loop-grant.invariant in
    let k : inbox.Claim = c.in-Some.grant.claim in
    let left : List inbox.Claim = claims_in c.next.new.self.rest.items in
    let steps = c.in-Some.ensures.steps.0 in
    let was = subst (λ l. CanTake c.loop-grant.part (claims_in l)) steps inv.can in
    let b : PartOf = c.reserve.new.self in
    let same = c.in_ok-reserve.ensures.same in
    let can = subst (λ (a : PartOf). CanTake a (k ∷ left)) (sym same) (can-reserved c.loop-grant.part b.room (k ∷ left) was) in
    let took = subst (λ (a : PartOf). HasTakenAll c.args.part.now a (claims_in inv.gone)) (sym same) (taken-reserved c.args.part.now c.loop-grant.part b.room (claims_in inv.gone) inv.took) in
    let kept = c.entries-entries.ensures.kept in
    let one = c.take-entry.ensures in
    let more = claims-more b kept k left can c.take-entry.new.self c.take-entry.result one in
    record {
      gone = inv.gone ++ c.in-Some.grant ∷ [];
      rest_is = inv.rest_is ∙ ap (λ l. inv.gone ++ l) steps ∙ sym (append_assoc inv.gone (c.in-Some.grant ∷ []) c.next.new.self.rest.items);
      took =
          subst (λ l. HasTakenAll c.args.part.now c.take-entry.new.self l) (sym (map_push claim_of inv.gone c.in-Some.grant))
          (taken-more c.args.part.now b c.take-entry.new.self k (claims_in inv.gone) c.take-entry.result took one more);
      can = can-more b kept k left can c.take-entry.new.self c.take-entry.result one;
    }
