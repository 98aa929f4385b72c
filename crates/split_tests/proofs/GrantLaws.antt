-- The grant that a seat brings, which was split off once it had seen the release.
use Rattle.std.proofs.Common.{◌≡◌, List, [], ◌∷◌, ◌++◌, length, sym, ap, ◌∙◌, subst, arith}
use Rattle.std.specs.Prelude.{Some, slice_get}
use Rattle.std.proofs.lemmas.List.{length-append}
use Rattle.std.proofs.lemmas.Option.{slice_get-get_or}
use Rattle.std.proofs.Math.Seq.{get_or-append_seam}
use Rattle.turn_cell.specs.SeatViews.{Cell, SeatView, TurnOf, given_back, split_off, taken}
use Rattle.split_rules.specs.declared.SemAct.TheVariants as acts
use Rattle.split_rules.specs.declared.SemEntry.{SemEntry}
use Rattle.split_inbox.specs.Books.{BookOf, IsHistory, IsLegalSem, entry}
use Rattle.split_inbox.specs.Grants.{IsGrant, claim}
use Rattle.split_inbox.specs.declared.subject.SemOf.{SemOf}
use Rattle.split_tests.specs.inside.OneBook.{IsAtTurn}

-- task 1 of processor 0 frees the semaphore, and task 2 holds it then
abbrev pub freed : SemEntry
freed = entry (record { 0 = 0 }) (record { 0 = 1 }) (acts.Release (Some (record { 0 = 2 })))

at-end : (xs : List SemEntry) (x : SemEntry) → slice_get (xs ++ x ∷ []) (length xs) ≡ Some x
at-end xs x = slice_get-get_or (xs ++ x ∷ []) (length xs) x (omega (arith, length-append xs (x ∷ []))) ∙ ap Some (get_or-append_seam xs x [] x)

pub made : (turns : List (Cell SemOf)) (t : TurnOf SemOf) (a a1 a2 s : SeatView SemEntry SemOf) (b b' : BookOf) → IsAtTurn t a → turns ≡ t.cell ∷ []
    → a1 ≡ taken b.entries [] a → a2 ≡ given_back b'.entries [] a1 → s ≡ split_off a2 → length b.entries ≡ 2 → b' ≡ record b { entries = b.entries ++ freed ∷ [] }
    → t.cell.subject ≡ Some b.about → IsHistory b'.about b'.entries → IsGrant turns (record { claim = claim 1 2 2 0 0; seen = s })
made turns t a a1 a2 s b b' at names took gave copied two freed-is about kept =
    let is : s ≡ split_off (given_back b'.entries [] (taken b.entries [] a)) = copied ∙ ap (λ (k : SeatView SemEntry SemOf). split_off k) (gave ∙ ap (λ (k : SeatView SemEntry SemOf). given_back b'.entries [] k) took) in
    let cell : s.cell ≡ t.cell = ap (λ (k : SeatView SemEntry SemOf). k.cell) is ∙ at.cell in
    let seen : s.seen ≡ b.entries ++ freed ∷ [] = ap (λ (k : SeatView SemEntry SemOf). k.seen) is ∙ ap (λ (x : BookOf). x.entries) freed-is in
    record {
      split_off = ap (λ (k : SeatView SemEntry SemOf). k.cpu) is;
      rests = ap (λ (k : SeatView SemEntry SemOf). k.holds) is;
      low = omega arith;
      turn = ap (λ l. slice_get l 0) names ∙ ap Some (sym cell);
      granted = (record { 0 = 1 }, ap (λ l. slice_get l 2) seen ∙ subst (λ n. slice_get (b.entries ++ freed ∷ []) n ≡ Some freed) two (at-end b.entries freed));
      legal = λ x here.
          subst (λ l. IsLegalSem x l) (ap (λ (y : BookOf). y.entries) freed-is ∙ sym seen)
          (subst (λ y. IsLegalSem y b'.entries) (ap (λ (y : BookOf). y.about) freed-is ∙ same x here) kept.legal);
    }
  where
    inner : {X : Type 0} (x y : X) → Some x ≡ Some y → x ≡ y
    inner x y e = cc

    same : (x : SemOf) → s.cell.subject ≡ Some x → b.about ≡ x
    same x here =
        inner b.about x
        (sym about ∙ sym (ap (λ (k : Cell SemOf). k.subject) (ap (λ (k : SeatView SemEntry SemOf). k.cell) (copied ∙ ap (λ (k : SeatView SemEntry SemOf). split_off k) (gave ∙ ap (λ (k : SeatView SemEntry SemOf). given_back b'.entries [] k) took)) ∙ at.cell))
        ∙ here)
