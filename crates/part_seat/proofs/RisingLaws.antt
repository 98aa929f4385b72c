-- Of one poster and one semaphore the number that was taken last is the greatest.
use Rattle.std.proofs.Common.{◌≡◌, inl, inr, ℕ, ◌<◌, Bool, true, false, List, [], ◌∷◌, ◌++◌, map, refl, sym, ap, ◌∙◌, subst}
use Rattle.std.specs.Prelude.{◌==◌, if◌then◌else◌}
use Rattle.rt_rules.proofs.MemberLaws.{equal_self}
use Rattle.split_inbox.specs.Posting.{AreAbove, AreRising, IsRising, nos_of, of_poster}
use Rattle.split_inbox.specs.declared.rule.Claim as inbox
use Rattle.split_laws.specs.Parts.{Among}
use Rattle.split_laws.specs.Posts.{TakenGrant}
use Rattle.part_seat.specs.AtTurns.{taken_claim}

-- the numbers of one poster and one semaphore, of a claim and of those that follow
abbrev numbers : ℕ → ℕ → List inbox.Claim → List ℕ
numbers q s cs = nos_of s (of_poster q cs)

abbrev with_first : Bool → Bool → ℕ → List ℕ → List ℕ
with_first true true n ns = n ∷ ns
with_first _ _ n ns = ns

numbers-first : (q s : ℕ) (c : inbox.Claim) (cs : List inbox.Claim) → numbers q s (c ∷ cs) ≡ with_first (c.from == q) (c.sem == s) c.no (numbers q s cs)
numbers-first q s c cs = by_poster (c.from == q)
  where
    by_sem : (b : Bool) → (if b then c.no ∷ numbers q s cs else numbers q s cs) ≡ with_first true b c.no (numbers q s cs)
    by_sem true = refl
    by_sem false = refl

    by_poster : (b : Bool) → nos_of s (if b then c ∷ of_poster q cs else of_poster q cs) ≡ with_first b (c.sem == s) c.no (numbers q s cs)
    by_poster true = by_sem (c.sem == s)
    by_poster false = refl

module _ (c : inbox.Claim) where
  abbrev own : List inbox.Claim → List ℕ
  own cs = numbers c.from c.sem cs

  own-first : (cs : List inbox.Claim) → own (c ∷ cs) ≡ c.no ∷ own cs
  own-first cs = numbers-first c.from c.sem c cs ∙ ap (λ b. with_first b (c.sem == c.sem) c.no (own cs)) (equal_self c.from) ∙ ap (λ b. with_first true b c.no (own cs)) (equal_self c.sem)

  above-rest : (n : ℕ) (a b : Bool) (m : ℕ) (ns : List ℕ) → AreAbove n (with_first a b m ns) → AreAbove n ns
  above-rest n true true m ns h = h.1
  above-rest n true false m ns h = h
  above-rest n false b m ns h = h

  rising-rest : (a b : Bool) (m : ℕ) (ns : List ℕ) → IsRising (with_first a b m ns) → IsRising ns
  rising-rest true true m ns h = h.1
  rising-rest true false m ns h = h
  rising-rest false b m ns h = h

  above-last : (n : ℕ) (cs : List inbox.Claim) → AreAbove n (own (cs ++ c ∷ [])) → n < c.no
  above-last n [] h = (subst (AreAbove n) (own-first []) h).0
  above-last n (d ∷ cs) h = above-last n cs (above-rest n (d.from == c.from) (d.sem == c.sem) d.no (own (cs ++ c ∷ [])) (subst (AreAbove n) (numbers-first c.from c.sem d (cs ++ c ∷ [])) h))

  rises-last : (cs : List inbox.Claim) → IsRising (own (cs ++ c ∷ [])) → (x : TakenGrant) → Among x (map taken_claim cs) → x.from ≡ c.from → x.claim.sem ≡ c.sem → x.claim.no < c.no
  rises-last [] h x m from sem = elim m [ ]
  rises-last (d ∷ cs) h x (inl e) from sem =
      let f : d.from ≡ c.from = ap (λ (y : TakenGrant). y.from) (sym e) ∙ from in
      let s : d.sem ≡ c.sem = ap (λ (y : TakenGrant). y.claim.sem) (sym e) ∙ sem in
      let all = subst IsRising (numbers-first c.from c.sem d (cs ++ c ∷ [])) h in
      let here = subst (λ a. IsRising (with_first a (d.sem == c.sem) d.no (own (cs ++ c ∷ [])))) (ap (λ n. n == c.from) f ∙ equal_self c.from) all in
      let both = subst (λ b. IsRising (with_first true b d.no (own (cs ++ c ∷ [])))) (ap (λ n. n == c.sem) s ∙ equal_self c.sem) here in
      subst (λ n. n < c.no) (sym (ap (λ (y : TakenGrant). y.claim.no) e)) (above-last d.no cs both.0)
  rises-last (d ∷ cs) h x (inr m) from sem =
      rises-last cs (rising-rest (d.from == c.from) (d.sem == c.sem) d.no (own (cs ++ c ∷ [])) (subst IsRising (numbers-first c.from c.sem d (cs ++ c ∷ [])) h)) x m from sem

  pub last-is-greatest : (cs : List inbox.Claim) → AreRising (cs ++ c ∷ []) → (x : TakenGrant) → Among x (map taken_claim cs) → x.from ≡ c.from → x.claim.sem ≡ c.sem → x.claim.no < c.no
  last-is-greatest cs rising = rises-last cs (rising c.from c.sem)
