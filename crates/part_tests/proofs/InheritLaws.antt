-- Tasks of which each waits for one of a higher number: no walk comes round.
use Rattle.std.proofs.Common.{◌≡◌, ℕ, zero, suc, ◌<◌, false, ◌⊎◌, inl, inr, eqb-true, List, [], ◌∷◌, length, set, refl, ap, arith}
use Rattle.std.specs.Prelude.{◌==◌, Option, None, Some}
use Rattle.rt_rules.specs.Numbers.{has}
use Rattle.rt_rules.specs.Walks.{walk}
use Rattle.rt_rules.proofs.PlacingLaws.{unless}
use Rattle.prio_inherit.specs.Waits.{next_of, NoWalkComesRound}

rising-walk : (next : ℕ → Option ℕ) (t n : ℕ) (o : Option ℕ) → ((u v : ℕ) → next u ≡ Some v → u < v) → ((v : ℕ) → o ≡ Some v → t < v) → has t (walk next n o) ≡ false
rising-walk next t zero o up above = refl
rising-walk next t (suc n) None up above = refl
rising-walk next t (suc n) (Some u) up above = rw (apart, rising-walk next t n (next u) up (λ v e. omega (arith, above u refl, up u v e)))
  where
    apart : t == u ≡ false
    apart = unless _ (λ m. let e : t ≡ u = eqb-true t u m in let l : t < u = above u refl in omega arith)

rising-ends : (nexts : List (Option ℕ)) → ((t v : ℕ) → next_of nexts t ≡ Some v → t < v) → NoWalkComesRound nexts
rising-ends nexts up = λ t. rising-walk (next_of nexts) t (length nexts) (next_of nexts t) up (λ v e. up t v e)

next-set : (nexts : List (Option ℕ)) (t u v : ℕ) (o : Option ℕ) → next_of (set nexts t o) u ≡ Some v → ((u ≡ t) × (o ≡ Some v)) ⊎ (next_of nexts u ≡ Some v)
next-set [] t u v o e = inr e
next-set (n ∷ ns) zero zero v o e = inl (refl, e)
next-set (n ∷ ns) zero (suc u) v o e = inr e
next-set (n ∷ ns) (suc t) zero v o e = inr e
next-set (n ∷ ns) (suc t) (suc u) v o e = later (next-set ns t u v o e)
  where
    later : ((u ≡ t) × (o ≡ Some v)) ⊎ (next_of ns u ≡ Some v) → ((suc u ≡ suc t) × (o ≡ Some v)) ⊎ (next_of ns u ≡ Some v)
    later (inl p) = inl (ap (λ (i : ℕ). suc i) p.0, p.1)
    later (inr q) = inr q

rising-set : (nexts : List (Option ℕ)) (t h : ℕ) → ((u v : ℕ) → next_of nexts u ≡ Some v → u < v) → t < h → (u v : ℕ) → next_of (set nexts t (Some h)) u ≡ Some v → u < v
rising-set nexts t h up above u v e = split (next-set nexts t u v (Some h) e)
  where
    split : ((u ≡ t) × (Some h ≡ Some v)) ⊎ (next_of nexts u ≡ Some v) → u < v
    split (inl p) = let k : Some h ≡ Some v = p.1 in let s : h ≡ v = cc in omega (arith, p.0)
    split (inr q) = up u v q

pub rising-joined : (nexts : List (Option ℕ)) (t h : ℕ) → ((u v : ℕ) → next_of nexts u ≡ Some v → u < v) → t < h → NoWalkComesRound (set nexts t (Some h))
rising-joined nexts t h up above = rising-ends (set nexts t (Some h)) (rising-set nexts t h up above)
