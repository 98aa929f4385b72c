-- Two lists that are changed side by side, pair after pair.
use Rattle.std.proofs.Common.{◌≡◌, ◌≢◌, ◌∙◌, ℕ, zero, suc, ◌+◌, ◌<◌, ◌≤◌, Bool, true, false, List, [], ◌∷◌, length, map, get_or, set, refl, sym, ap, subst, arith}
use Rattle.std.specs.Prelude.{◌==◌}
use Rattle.std.proofs.lemmas.Bool.Decides.{nat_tests}
use Rattle.std.proofs.lemmas.Grind.{get_or-set_at}
use Rattle.std.proofs.lemmas.List.{get_or-set_other, get_or_read}
use Rattle.span_feed.specs.Spanned.{paired}

module _ {A B : Type 0} (P : A → B → A → B → Type 0) where
  -- of the first n pairs this holds, and the others are as they were
  abbrev pub AreTaken : ℕ → List A → List B → List A → List B → Type 0
  AreTaken n xs ys xs' ys' =
      (i : ℕ) (d : A) (e : B) → i < length xs → i < length ys
      → (i < n → P (get_or xs i d) (get_or ys i e) (get_or xs' i d) (get_or ys' i e)) × (n ≤ i → (get_or xs' i d ≡ get_or xs i d) × (get_or ys' i e ≡ get_or ys i e))

  module _ (n : ℕ) (xs xs' : List A) (ys ys' : List B) (x x' : A) (y y' : B) (low : n < length xs) (below : n < length ys) (long_x : length xs' ≡ length xs) (long_y : length ys' ≡ length ys)
      (before : AreTaken n xs ys xs' ys') (is_x : x ≡ get_or xs' n x) (is_y : y ≡ get_or ys' n y) where
    -- the next pair is as it was
    pub next-x : (d : A) (e : B) → x ≡ get_or xs n d
    next-x d e = let there : n < length xs' = omega (arith, long_x, low) in get_or_read xs' n x there is_x d ∙ ((before n d e low below).1 (omega arith)).0

    pub next-y : (d : A) (e : B) → y ≡ get_or ys n e
    next-y d e = let there : n < length ys' = omega (arith, long_y, below) in get_or_read ys' n y there is_y e ∙ ((before n d e low below).1 (omega arith)).1

    pub taken-more : P x y x' y' → AreTaken (n + 1) xs ys (set xs' n x') (set ys' n y')
    taken-more made i d e low_i below_i = by_case (i == n) refl
      where
        there_x : n < length xs'
        there_x = omega (arith, long_x, low)

        there_y : n < length ys'
        there_y = omega (arith, long_y, below)

        at : i ≡ n → (i < n + 1 → P (get_or xs i d) (get_or ys i e) (get_or (set xs' n x') i d) (get_or (set ys' n y') i e))
            × (n + 1 ≤ i → (get_or (set xs' n x') i d ≡ get_or xs i d) × (get_or (set ys' n y') i e ≡ get_or ys i e))
        at is = (
          λ _. subst (λ b. P (get_or xs i d) (get_or ys i e) (get_or (set xs' n x') i d) b) (sym (get_or-set_at ys' n i y' e is there_y))
              (subst (λ a. P (get_or xs i d) (get_or ys i e) a y') (sym (get_or-set_at xs' n i x' d is there_x))
              (subst (λ b. P (get_or xs i d) b x' y') (next-y d e ∙ ap (λ k. get_or ys k e) (sym is)) (subst (λ a. P a y x' y') (next-x d e ∙ ap (λ k. get_or xs k d) (sym is)) made))),
          λ late. absurd (omega arith),
        )

        apart : i ≢ n → (i < n + 1 → P (get_or xs i d) (get_or ys i e) (get_or (set xs' n x') i d) (get_or (set ys' n y') i e))
            × (n + 1 ≤ i → (get_or (set xs' n x') i d ≡ get_or xs i d) × (get_or (set ys' n y') i e ≡ get_or ys i e))
        apart other =
            let same_x = get_or-set_other xs' n i x' d other in
            let same_y = get_or-set_other ys' n i y' e other in
            let was = before i d e low_i below_i in (
              λ early. let less : i < n = omega arith in
                  subst (λ b. P (get_or xs i d) (get_or ys i e) (get_or (set xs' n x') i d) b) (sym same_y) (subst (λ a. P (get_or xs i d) (get_or ys i e) a (get_or ys' i e)) (sym same_x) (was.0 less)),
              λ late. let more : n ≤ i = omega arith in (same_x ∙ (was.1 more).0, same_y ∙ (was.1 more).1),
            )

        by_case : (b : Bool) → (i == n) ≡ b → (i < n + 1 → P (get_or xs i d) (get_or ys i e) (get_or (set xs' n x') i d) (get_or (set ys' n y') i e))
            × (n + 1 ≤ i → (get_or (set xs' n x') i d ≡ get_or xs i d) × (get_or (set ys' n y') i e ≡ get_or ys i e))
        by_case true h = at (grind (arith, nat_tests, h))
        by_case false h = apart (λ same. grind (arith, nat_tests, h, same))

-- ---- lists that are the same element by element

pub maps-same : {A C : Type 0} (f : A → C) (xs ys : List A) → length ys ≡ length xs → ((i : ℕ) (d : A) → i < length xs → f (get_or ys i d) ≡ f (get_or xs i d)) → map f ys ≡ map f xs
maps-same f [] [] long same = refl
maps-same f [] (y ∷ ys) long same = absurd (omega arith)
maps-same f (x ∷ xs) [] long same = absurd (omega arith)
maps-same f (x ∷ xs) (y ∷ ys) long same = λ j. same zero x (omega arith) j ∷ maps-same f xs ys (omega arith) (λ i d low. same (suc i) d (omega arith)) j

pub paired-each : {A B C : Type 0} (f : A → C → C) (was is : B → C) (xs : List A) (ys zs : List B) → length ys ≡ length xs → length zs ≡ length ys
    → ((i : ℕ) (d : A) (e : B) → i < length xs → is (get_or zs i e) ≡ f (get_or xs i d) (was (get_or ys i e))) → map is zs ≡ paired f xs (map was ys)
paired-each f was is [] [] [] long as_long same = refl
paired-each f was is [] [] (z ∷ zs) long as_long same = absurd (omega arith)
paired-each f was is [] (y ∷ ys) zs long as_long same = absurd (omega arith)
paired-each f was is (x ∷ xs) [] zs long as_long same = absurd (omega arith)
paired-each f was is (x ∷ xs) (y ∷ ys) [] long as_long same = absurd (omega arith)
paired-each f was is (x ∷ xs) (y ∷ ys) (z ∷ zs) long as_long same = λ j. same zero x y (omega arith) j ∷ paired-each f was is xs ys zs (omega arith) (omega arith) (λ i d e low. same (suc i) d e (omega arith)) j
