-- A map of accounts against the ordered map that keeps it.
use Rattle.std.proofs.Common.{◌≡◌, ℕ, zero, suc, ◌+◌, ◌<◌, Bool, true, false, cond, ◌||◌, List, [], ◌∷◌, length, get_or, take, eqb-true, refl, sym, ap, ◌∙◌, arith}
use Rattle.std.specs.Prelude.{None, Some, is_some, map, ◌==◌}
use Rattle.std.proofs.lemmas.Bool.Decides.{nat_tests}
use Rattle.rt_rules.specs.Distinct.{IsDistinct}
use Rattle.rt_rules.specs.Numbers.{has}
use Rattle.std.specs.Ordering.{nat_cmp, eq_by_cmp}
use Rattle.std.specs.Cmp.{nat_cmp_total, eq_by_cmp_equiv, unsigned_tied}
use Rattle.std.proofs.lemmas.List.{take_more, map-append}
use Rattle.std.specs.Map.{lookup}
use Rattle.std.specs.FinMap as finite

turned : (x y : ℕ) → x == y ≡ false → y == x ≡ false
turned x y h = grind (arith, nat_tests)

neither : (a b : Bool) → a || b ≡ false → (a ≡ false) × (b ≡ false)
neither true b h = cc
neither false b h = (refl, h)

module _ {X : Type 0} where
  -- what the map has at a key is what the entries have there
  pub get_entries : (es : List (ℕ × X)) (q : ℕ) → finite.get (finite.from_entries {R = nat_cmp} es) q ≡ lookup (eq_by_cmp nat_cmp q) es
  get_entries es q = finite.get-from_entries nat_cmp_total es q

  -- entries that differ at one key alone make the map with that key set
  pub from_entries-updated : (old new : List (ℕ × X)) (k : ℕ) (v : X) → ((q : ℕ) → lookup (eq_by_cmp nat_cmp q) new ≡ cond (eq_by_cmp nat_cmp k q) (Some v) (lookup (eq_by_cmp nat_cmp q) old)) → finite.from_entries {R = nat_cmp} new ≡ finite.insert (finite.from_entries old) k v
  from_entries-updated old new k v each = finite.same_map nat_cmp_total finite.nat_cmp-IsAntisymmetric _ _ (λ q. get_entries new q ∙ each q ∙ turned q ∙ sym (finite.get-insert nat_cmp_total (finite.from_entries old) k v q ∙ ap (cond (eq_by_cmp nat_cmp q k) (Some v)) (get_entries old q)))
    where
      turned : (q : ℕ) → cond (eq_by_cmp nat_cmp k q) (Some v) (lookup (eq_by_cmp nat_cmp q) old) ≡ cond (eq_by_cmp nat_cmp q k) (Some v) (lookup (eq_by_cmp nat_cmp q) old)
      turned q = ap (λ b. cond b (Some v) (lookup (eq_by_cmp nat_cmp q) old)) ((eq_by_cmp_equiv nat_cmp_total).symm k q)

  -- a key that is there is replaced, and no other comes or goes
  pub from_entries-replaced : (old new : List (ℕ × X)) (k : ℕ) (v w : X) → Some v ≡ lookup (eq_by_cmp nat_cmp k) old → ((q : ℕ) → lookup (eq_by_cmp nat_cmp q) new ≡ cond (eq_by_cmp nat_cmp k q) (Some w) (lookup (eq_by_cmp nat_cmp q) old)) → (q : ℕ) → finite.contains_key (finite.from_entries {R = nat_cmp} new) q ≡ finite.contains_key (finite.from_entries {R = nat_cmp} old) q
  from_entries-replaced old new k v w there each q = rw (get_entries new q, get_entries old q, each q, unsigned_tied k q) (by_case (k == q) refl)
    where
      by_case : (b : Bool) → k == q ≡ b → is_some (cond b (Some w) (lookup (eq_by_cmp nat_cmp q) old)) ≡ is_some (lookup (eq_by_cmp nat_cmp q) old)
      by_case true e = let same : k ≡ q = eqb-true k q e in ap is_some (there ∙ ap (λ n. lookup (eq_by_cmp nat_cmp n) old) same)
      by_case false e = refl

  module _ {A : Type 0} (f : A → ℕ) (g : A → X) where
    abbrev pub entry : A → ℕ × X
    entry a = (f a, g a)

    -- one that is not there is none of those that are
    apart : (x : ℕ) (xs : List A) (i : ℕ) (d : A) → i < length xs → has x (map f xs) ≡ false → eq_by_cmp nat_cmp (f (get_or xs i d)) x ≡ false
    apart x [] i d h absent = absurd (omega arith)
    apart x (a ∷ xs) zero d h absent = rw unsigned_tied (turned x (f a) (neither (x == f a) _ absent).0)
    apart x (a ∷ xs) (suc i) d h absent = apart x xs i d (omega arith) (neither (x == f a) _ absent).1

    -- where the keys differ, the one at a place stands at none before
    absent-before : (xs : List A) (i : ℕ) (d : A) → i < length xs → IsDistinct (map f xs) → lookup (eq_by_cmp nat_cmp (f (get_or xs i d))) (map entry (take i xs)) ≡ None
    absent-before [] i d h once = absurd (omega arith)
    absent-before (a ∷ xs) zero d h once = refl
    absent-before (a ∷ xs) (suc i) d h once = rw (apart (f a) xs i d (omega arith) once.0) (absent-before xs i d (omega arith) once.1)

    -- one more of a list whose keys differ
    from_entries-take_more : (xs : List A) (i : ℕ) (d : A) → i < length xs → IsDistinct (map f xs) → finite.from_entries {R = nat_cmp} (map entry (take (i + 1) xs)) ≡ finite.insert (finite.from_entries (map entry (take i xs))) (f (get_or xs i d)) (g (get_or xs i d))
    from_entries-take_more xs i d h once = rw (take_more xs i d h, map-append) (finite.from_entries_push nat_cmp_total finite.nat_cmp-IsAntisymmetric _ _ _ (absent-before xs i d h once))

    -- the entries of the elements so far, with that of the next
    pub from_entries-with_next : (xs : List A) (i : ℕ) (x : A) (old new : List (ℕ × X)) → i < length xs → IsDistinct (map f xs) → x ≡ get_or xs i x → finite.from_entries {R = nat_cmp} old ≡ finite.from_entries (map entry (take i xs)) → ((q : ℕ) → lookup (eq_by_cmp nat_cmp q) new ≡ cond (eq_by_cmp nat_cmp (f x) q) (Some (g x)) (lookup (eq_by_cmp nat_cmp q) old)) → finite.from_entries {R = nat_cmp} new ≡ finite.from_entries (map entry (take (i + 1) xs))
    from_entries-with_next xs i x old new h once is before each =
        from_entries-updated old new (f x) (g x) each
        ∙ ap (λ m. finite.insert m (f x) (g x)) before
        ∙ ap (λ a. finite.insert (finite.from_entries (map entry (take i xs))) (f a) (g a)) is
        ∙ sym (from_entries-take_more xs i x h once)

    -- the keys are those of the list
    pub contains_key-from_entries : (xs : List A) (q : ℕ) → finite.contains_key (finite.from_entries {R = nat_cmp} (map entry xs)) q ≡ has q (map f xs)
    contains_key-from_entries xs q = rw (get_entries (map entry xs) q) (found xs)
      where
        found : (xs : List A) → is_some (lookup (eq_by_cmp nat_cmp q) (map entry xs)) ≡ has q (map f xs)
        found [] = refl
        found (a ∷ xs) = rw (unsigned_tied q (f a)) (by_case (q == f a) (found xs))
          where
            by_case : (b : Bool) → is_some (lookup (eq_by_cmp nat_cmp q) (map entry xs)) ≡ has q (map f xs) → is_some (cond b (Some (g a)) (lookup (eq_by_cmp nat_cmp q) (map entry xs))) ≡ b || has q (map f xs)
            by_case true rest = refl
            by_case false rest = rest
