-- The highest of several keys does not depend on their order.
use Rattle.std.proofs.Common.{Bool, List, [], false, inl, inr, map, refl, subst, sym, true, ℕ, ◌++◌, ◌∙◌, ◌∷◌, ◌≡◌, ◌⊎◌}
use Rattle.std.specs.Prelude.{if◌then◌else◌}
use Rattle.rt_rules.specs.KeyOrder.{higher}
use Rattle.rt_rules.specs.declared.Key.{Key}
use Rattle.rt_rules.specs.Keys.{highest}
use Rattle.rt_rules.specs.Numbers.{has}
use Rattle.rt_rules.proofs.BoolLaws.{clash, unless}
use Rattle.rt_rules.specs.OrderLaws.{higher-irreflexive, higher-total, higher-transitive}
use Rattle.rt_rules.proofs.KeyLaws.{higher-falls, highest-of, highest-owner}
use Rattle.rt_rules.proofs.MemberLaws.{equal_self}

-- the task's own key is not above the highest
highest-own : (f : ℕ → Key) (t : ℕ) (us : List ℕ) → higher (f t) (highest (f t) (map f us)) ≡ false
highest-own f t us = subst (λ k. higher (f t) (highest k (map f us)) ≡ false) (either_way (higher (f t) (f t))) (highest-of f t (t ∷ us) (f t) (rw (equal_self t)))
  where
    either_way : (b : Bool) → (if b then f t else f t) ≡ f t
    either_way true = refl
    either_way false = refl

not_above : (f : ℕ → Key) (t : ℕ) (us vs : List ℕ) → ((w : ℕ) → has w us ≡ has w vs) → higher (highest (f t) (map f us)) (highest (f t) (map f vs)) ≡ false
not_above f t us vs h = split (highest-owner f t us)
  where
    by_task : (y : ℕ) → (y ≡ t) ⊎ (has y us ≡ true) → higher (f y) (highest (f t) (map f vs)) ≡ false
    by_task y (inl k) = rw k (highest-own f t vs)
    by_task y (inr k) = highest-of f y vs (f t) (sym (h y) ∙ k)

    split : (y : ℕ) × ((y ≡ t) ⊎ (has y us ≡ true)) × (highest (f t) (map f us) ≡ f y) → higher (highest (f t) (map f us)) (highest (f t) (map f vs)) ≡ false
    split q = rw q.2 (by_task q.0 q.1)

-- two lists with the same members have the same highest key
pub highest-members : (f : ℕ → Key) (t : ℕ) (us vs : List ℕ) → ((w : ℕ) → has w us ≡ has w vs) → highest (f t) (map f us) ≡ highest (f t) (map f vs)
highest-members f t us vs h = higher-total _ _ (not_above f t us vs h) (not_above f t vs us (λ w. sym (h w)))

-- one more key at the end
pub highest-last : (f : ℕ → Key) (k : Key) (us : List ℕ) (t : ℕ) → highest k (map f (us ++ t ∷ [])) ≡ (if higher (f t) (highest k (map f us)) then f t else highest k (map f us))
highest-last f k [] t = refl
highest-last f k (u ∷ us) t = highest-last f (if higher (f u) k then f u else k) us t

-- where one of the tasks comes before all others, its key alone counts
pub highest-lead : (f : ℕ → Key) (t x : ℕ) (us : List ℕ) → has x us ≡ true → ((y : ℕ) → has y us ≡ true → higher (f y) (f x) ≡ false) → highest (f t) (map f us) ≡ (if higher (f x) (f t) then f x else f t)
highest-lead f t x us there leads = by_case (higher (f x) (f t)) refl
  where
    under : (k : Key) → higher (f t) k ≡ false → ((y : ℕ) → has y us ≡ true → higher (f y) k ≡ false) → higher (highest (f t) (map f us)) k ≡ false
    under k own each = split (highest-owner f t us)
      where
        by_task : (y : ℕ) → (y ≡ t) ⊎ (has y us ≡ true) → higher (f y) k ≡ false
        by_task y (inl m) = rw m own
        by_task y (inr m) = each y m

        split : (y : ℕ) × ((y ≡ t) ⊎ (has y us ≡ true)) × (highest (f t) (map f us) ≡ f y) → higher (highest (f t) (map f us)) k ≡ false
        split q = rw q.2 (by_task q.0 q.1)

    by_case : (b : Bool) → higher (f x) (f t) ≡ b → highest (f t) (map f us) ≡ (if b then f x else f t)
    by_case true e = higher-total _ _ (under (f x) (unless _ (λ m. clash _ (higher-transitive (f t) (f x) (f t) m e) (higher-irreflexive (f t)))) leads) (highest-of f x us (f t) there)
    by_case false e = higher-total _ _ (under (f t) (higher-irreflexive (f t)) (λ y m. higher-falls (f t) (f x) (f y) e (leads y m))) (highest-own f t us)
