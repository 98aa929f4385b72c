-- Members of lists of numbers, and numbers that may be missing.
use Rattle.std.proofs.Common.{Bool, List, [], ap, arith, cond, eqb-true, false, inl, inr, length, length-append, map, refl, suc, sym, true, ℕ, ◌&&◌, ◌++◌, ◌+◌, ◌||◌, ◌∙◌, ◌∷◌, ◌≡◌, ◌⊎◌}
use Rattle.std.proofs.lemmas.Bool.Decides.{nat_tests}
use Rattle.std.specs.List.{list_all, list_any}
use Rattle.std.specs.Prelude.{None, Option, Some, filter, find, ◌==◌, is_none}
use Rattle.rt_rules.specs.Numbers.{first, has, is, is_empty, rest, without}
use Rattle.rt_rules.proofs.BoolLaws.{both, either, neither, or_true, or_assoc, or_middle}

pub equal_self : (u : ℕ) → u == u ≡ true
equal_self u = grind (arith, nat_tests)

-- the members of a filtered list
pub has-filter : (p : ℕ → Bool) (x : ℕ) (xs : List ℕ) → has x (filter p xs) ≡ has x xs && p x
has-filter p x [] = refl
has-filter p x (y ∷ ys) = by_case (p y) refl (has-filter p x ys)
  where
    by_case : (b : Bool) → p y ≡ b → has x (filter p ys) ≡ has x ys && p x → has x (cond b (y ∷ filter p ys) (filter p ys)) ≡ (x == y || has x ys) && p x
    by_case true e h = grind (arith, nat_tests, h)
    by_case false e h = grind (arith, nat_tests, h)

-- equality of numbers is symmetric
pub turned : (m n : ℕ) → m == n ≡ n == m
turned m n = grind (arith, nat_tests)

-- ---- a number that may be missing

pub is-some : (t : ℕ) (o : Option ℕ) → is t o ≡ true → o ≡ Some t
is-some t None h = cc
is-some t (Some u) h = ap {B = Option ℕ} (λ n. Some n) (sym (eqb-true t u h))

pub some-is : (t : ℕ) (o : Option ℕ) → o ≡ Some t → is t o ≡ true
some-is t o h = rw (h, equal_self t)

-- a number that may be missing is one
pub is_one : (t u : ℕ) (o : Option ℕ) → is t o ≡ true → is u o ≡ true → t ≡ u
is_one t u None h k = cc
is_one t u (Some v) h k = eqb-true t v h ∙ sym (eqb-true u v k)

-- ---- members

-- the members of two lists joined
pub has-append : (t : ℕ) (xs ys : List ℕ) → has t (xs ++ ys) ≡ has t xs || has t ys
has-append t [] ys = refl
has-append t (x ∷ xs) ys = rw (has-append t xs ys) (or_assoc (t == x) (has t xs) (has t ys))

pub has-appended : (t : ℕ) (xs ys : List ℕ) → has t (xs ++ ys) ≡ true → (has t xs ≡ true) ⊎ (has t ys ≡ true)
has-appended t xs ys h = either _ _ (rw has-append at h)

-- one number more at the end
pub has-push : (x y : ℕ) (xs : List ℕ) → has x (xs ++ y ∷ []) ≡ x == y || has x xs
has-push x y [] = refl
has-push x y (z ∷ xs) = ap (λ b. x == z || b) (has-push x y xs) ∙ or_middle (x == z) (x == y) (has x xs)

pub has-one : (t u : ℕ) → has t (u ∷ []) ≡ true → t ≡ u
has-one t u h = by_case (t == u) refl h
  where
    by_case : (b : Bool) → t == u ≡ b → b || false ≡ true → t ≡ u
    by_case true e k = eqb-true t u e
    by_case false e k = cc

pub has-first : (t : ℕ) (xs : List ℕ) → is t (first xs) ≡ true → has t xs ≡ true
has-first t [] h = cc
has-first t (x ∷ xs) h = rw h

pub has-rest : (t : ℕ) (xs : List ℕ) → has t (rest xs) ≡ true → has t xs ≡ true
has-rest t [] h = cc
has-rest t (x ∷ xs) h = rw h (or_true (t == x))

pub has-split : (t : ℕ) (xs : List ℕ) → has t xs ≡ true → (is t (first xs) ≡ true) ⊎ (has t (rest xs) ≡ true)
has-split t [] h = cc
has-split t (x ∷ xs) h = either _ _ h

pub has-without : (t u : ℕ) (xs : List ℕ) → has t (without u xs) ≡ true → has t xs ≡ true
has-without t u [] h = cc
has-without t u (x ∷ xs) h = by_case (u == x) h (has-without t u xs)
  where
    by_case : (b : Bool) → has t (cond b xs (x ∷ without u xs)) ≡ true → (has t (without u xs) ≡ true → has t xs ≡ true) → t == x || has t xs ≡ true
    by_case true k r = rw k (or_true (t == x))
    by_case false k r = join (either _ _ k)
      where
        join : (t == x ≡ true) ⊎ (has t (without u xs) ≡ true) → t == x || has t xs ≡ true
        join (inl m) = rw m
        join (inr m) = rw (r m) (or_true (t == x))

-- whatever else was there is left
pub has-left : (x t : ℕ) (xs : List ℕ) → x == t ≡ false → has x (without t xs) ≡ has x xs
has-left x t [] h = refl
has-left x t (y ∷ ys) h = by_case (t == y) refl (has-left x t ys h)
  where
    by_case : (b : Bool) → t == y ≡ b → has x (without t ys) ≡ has x ys → has x (cond b ys (y ∷ without t ys)) ≡ x == y || has x ys
    by_case true e rest = let s : t ≡ y = eqb-true t y e in let n : x == y ≡ false = ap (λ m. x == m) (sym s) ∙ h in rw n
    by_case false e rest = ap (λ b. x == y || b) rest

pub length-without : (t : ℕ) (xs : List ℕ) → has t xs ≡ true → length (without t xs) + 1 ≡ length xs
length-without t [] h = cc
length-without t (y ∷ ys) h = by_case (t == y) h (length-without t ys)
  where
    by_case : (b : Bool) → b || has t ys ≡ true → (has t ys ≡ true → length (without t ys) + 1 ≡ length ys) → length (cond b ys (y ∷ without t ys)) + 1 ≡ length (y ∷ ys)
    by_case true k rest = omega arith
    by_case false k rest = omega (arith, rest k)

-- the first of a list is taken out
pub without-first : (t : ℕ) (xs : List ℕ) → is t (first xs) ≡ true → without t xs ≡ rest xs
without-first t [] h = refl
without-first t (x ∷ xs) h = rw h

pub empty-none : (t : ℕ) (xs : List ℕ) → is_empty xs ≡ true → has t xs ≡ false
empty-none t [] h = refl
empty-none t (x ∷ xs) h = cc

pub none-empty : (xs : List ℕ) → ((t : ℕ) → has t xs ≡ true → ⊥) → is_empty xs ≡ true
none-empty [] h = refl
none-empty (x ∷ xs) h = absurd (h x (rw (equal_self x)))

-- ---- tests on members

pub find-none : (p : ℕ → Bool) (xs : List ℕ) (x : ℕ) → find p xs ≡ None → has x xs ≡ true → p x ≡ false
find-none p [] x e h = cc
find-none p (y ∷ ys) x e h = by_case (p y) refl e (either _ _ h) (find-none p ys x)
  where
    by_case : (b : Bool) → p y ≡ b → cond b (Some y) (find p ys) ≡ None → (x == y ≡ true) ⊎ (has x ys ≡ true) → (find p ys ≡ None → has x ys ≡ true → p x ≡ false) → p x ≡ false
    by_case true k m n r = cc
    by_case false k m (inl n) r = rw (eqb-true x y n) k
    by_case false k m (inr n) r = r m n

pub none-find : (p : ℕ → Bool) (xs : List ℕ) → ((x : ℕ) → has x xs ≡ true → p x ≡ false) → find p xs ≡ None
none-find p [] h = refl
none-find p (y ∷ ys) h = let e : p y ≡ false = h y (rw (equal_self y)) in rw e (none-find p ys (λ x k. h x (rw k (or_true (x == y)))))

pub find-some : (p : ℕ → Bool) (xs : List ℕ) (x : ℕ) → find p xs ≡ Some x → (has x xs ≡ true) × (p x ≡ true)
find-some p [] x e = cc
find-some p (y ∷ ys) x e = by_case (p y) refl e (find-some p ys x)
  where
    by_case : (b : Bool) → p y ≡ b → cond b (Some y) (find p ys) ≡ Some x → (find p ys ≡ Some x → (has x ys ≡ true) × (p x ≡ true)) → (x == y || has x ys ≡ true) × (p x ≡ true)
    by_case true k m r = let s : y ≡ x = cc in (rw (s, equal_self x), rw (← s) k)
    by_case false k m r = let q = r m in (rw q.0 (or_true (x == y)), q.1)

pub list_all-has : (p : ℕ → Bool) (xs : List ℕ) (x : ℕ) → list_all p xs ≡ true → has x xs ≡ true → p x ≡ true
list_all-has p [] x a h = cc
list_all-has p (y ∷ ys) x a h = let q = both (p y) (list_all p ys) a in join (either _ _ h) q.0 (list_all-has p ys x q.1)
  where
    join : (x == y ≡ true) ⊎ (has x ys ≡ true) → p y ≡ true → (has x ys ≡ true → p x ≡ true) → p x ≡ true
    join (inl m) k r = rw (eqb-true x y m) k
    join (inr m) k r = r m

pub has-all : (p : ℕ → Bool) (xs : List ℕ) → ((x : ℕ) → has x xs ≡ true → p x ≡ true) → list_all p xs ≡ true
has-all p [] h = refl
has-all p (x ∷ xs) h = rw (h x (rw (equal_self x))) (has-all p xs (λ y k. h y (rw k (or_true (y == x)))))

pub any-none : (p : ℕ → Bool) (xs : List ℕ) (x : ℕ) → list_any p xs ≡ false → has x xs ≡ true → p x ≡ false
any-none p [] x a h = cc
any-none p (y ∷ ys) x a h = let q = neither (p y) (list_any p ys) a in split (either (x == y) _ h) q.0 (any-none p ys x q.1)
  where
    split : (x == y ≡ true) ⊎ (has x ys ≡ true) → p y ≡ false → (has x ys ≡ true → p x ≡ false) → p x ≡ false
    split (inl m) k r = rw (eqb-true x y m) k
    split (inr m) k r = r m

pub none-any : (p : ℕ → Bool) (xs : List ℕ) → ((x : ℕ) → has x xs ≡ true → p x ≡ false) → list_any p xs ≡ false
none-any p [] h = refl
none-any p (x ∷ xs) h = rw (h x (rw (equal_self x) refl)) (none-any p xs (λ y m. h y (rw m (or_true (y == x)))))

pub first-append : (t : ℕ) (xs ys : List ℕ) → is t (first xs) ≡ true → is t (first (xs ++ ys)) ≡ true
first-append t [] ys h = cc
first-append t (x ∷ xs) ys h = h

-- one more element
pub length-one_more : (xs : List ℕ) (v : ℕ) → length (xs ++ v ∷ []) ≡ length xs + 1
length-one_more xs v = length-append xs (v ∷ [])

pub map-back : (f : ℕ → ℕ) (xs : List ℕ) (z : ℕ) → has z (map f xs) ≡ true → (x : ℕ) × (has x xs ≡ true) × (z ≡ f x)
map-back f [] z h = cc
map-back f (x ∷ xs) z h = split (either (z == f x) _ h) (map-back f xs z)
  where
    split : (z == f x ≡ true) ⊎ (has z (map f xs) ≡ true) → (has z (map f xs) ≡ true → (y : ℕ) × (has y xs ≡ true) × (z ≡ f y)) → (y : ℕ) × (has y (x ∷ xs) ≡ true) × (z ≡ f y)
    split (inl k) r = (x, rw (equal_self x), eqb-true z (f x) k)
    split (inr k) r = let q = r k in (q.0, rw q.1 (or_true (q.0 == x)), q.2)

pub length-mapped : (f : ℕ → ℕ) (xs : List ℕ) → length (map f xs) ≡ length xs
length-mapped f [] = refl
length-mapped f (x ∷ xs) = ap suc (length-mapped f xs)

pub none-is : (o : Option ℕ) → is_none o ≡ true → o ≡ None
none-is None h = refl
none-is (Some u) h = cc
