-- The order of keys, the highest of them, and the foremost of a list.
use Rattle.std.proofs.Common.{Bool, List, [], ap, arith, cond, eqb-true, false, inl, inr, map, not, refl, sym, true, ℕ, ◌&&◌, ◌||◌, ◌∙◌, ◌∷◌, ◌≡◌, ◌⊎◌}
use Rattle.std.proofs.lemmas.Bool.Decides.{nat_tests}
use Rattle.std.specs.List.{find, list_all}
use Rattle.std.specs.Prelude.{None, Some, if◌then◌else◌, nat_lt, ◌==◌}
use Rattle.rt_rules.specs.KeyOrder.{higher}
use Rattle.rt_rules.specs.OrderLaws.{higher-irreflexive, higher-total as same-key, higher-transitive}
use Rattle.rt_rules.specs.declared.Key.{Key}
use Rattle.rt_rules.specs.Keys.{highest}
use Rattle.rt_rules.specs.Numbers.{foremost, has}
use Rattle.rt_rules.proofs.BoolLaws.{both, clash, either, not_true, or_true, unless}
use Rattle.rt_rules.proofs.MemberLaws.{equal_self, find-none, find-some, has-all, list_all-has, turned}

abbrev lex : ℕ → ℕ → ℕ → ℕ → ℕ → ℕ → Bool
lex a b c x y z = nat_lt a x || a == x && (nat_lt b y || b == y && nat_lt c z)

-- a is not above x, but above u: x is above u
lex-mixed : (a b c x y z u v w : ℕ) → lex a b c x y z ≡ false → lex a b c u v w ≡ true → lex x y z u v w ≡ true
lex-mixed a b c x y z u v w h k = grind (arith, nat_tests)

lex-total : (a b c x y z : ℕ) → c == z ≡ false → lex a b c x y z ≡ false → lex x y z a b c ≡ true
lex-total a b c x y z h k = grind (arith, nat_tests)

-- i is not above j, but above k: j is above k
pub higher-mixed : (i j k : Key) → higher i j ≡ false → higher i k ≡ true → higher j k ≡ true
higher-mixed i j k h m = lex-mixed i.band i.major i.minor j.band j.major j.minor k.band k.major k.minor h m

-- of two keys with different last parts one is above the other
pub higher-total : (i j : Key) → i.minor == j.minor ≡ false → higher i j ≡ false → higher j i ≡ true
higher-total i j h k = lex-total i.band i.major i.minor j.band j.major j.minor h k

-- x is above y, and z is not: x is above z
lex-below : (a b c x y z u v w : ℕ) → lex a b c x y z ≡ true → lex u v w x y z ≡ false → lex a b c u v w ≡ true
lex-below a b c x y z u v w h k = grind (arith, nat_tests)

-- i is above j, and k is not: i is above k
pub higher-below : (i j k : Key) → higher i j ≡ true → higher k j ≡ false → higher i k ≡ true
higher-below i j k h m = lex-below i.band i.major i.minor j.band j.major j.minor k.band k.major k.minor h m

-- no key of a falling row is above an earlier one
pub higher-falls : (i j k : Key) → higher j i ≡ false → higher k j ≡ false → higher k i ≡ false
higher-falls i j k h m = unless _ (λ n. clash _ (higher-below k i j n h) m)

-- a key that is not above one is not above the highest of it and others
pub highest-above : (k j : Key) (js : List Key) → higher k j ≡ false → higher k (highest j js) ≡ false
highest-above k j [] h = h
highest-above k j (i ∷ is) h = highest-above k (if higher i j then i else j) is (by_case (higher i j) refl)
  where
    by_case : (b : Bool) → higher i j ≡ b → higher k (if b then i else j) ≡ false
    by_case true e = unless _ (λ m. clash _ (higher-transitive k i j m e) h)
    by_case false e = h

-- none of the keys is above the highest
pub highest-of : (f : ℕ → Key) (t : ℕ) (us : List ℕ) (j : Key) → has t us ≡ true → higher (f t) (highest j (map f us)) ≡ false
highest-of f t [] j h = cc
highest-of f t (u ∷ us) j h = split (either (t == u) (has t us) h) (λ k. highest-of f t us (if higher (f u) j then f u else j) k)
  where
    at_head : (b : Bool) → higher (f u) j ≡ b → higher (f u) (if b then f u else j) ≡ false
    at_head true e = higher-irreflexive (f u)
    at_head false e = e

    split : (t == u ≡ true) ⊎ (has t us ≡ true) → (has t us ≡ true → higher (f t) (highest (if higher (f u) j then f u else j) (map f us)) ≡ false) → higher (f t) (highest (if higher (f u) j then f u else j) (map f us)) ≡ false
    split (inl k) r = rw (eqb-true t u k) (highest-above (f u) (if higher (f u) j then f u else j) (map f us) (at_head (higher (f u) j) refl))
    split (inr k) r = r k

-- a key that is above none of them is not below the highest
pub highest-below : (f : ℕ → Key) (us : List ℕ) (j k : Key) → higher j k ≡ false → ((u : ℕ) → has u us ≡ true → higher (f u) k ≡ false) → higher (highest j (map f us)) k ≡ false
highest-below f [] j k own each = own
highest-below f (u ∷ us) j k own each = highest-below f us (if higher (f u) j then f u else j) k (by_case (higher (f u) j)) (λ v h. each v (ap (λ b. v == u || b) h ∙ or_true (v == u)))
  where
    by_case : (b : Bool) → higher (if b then f u else j) k ≡ false
    by_case true = each u (rw (equal_self u))
    by_case false = own

-- the highest is the one that is among them and is below none
pub highest-is : (f : ℕ → Key) (us : List ℕ) (j k : Key) → higher j k ≡ false → ((u : ℕ) → has u us ≡ true → higher (f u) k ≡ false) → (k ≡ j) ⊎ ((u : ℕ) × (has u us ≡ true) × (k ≡ f u)) → k ≡ highest j (map f us)
highest-is f us j k own each among = same-key k (highest j (map f us)) (top among) (highest-below f us j k own each)
  where
    top : (k ≡ j) ⊎ ((u : ℕ) × (has u us ≡ true) × (k ≡ f u)) → higher k (highest j (map f us)) ≡ false
    top (inl e) = highest-above k j (map f us) (ap (λ i. higher i j) e ∙ higher-irreflexive j)
    top (inr q) = ap (λ i. higher i (highest j (map f us))) q.2 ∙ highest-of f q.0 us j q.1

-- ---- the foremost

-- an order by which of two different numbers one comes before the other
pub record IsOrder (before : ℕ → ℕ → Bool) : Type 0 where
  pub trans : (x y z : ℕ) → before x y ≡ true → before y z ≡ true → before x z ≡ true
  pub total : (x y : ℕ) → x == y ≡ false → before x y ≡ false → before y x ≡ true

leads-all : (before : ℕ → ℕ → Bool) → IsOrder before → (x : ℕ) (ys : List ℕ) → (b : ℕ) × (has b (x ∷ ys) ≡ true) × ((y : ℕ) → has y (x ∷ ys) ≡ true → b == y || before b y ≡ true)
leads-all before order x [] = (x, rw (equal_self x), λ y h. same y h)
  where
    same : (y : ℕ) → has y (x ∷ []) ≡ true → x == y || before x y ≡ true
    same y h = split (either (y == x) false h)
      where
        split : (y == x ≡ true) ⊎ (false ≡ true) → x == y || before x y ≡ true
        split (inl k) = rw (eqb-true y x k, equal_self x)
        split (inr k) = cc
leads-all before order x (y ∷ ys) = by_case (before y x) refl (leads-all before order (if before y x then y else x) ys)
  where
    pair : (w : ℕ) → (w ≡ x) ⊎ (w ≡ y) → has w (x ∷ y ∷ ys) ≡ true
    pair w (inl e) = rw (e, equal_self x)
    pair w (inr e) = rw (e, equal_self y) (or_true (y == x))

    later : (w : ℕ) → has w ys ≡ true → has w (x ∷ y ∷ ys) ≡ true
    later w h = rw (h, or_true (w == y)) (or_true (w == x))

    three : (w : ℕ) → has w (x ∷ y ∷ ys) ≡ true → (w ≡ x) ⊎ ((w ≡ y) ⊎ (has w ys ≡ true))
    three w h = split (either (w == x) _ h)
      where
        again : (w == y ≡ true) ⊎ (has w ys ≡ true) → (w ≡ x) ⊎ ((w ≡ y) ⊎ (has w ys ≡ true))
        again (inl k) = inr (inl (eqb-true w y k))
        again (inr k) = inr (inr k)

        split : (w == x ≡ true) ⊎ ((w == y || has w ys) ≡ true) → (w ≡ x) ⊎ ((w ≡ y) ⊎ (has w ys ≡ true))
        split (inl k) = inl (eqb-true w x k)
        split (inr k) = again (either (w == y) (has w ys) k)

    -- the one that leads the winner leads the loser
    chain : (b win lose : ℕ) → b == win || before b win ≡ true → (win == lose || before win lose ≡ true) → b == lose || before b lose ≡ true
    chain b win lose h k = split (either (b == win) _ h) (either (win == lose) _ k)
      where
        split : (b == win ≡ true) ⊎ (before b win ≡ true) → (win == lose ≡ true) ⊎ (before win lose ≡ true) → b == lose || before b lose ≡ true
        split (inl m) q = let e : b ≡ win = eqb-true b win m in rw e k
        split (inr m) (inl n) = let e : win ≡ lose = eqb-true win lose n in rw (← e) (rw m (or_true (b == win)))
        split (inr m) (inr n) = rw (order.trans b win lose m n) (or_true (b == lose))

    loses : before y x ≡ false → x == y || before x y ≡ true
    loses e = by_eq (x == y) refl
      where
        by_eq : (c : Bool) → x == y ≡ c → c || before x y ≡ true
        by_eq true m = refl
        by_eq false m = order.total y x (turned y x ∙ m) e

    by_case : (c : Bool) → before y x ≡ c → ((b : ℕ) × (has b ((if c then y else x) ∷ ys) ≡ true) × ((w : ℕ) → has w ((if c then y else x) ∷ ys) ≡ true → b == w || before b w ≡ true)) → (b : ℕ) × (has b (x ∷ y ∷ ys) ≡ true) × ((w : ℕ) → has w (x ∷ y ∷ ys) ≡ true → b == w || before b w ≡ true)
    by_case true e r = (r.0, here (either (r.0 == y) _ r.1), λ w h. all w (three w h))
      where
        here : (r.0 == y ≡ true) ⊎ (has r.0 ys ≡ true) → has r.0 (x ∷ y ∷ ys) ≡ true
        here (inl k) = pair r.0 (inr (eqb-true r.0 y k))
        here (inr k) = later r.0 k

        top : r.0 == y || before r.0 y ≡ true
        top = r.2 y (rw (equal_self y))

        all : (w : ℕ) → (w ≡ x) ⊎ ((w ≡ y) ⊎ (has w ys ≡ true)) → r.0 == w || before r.0 w ≡ true
        all w (inl k) = rw k (chain r.0 y x top (rw e (or_true (y == x))))
        all w (inr (inl k)) = rw k top
        all w (inr (inr k)) = r.2 w (rw k (or_true (w == y)))
    by_case false e r = (r.0, here (either (r.0 == x) _ r.1), λ w h. all w (three w h))
      where
        here : (r.0 == x ≡ true) ⊎ (has r.0 ys ≡ true) → has r.0 (x ∷ y ∷ ys) ≡ true
        here (inl k) = pair r.0 (inl (eqb-true r.0 x k))
        here (inr k) = later r.0 k

        top : r.0 == x || before r.0 x ≡ true
        top = r.2 x (rw (equal_self x))

        all : (w : ℕ) → (w ≡ x) ⊎ ((w ≡ y) ⊎ (has w ys ≡ true)) → r.0 == w || before r.0 w ≡ true
        all w (inl k) = rw k top
        all w (inr (inl k)) = rw k (chain r.0 x y top (loses e))
        all w (inr (inr k)) = r.2 w (rw k (or_true (w == x)))

-- numbers in the order of their keys, the lower first where neither key is higher
pub keys-order : (key : ℕ → Key) → IsOrder (λ x y. higher (key x) (key y) || not (higher (key y) (key x)) && nat_lt x y)
keys-order key = record {
  trans = λ x y z h k. trans (key x) (key y) (key z) x y z (either (higher (key x) (key y)) _ h) (either (higher (key y) (key z)) _ k);
  total = λ x y ne h. total (higher (key x) (key y)) (higher (key y) (key x)) x y ne h;
}
  where
    total : (a b : Bool) (x y : ℕ) → x == y ≡ false → a || not b && nat_lt x y ≡ false → b || not a && nat_lt y x ≡ true
    total true b x y ne h = cc
    total false true x y ne h = refl
    total false false x y ne h = grind (arith, nat_tests)

    less : (x y z : ℕ) → nat_lt x y ≡ true → nat_lt y z ≡ true → nat_lt x z ≡ true
    less x y z h k = grind (arith, nat_tests)

    trans : (i j k : Key) (x y z : ℕ) → (higher i j ≡ true) ⊎ (not (higher j i) && nat_lt x y ≡ true) → (higher j k ≡ true) ⊎ (not (higher k j) && nat_lt y z ≡ true) → higher i k || not (higher k i) && nat_lt x z ≡ true
    trans i j k x y z (inl a) (inl b) = rw (higher-transitive i j k a b)
    trans i j k x y z (inl a) (inr b) = rw (higher-below i j k a (not_true _ (both _ _ b).0))
    trans i j k x y z (inr a) (inl b) = rw (higher-mixed j i k (not_true _ (both _ _ a).0) b)
    trans i j k x y z (inr a) (inr b) = rw (higher-falls i j k (not_true _ (both (not (higher j i)) (nat_lt x y) a).0) (not_true _ (both (not (higher k j)) (nat_lt y z) b).0), less x y z (both (not (higher j i)) (nat_lt x y) a).1 (both (not (higher k j)) (nat_lt y z) b).1) (or_true (higher i k))

-- a list that is not empty has a foremost
pub foremost-none : (before : ℕ → ℕ → Bool) → IsOrder before → (xs : List ℕ) → foremost before xs ≡ None → xs ≡ []
foremost-none before order [] h = refl
foremost-none before order (x ∷ xs) h =
    let b = leads-all before order x xs in
    let no : list_all (λ y. b.0 == y || before b.0 y) (x ∷ xs) ≡ false = find-none (λ w. list_all (λ y. w == y || before w y) (x ∷ xs)) (x ∷ xs) b.0 h b.1 in
    absurd (clash _ (has-all (λ y. b.0 == y || before b.0 y) (x ∷ xs) b.2) no)

-- the foremost is a member that comes before each other one
pub foremost-some : (before : ℕ → ℕ → Bool) (xs : List ℕ) (x : ℕ) → foremost before xs ≡ Some x → (has x xs ≡ true) × ((y : ℕ) → has y xs ≡ true → x == y || before x y ≡ true)
foremost-some before xs x h = let f = find-some (λ w. list_all (λ y. w == y || before w y) xs) xs x h in (f.0, λ y k. list_all-has (λ z. x == z || before x z) xs y f.1 k)

-- the only member that passes a test is found
find-only : (p : ℕ → Bool) (xs : List ℕ) (x : ℕ) → has x xs ≡ true → p x ≡ true → ((y : ℕ) → has y xs ≡ true → p y ≡ true → y ≡ x) → find p xs ≡ Some x
find-only p [] x h pass only = cc
find-only p (y ∷ ys) x h pass only = by_case (p y) refl (either (x == y) (has x ys) h) (λ m. find-only p ys x m pass (λ z k. only z (rw k (or_true (z == y)))))
  where
    by_case : (b : Bool) → p y ≡ b → (x == y ≡ true) ⊎ (has x ys ≡ true) → (has x ys ≡ true → find p ys ≡ Some x) → cond b (Some y) (find p ys) ≡ Some x
    by_case true e m rest = ap (λ (n : ℕ). Some n) (only y (rw (equal_self y)) e)
    by_case false e (inl m) rest = let s : x ≡ y = eqb-true x y m in let q : p y ≡ true = ap p (sym s) ∙ pass in cc
    by_case false e (inr m) rest = rest m

-- the member that comes before each other one is the foremost, where no two come before each other
pub foremost-is : (before : ℕ → ℕ → Bool) (xs : List ℕ) (x : ℕ) → ((y z : ℕ) → before y z ≡ true → before z y ≡ false) → has x xs ≡ true → ((y : ℕ) → has y xs ≡ true → x == y || before x y ≡ true) → foremost before xs ≡ Some x
foremost-is before xs x strict there ahead = find-only (λ y. list_all (λ z. y == z || before y z) xs) xs x there (has-all (λ z. x == z || before x z) xs ahead) only
  where
    only : (y : ℕ) → has y xs ≡ true → list_all (λ z. y == z || before y z) xs ≡ true → y ≡ x
    only y h all = join (either (y == x) (before y x) (list_all-has (λ z. y == z || before y z) xs x all there)) (either (x == y) (before x y) (ahead y h))
      where
        join : (y == x ≡ true) ⊎ (before y x ≡ true) → (x == y ≡ true) ⊎ (before x y ≡ true) → y ≡ x
        join (inl m) k = eqb-true y x m
        join (inr m) (inl k) = sym (eqb-true x y k)
        join (inr m) (inr k) = let n = strict y x m in cc

-- the highest key is that of the first or of one of the others
pub highest-owner : (f : ℕ → Key) (x : ℕ) (us : List ℕ) → (y : ℕ) × ((y ≡ x) ⊎ (has y us ≡ true)) × (highest (f x) (map f us) ≡ f y)
highest-owner f x [] = (x, inl refl, refl)
highest-owner f x (v ∷ vs) = by_case (higher (f v) (f x)) (highest-owner f v vs) (highest-owner f x vs)
  where
    at_head : (y : ℕ) → (y ≡ v) ⊎ (has y vs ≡ true) → has y (v ∷ vs) ≡ true
    at_head y (inl e) = rw (e, equal_self v)
    at_head y (inr h) = rw h (or_true (y == v))

    later : (y : ℕ) → (y ≡ x) ⊎ (has y vs ≡ true) → (y ≡ x) ⊎ (has y (v ∷ vs) ≡ true)
    later y (inl e) = inl e
    later y (inr h) = inr (rw h (or_true (y == v)))

    by_case : (b : Bool) → (y : ℕ) × ((y ≡ v) ⊎ (has y vs ≡ true)) × (highest (f v) (map f vs) ≡ f y) → (y : ℕ) × ((y ≡ x) ⊎ (has y vs ≡ true)) × (highest (f x) (map f vs) ≡ f y) → (y : ℕ) × ((y ≡ x) ⊎ (has y (v ∷ vs) ≡ true)) × (highest (if b then f v else f x) (map f vs) ≡ f y)
    by_case true p q = (p.0, inr (at_head p.0 p.1), p.2)
    by_case false p q = (q.0, later q.0 q.1, q.2)
