-- Links of a ring that change where a number joins or leaves.
use Rattle.std.proofs.Common.{◌≡◌, ℕ, zero, suc, ◌≤◌, Bool, true, false, ◌||◌, ◌⊎◌, inl, inr, eqb-true, List, [], ◌∷◌, ◌++◌, length, slice_index, refl, sym, ap, ◌∙◌, arith}
use Rattle.std.specs.Prelude.{◌==◌, if◌then◌else◌}
use Rattle.rt_rules.specs.Distinct.{IsDistinct}
use Rattle.rt_rules.specs.Numbers.{has, without}
use Rattle.rt_rules.proofs.PlacingLaws.{or_true}
use Rattle.rt_rules.proofs.MemberLaws.{equal_self, turned}
use Rattle.rt_rules.proofs.BoolLaws.{neither}
use Rattle.key_queue.specs.Ring.{IsLinked, ring_from}

-- what is a member is no number that is not one
pub other : (x y : ℕ) (ys : List ℕ) → has x ys ≡ false → has y ys ≡ true → x == y ≡ false
other x y ys h k = by_case (x == y) refl
  where
    by_case : (b : Bool) → x == y ≡ b → b ≡ false
    by_case false e = refl
    by_case true e = let s : x ≡ y = eqb-true x y e in let m : has x ys ≡ true = ap (λ n. has n ys) s ∙ k in cc

-- the last of a list, or what stands before it
abbrev pub last_of : ℕ → List ℕ → ℕ
last_of p [] = p
last_of p (x ∷ xs) = last_of x xs

pub has-last_of : (p : ℕ) (xs : List ℕ) → has (last_of p xs) (p ∷ xs) ≡ true
has-last_of p [] = rw (equal_self p)
has-last_of p (x ∷ xs) = ap (λ b. last_of x xs == p || b) (has-last_of x xs) ∙ or_true (last_of x xs == p)

pub previous-room : (next previous : ℕ → ℕ) (room p : ℕ) (xs : List ℕ) → IsLinked next previous room p xs → previous room ≡ last_of p xs
previous-room next previous room p [] h = h.1
previous-room next previous room p (x ∷ xs) h = previous-room next previous room x xs h.2

-- a walk along the links finds the list
pub ring_from-linked : (next : List ℕ) (previous : ℕ → ℕ) (room p n : ℕ) (xs : List ℕ) → IsLinked (slice_index next) previous room p xs → has room xs ≡ false → length xs ≤ n → ring_from next room n (slice_index next p) ≡ xs
ring_from-linked next previous room p zero [] h away few = refl
ring_from-linked next previous room p zero (x ∷ xs) h away few = absurd (omega arith)
ring_from-linked next previous room p (suc n) [] h away few = rw (h.0, equal_self room)
ring_from-linked next previous room p (suc n) (x ∷ xs) h away few =
    let q = neither (room == x) (has room xs) away in
    rw (h.0, turned x room, q.0) (ap (λ (ys : List ℕ). x ∷ ys) (ring_from-linked next previous room x n xs h.2 q.1 (omega arith)))

-- links that are the same at all positions of a list
framed : (next previous next' previous' : ℕ → ℕ) (room p : ℕ) (xs : List ℕ) → ((k : ℕ) → has k (p ∷ xs) ≡ true → next' k ≡ next k) → ((k : ℕ) → has k xs ≡ true → previous' k ≡ previous k) → previous' room ≡ previous room → IsLinked next previous room p xs → IsLinked next' previous' room p xs
framed next previous next' previous' room p [] same same' end h = (same p (rw (equal_self p)) ∙ h.0, end ∙ h.1)
framed next previous next' previous' room p (x ∷ xs) same same' end h =
    (same p (rw (equal_self p)) ∙ h.0, same' x (rw (equal_self x)) ∙ h.1, framed next previous next' previous' room x xs (λ k m. same k (ap (λ b. k == p || b) m ∙ or_true (k == p))) (λ k m. same' k (ap (λ b. k == x || b) m ∙ or_true (k == x))) end h.2)

module _ (next previous next' previous' : ℕ → ℕ) (room t : ℕ) where
  -- a number joins after the last
  pub linked-push : (l p : ℕ) (xs : List ℕ) → l ≡ last_of p xs → IsLinked next previous room p xs → has p xs ≡ false → IsDistinct xs → has room xs ≡ false → p == t ≡ false → has t xs ≡ false
      → next' l ≡ t → next' t ≡ room → previous' t ≡ l → previous' room ≡ t
      → ((k : ℕ) → k == l ≡ false → k == t ≡ false → next' k ≡ next k) → ((k : ℕ) → k == t ≡ false → k == room ≡ false → previous' k ≡ previous k)
      → IsLinked next' previous' room p (xs ++ t ∷ [])
  linked-push l p [] is h apart once away np out nl nt pt pr same same' = (ap next' (sym is) ∙ nl, pt ∙ is, (nt, pr))
  linked-push l p (x ∷ xs) is h apart once away np out nl nt pt pr same same' =
      let last : has l (x ∷ xs) ≡ true = ap (λ n. has n (x ∷ xs)) is ∙ has-last_of x xs in
      let not_last : p == l ≡ false = other p l (x ∷ xs) apart last in
      let q = neither (room == x) (has room xs) away in
      let o = neither (t == x) (has t xs) out in
      (same p not_last np ∙ h.0, same' x (turned x t ∙ o.0) (turned x room ∙ q.0) ∙ h.1, linked-push l x xs is h.2 once.0 once.1 q.1 (turned x t ∙ o.0) o.1 nl nt pt pr same same')

  -- the positions beside a member
  pub has-previous : (p : ℕ) (xs : List ℕ) → IsLinked next previous room p xs → has t xs ≡ true → has (previous t) (p ∷ xs) ≡ true
  has-previous p [] h k = cc
  has-previous p (x ∷ xs) h k = by_case (t == x) refl k (has-previous x xs h.2)
    where
      by_case : (b : Bool) → t == x ≡ b → b || has t xs ≡ true → (has t xs ≡ true → has (previous t) (x ∷ xs) ≡ true) → previous t == p || has (previous t) (x ∷ xs) ≡ true
      by_case true e m rest = let s : t ≡ x = eqb-true t x e in let q : previous t ≡ p = ap previous s ∙ h.1 in rw (q, equal_self p)
      by_case false e m rest = ap (λ b. previous t == p || b) (rest m) ∙ or_true (previous t == p)

  pub has-next : (p : ℕ) (xs : List ℕ) → IsLinked next previous room p xs → has t xs ≡ true → (next t ≡ room) ⊎ (has (next t) xs ≡ true)
  has-next p [] h k = cc
  has-next p (x ∷ []) h k = by_case (t == x) refl k
    where
      by_case : (b : Bool) → t == x ≡ b → b || false ≡ true → (next t ≡ room) ⊎ (has (next t) (x ∷ []) ≡ true)
      by_case true e m = let s : t ≡ x = eqb-true t x e in inl (ap next s ∙ h.2.0)
      by_case false e m = cc
  has-next p (x ∷ y ∷ ys) h k = by_case (t == x) refl k (has-next x (y ∷ ys) h.2)
    where
      by_case : (b : Bool) → t == x ≡ b → b || has t (y ∷ ys) ≡ true → (has t (y ∷ ys) ≡ true → (next t ≡ room) ⊎ (has (next t) (y ∷ ys) ≡ true)) → (next t ≡ room) ⊎ (has (next t) (x ∷ y ∷ ys) ≡ true)
      by_case true e m rest = let s : t ≡ x = eqb-true t x e in let q : next t ≡ y = ap next s ∙ h.2.0 in inr (rw (q, equal_self y) (or_true (y == x)))
      by_case false e m rest = further (rest m)
        where
          further : (next t ≡ room) ⊎ (has (next t) (y ∷ ys) ≡ true) → (next t ≡ room) ⊎ (has (next t) (x ∷ y ∷ ys) ≡ true)
          further (inl q) = inl q
          further (inr q) = inr (ap (λ b. next t == x || b) q ∙ or_true (next t == x))

  -- a member leaves
  pub linked-without : (p : ℕ) (xs : List ℕ) → IsLinked next previous room p xs → has p xs ≡ false → IsDistinct xs → has room xs ≡ false → has t xs ≡ true
      → next' (previous t) ≡ next t → previous' (next t) ≡ previous t
      → ((k : ℕ) → k == previous t ≡ false → next' k ≡ next k) → ((k : ℕ) → k == next t ≡ false → previous' k ≡ previous k)
      → IsLinked next' previous' room p (without t xs)
  linked-without p [] h apart once away there nb pa same same' = cc
  linked-without p (x ∷ xs) h apart once away there nb pa same same' = by_case (t == x) refl there (λ m. linked-without x xs h.2 once.0 once.1 (neither (room == x) (has room xs) away).1 m nb pa same same')
    where
      joined : (zs : List ℕ) → t ≡ x → IsLinked next previous room x zs → has p (x ∷ zs) ≡ false → has x zs ≡ false → IsDistinct zs → has room zs ≡ false → IsLinked next' previous' room p zs
      joined [] s l a o d r =
          let b : previous t ≡ p = ap previous s ∙ h.1 in
          let n : next t ≡ room = ap next s ∙ l.0 in
          (ap next' (sym b) ∙ nb ∙ n, ap previous' (sym n) ∙ pa ∙ b)
      joined (y ∷ ys) s l a o d r =
          let b : previous t ≡ p = ap previous s ∙ h.1 in
          let n : next t ≡ y = ap next s ∙ l.0 in
          let q = neither (p == x) (has p (y ∷ ys)) a in
          let z = neither (room == y) (has room ys) r in (
            ap next' (sym b) ∙ nb ∙ n,
            ap previous' (sym n) ∙ pa ∙ b,
            framed next previous next' previous' room y ys
                (λ k m. same k (ap (λ i. k == i) b ∙ turned k p ∙ other p k (y ∷ ys) q.1 m))
                (λ k m. same' k (ap (λ i. k == i) n ∙ turned k y ∙ other y k ys d.0 m))
                (same' room (ap (λ i. room == i) n ∙ z.0)) l.2,
          )

      kept : t == x ≡ false → has t xs ≡ true → IsLinked next' previous' room x (without t xs) → IsLinked next' previous' room p (x ∷ without t xs)
      kept e m rest =
          let not_before : p == previous t ≡ false = other p (previous t) (x ∷ xs) apart (has-previous x xs h.2 m) in
          let z = neither (room == x) (has room xs) away in
          let not_after : x == next t ≡ false = after (has-next x xs h.2 m) z.0 in
          (same p not_before ∙ h.0, same' x not_after ∙ h.1, rest)
        where
          after : (next t ≡ room) ⊎ (has (next t) xs ≡ true) → room == x ≡ false → x == next t ≡ false
          after (inl q) r = ap (λ i. x == i) q ∙ turned x room ∙ r
          after (inr q) r = other x (next t) xs once.0 q

      by_case : (b : Bool) → t == x ≡ b → b || has t xs ≡ true → (has t xs ≡ true → IsLinked next' previous' room x (without t xs)) → IsLinked next' previous' room p (if b then xs else (x ∷ without t xs))
      by_case true e m rest = joined xs (eqb-true t x e) h.2 apart once.0 once.1 (neither (room == x) (has room xs) away).1
      by_case false e m rest = kept e m (rest m)
