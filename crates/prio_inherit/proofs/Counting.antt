-- How many tasks wait for each, while one begins or ceases to wait.
use Rattle.std.proofs.Common.{◌≡◌, ℕ, zero, suc, ◌+◌, ◌<◌, ◌≤◌, ◌^◌, Bool, true, false, inl, eqb-true, List, [], ◌∷◌, length, set, replicate, refl, sym, ap, ◌∙◌, subst, arith, length-set, get_or-set_same, get_or-set_other}
use Rattle.std.specs.Prelude.{◌==◌, Option, None, Some, if◌then◌else◌, slice_index}
use Rattle.std.proofs.lemmas.List.{get_or-replicate, length-replicate}
use Rattle.rt_rules.specs.declared.Key.{Key}
use Rattle.rt_rules.specs.OrderLaws.{higher-irreflexive}
use Rattle.rt_rules.specs.Numbers.{is}
use Rattle.rt_rules.proofs.BoolLaws.{clash}
use Rattle.rt_rules.proofs.MemberLaws.{equal_self}
use Rattle.prio_inherit.specs.Counts.{count_of, IsCounted}
use Rattle.prio_inherit.specs.Local.{IsTop}
use Rattle.prio_inherit.specs.Waits.{next_of}

abbrev one : ℕ → Option ℕ → ℕ
one t o = if is t o then 1 else 0

one-few : (t : ℕ) (o : Option ℕ) → one t o ≤ 1
one-few t o = elim (is t o) as (λ b. (if b then 1 else 0) ≤ 1) [ true ↦ omega arith | false ↦ omega arith ]

one-self : (t : ℕ) → one t (Some t) ≡ 1
one-self t = rw (equal_self t)

one-other : (t h : ℕ) → t == h ≡ false → one t (Some h) ≡ 0
one-other t h e = rw e

swapped : (a b c : ℕ) → a + c + b ≡ b + c + a
swapped a b c = omega arith

moved : (a b c d e : ℕ) → b + c ≡ d + e → a + b + c ≡ a + d + e
moved a b c d e h = omega arith

-- one position changes
count-set : (os : List (Option ℕ)) (i t : ℕ) (o : Option ℕ) → i < length os → count_of (set os i o) t + one t (next_of os i) ≡ count_of os t + one t o
count-set [] i t o low = absurd (omega arith)
count-set (p ∷ os) zero t o low = swapped (one t o) (one t p) (count_of os t)
count-set (p ∷ os) (suc i) t o low = moved (one t p) (count_of (set os i o) t) (one t (next_of os i)) (count_of os t) (one t o) (count-set os i t o (omega arith))

more : (a b : ℕ) → 1 ≤ b → 1 ≤ a + b
more a b h = omega arith

within : (a b n : ℕ) → a ≤ 1 → b ≤ n → a + b ≤ n + 1
within a b n h k = omega arith

pub count-found : (os : List (Option ℕ)) (u t : ℕ) → next_of os u ≡ Some t → 1 ≤ count_of os t
count-found [] u t e = cc
count-found (p ∷ os) zero t e = rw (e, equal_self t) (omega arith)
count-found (p ∷ os) (suc u) t e = more (one t p) (count_of os t) (count-found os u t e)

count-few : (os : List (Option ℕ)) (t : ℕ) → count_of os t ≤ length os
count-few [] t = omega arith
count-few (p ∷ os) t = subst (λ n. one t p + count_of os t ≤ n) (omega arith) (within (one t p) (count_of os t) (length os) (one-few t p) (count-few os t))

-- where no task waits for it, its key is its base key
pub top-alone : (nexts : List (Option ℕ)) (counts : List ℕ) (room : ℕ) (key : ℕ → Key) (base : Key) (t : ℕ) → IsCounted nexts counts → t < length nexts → slice_index counts t ≡ 0 → IsTop room (next_of nexts) key base t base
top-alone nexts counts room key base t ok below none = record {
  own = higher-irreflexive base;
  waits = λ u low e. absurd (let f : 1 ≤ count_of nexts t = count-found nexts u t e in omega (arith, ok.counted t below));
  among = inl refl;
}

module _ (nexts : List (Option ℕ)) (counts : List ℕ) (ok : IsCounted nexts counts) (t h : ℕ) (below : t < length nexts) (low : h < length nexts) where
  pub count-some : next_of nexts t ≡ Some h → 1 ≤ slice_index counts h
  count-some e = let f : 1 ≤ count_of nexts h = count-found nexts t h e in omega (arith, ok.counted h low)

  at-h : (n : ℕ) → slice_index (set counts h n) h ≡ n
  at-h n = get_or-set_same counts h n 0 (omega (arith, ok.counts_length))

  elsewhere : (n u : ℕ) → u == h ≡ false → slice_index (set counts h n) u ≡ slice_index counts u
  elsewhere n u e = get_or-set_other counts h u n 0 (λ s. clash _ (ap (λ i. i == h) s ∙ equal_self h) e)

  -- a task waits no longer
  pub counted-cut : next_of nexts t ≡ Some h → (n : ℕ) → n + 1 ≡ slice_index counts h → IsCounted (set nexts t None) (set counts h n)
  counted-cut e n less = record {
    limit = omega (arith, ok.limit, length-set {A = Option ℕ} nexts t None);
    counts_length = length-set counts h n ∙ ok.counts_length ∙ sym (length-set {A = Option ℕ} nexts t None);
    counted = λ u far. by_case u (omega (arith, length-set {A = Option ℕ} nexts t None)) (u == h) refl;
  }
    where
      change : (u : ℕ) → count_of (set nexts t None) u + one u (Some h) ≡ count_of nexts u + 0
      change u = subst (λ o. count_of (set nexts t None) u + one u o ≡ count_of nexts u + 0) e (count-set nexts t u None below)

      by_case : (u : ℕ) → u < length nexts → (b : Bool) → u == h ≡ b → slice_index (set counts h n) u ≡ count_of (set nexts t None) u
      by_case u near true m = let s : u ≡ h = eqb-true u h m in rw s (at-h n ∙ omega (arith, change h, one-self h, ok.counted h low))
      by_case u near false m = elsewhere n u m ∙ ok.counted u near ∙ omega (arith, change u, one-other u h m)

  -- a task that waited for none waits
  module _ (free : next_of nexts t ≡ None) where
    joins : (u : ℕ) → count_of (set nexts t (Some h)) u + 0 ≡ count_of nexts u + one u (Some h)
    joins u = subst (λ o. count_of (set nexts t (Some h)) u + one u o ≡ count_of nexts u + one u (Some h)) free (count-set nexts t u (Some h) below)

    pub count-fits : slice_index counts h + 1 < 2 ^ 32
    count-fits = let f : count_of (set nexts t (Some h)) h ≤ length (set nexts t (Some h)) = count-few (set nexts t (Some h)) h in omega (arith, joins h, one-self h, ok.counted h low, ok.limit, length-set nexts t (Some h))

    pub counted-join : (n : ℕ) → n ≡ slice_index counts h + 1 → IsCounted (set nexts t (Some h)) (set counts h n)
    counted-join n further = record {
      limit = omega (arith, ok.limit, length-set nexts t (Some h));
      counts_length = length-set counts h n ∙ ok.counts_length ∙ sym (length-set nexts t (Some h));
      counted = λ u far. by_case u (omega (arith, length-set nexts t (Some h))) (u == h) refl;
    }
      where
        by_case : (u : ℕ) → u < length nexts → (b : Bool) → u == h ≡ b → slice_index (set counts h n) u ≡ count_of (set nexts t (Some h)) u
        by_case u near true m = let s : u ≡ h = eqb-true u h m in rw s (at-h n ∙ omega (arith, joins h, one-self h, ok.counted h low))
        by_case u near false m = elsewhere n u m ∙ ok.counted u near ∙ omega (arith, joins u, one-other u h m)

count-none : (n t : ℕ) → count_of (replicate n None) t ≡ 0
count-none zero t = refl
count-none (suc n) t = omega (arith, count-none n t)

size : {X : Type 0} (n : ℕ) (x : X) → length (replicate n x) ≡ n
size n x = length-replicate n x

pub counted-none : (n : ℕ) → n < 2 ^ 32 → IsCounted (replicate n None) (replicate n 0)
counted-none n low = record {
  limit = omega (arith, size {X = Option ℕ} n None);
  counts_length = size {X = ℕ} n 0 ∙ sym (size {X = Option ℕ} n None);
  counted = λ t below. get_or-replicate n t 0 0 (omega (arith, size {X = Option ℕ} n None)) ∙ sym (count-none n t);
}
