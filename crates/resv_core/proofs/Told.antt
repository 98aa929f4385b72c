-- What telling of clients makes of a reservation: the releases of those that changed, and nothing else.
use Rattle.std.proofs.Common.{◌≡◌, ◌≢◌, ℕ, zero, suc, ◌+◌, ◌<◌, Bool, true, false, not, cond, ◌&&◌, ◌||◌, ◌⊎◌, inl, inr, List, [], ◌∷◌, length, set, length-set, get_or-set_same, get_or-set_other, eqb-true, refl, sym, ap, ◌∙◌, arith}
use Rattle.std.specs.Prelude.{Option, None, Some, ◌==◌, count_by, if◌then◌else◌}
use Rattle.std.specs.List.{list_any}
use Rattle.std.proofs.lemmas.Bool.{cases_eq}
use Rattle.std.proofs.lemmas.List.Sums.{sum_by-cons}
use Rattle.rt_rules.specs.Distinct.{IsDistinct}
use Rattle.rt_rules.specs.Numbers.{has, same}
use Rattle.rt_rules.proofs.BoolLaws.{either, unless}
use Rattle.rt_rules.proofs.MemberLaws.{any-none, equal_self}
use Rattle.resv_core.specs.Served.{ServerState, release_at, has_ready}
use Rattle.resv_core.specs.Kept.{told, told_now}

-- ---- numbers that may be missing

pub same-equal : (o p : Option ℕ) → same o p ≡ true → o ≡ p
same-equal None None h = refl
same-equal None (Some y) h = cc
same-equal (Some x) None h = cc
same-equal (Some x) (Some y) h = ap {B = Option ℕ} (λ n. Some n) (eqb-true x y h)

-- two tests that hold together are equal
pub iff : (a b : Bool) → (a ≡ true → b ≡ true) → (b ≡ true → a ≡ true) → a ≡ b
iff true true h k = refl
iff true false h k = sym (h refl)
iff false true h k = k refl
iff false false h k = refl

-- ---- some element passes

pub has-any : (p : ℕ → Bool) (xs : List ℕ) (x : ℕ) → has x xs ≡ true → p x ≡ true → list_any p xs ≡ true
has-any p xs x h k = by_case (list_any p xs) refl
  where
    by_case : (b : Bool) → list_any p xs ≡ b → b ≡ true
    by_case true e = refl
    by_case false e = sym (any-none p xs x e h) ∙ k

pub any-has : (p : ℕ → Bool) (xs : List ℕ) → list_any p xs ≡ true → (x : ℕ) × (has x xs ≡ true) × (p x ≡ true)
any-has p [] h = cc
any-has p (y ∷ ys) h = split (either (p y) (list_any p ys) h) (any-has p ys)
  where
    or_left : (b : Bool) → (y == y) || b ≡ true
    or_left b = rw equal_self refl

    or_right : (a b : Bool) → b ≡ true → a || b ≡ true
    or_right true b m = refl
    or_right false b m = m

    split : (p y ≡ true) ⊎ (list_any p ys ≡ true) → (list_any p ys ≡ true → (x : ℕ) × (has x ys ≡ true) × (p x ≡ true)) → (x : ℕ) × (has x (y ∷ ys) ≡ true) × (p x ≡ true)
    split (inl k) more = (y, or_left (has y ys), k)
    split (inr k) more = let q = more k in (q.0, or_right (q.0 == y) (has q.0 ys) q.1, q.2)

-- how many pass a test that at most one number passes
pub count_once : (p : ℕ → Bool) → ((t u : ℕ) → p t ≡ true → p u ≡ true → t ≡ u) → (xs : List ℕ) → IsDistinct xs → count_by p xs ≡ (if list_any p xs then 1 else 0)
count_once p once [] d = refl
count_once p once (x ∷ xs) d = sum_by-cons (λ t. cond (p t) 1 0) x xs ∙ by_case (p x) refl (count_once p once xs d.1) (any-has p xs)
  where
    by_case : (b : Bool) → p x ≡ b → count_by p xs ≡ (if list_any p xs then 1 else 0) → (list_any p xs ≡ true → (u : ℕ) × (has u xs ≡ true) × (p u ≡ true)) → cond b 1 0 + count_by p xs ≡ (if b || list_any p xs then 1 else 0)
    by_case true e rest found =
        let none : list_any p xs ≡ false = unless (list_any p xs) (λ h. let q = found h in let clash : true ≡ false = sym q.1 ∙ ap (λ n. has n xs) (once q.0 x q.2 e) ∙ d.0 in cc) in
        let zero_left : count_by p xs ≡ 0 = rest ∙ ap (λ b. if b then 1 else 0) none in
        omega (arith, zero_left)
    by_case false e rest found = omega (arith, rest)

-- ---- ready clients

pub ready-some : (rs : List (Option ℕ)) (t d : ℕ) → release_at rs t ≡ Some d → has_ready rs ≡ true
ready-some [] t d h = cc
ready-some (Some x ∷ rs) t d h = refl
ready-some (None ∷ rs) zero d h = cc
ready-some (None ∷ rs) (suc t) d h = ready-some rs t d h

pub some-ready : (rs : List (Option ℕ)) → has_ready rs ≡ true → (t d : ℕ) × (release_at rs t ≡ Some d)
some-ready [] h = cc
some-ready (Some x ∷ rs) h = (0, x, refl)
some-ready (None ∷ rs) h = let q = some-ready rs h in (suc q.0, q.1, q.2)

-- ---- what is told

module _ (before after : ℕ → Option ℕ) where
  abbrev pub one_told : ℕ → ServerState → ServerState
  one_told t s = if same (before t) (after t) then s else told_now (after t) t s

  one-keeps : (t : ℕ) (s : ServerState) → one_told t s ≡ record s { releases = (one_told t s).releases }
  one-keeps t s = by_case (same (before t) (after t)) (after t)
    where
      by_case : (b : Bool) (o : Option ℕ) → (if b then s else told_now o t s) ≡ record s { releases = (if b then s else told_now o t s).releases }
      by_case true o = refl
      by_case false None = refl
      by_case false (Some d) = refl

  -- nothing but the releases changes
  pub told-keeps : (ts : List ℕ) (s : ServerState) → told before after ts s ≡ record s { releases = (told before after ts s).releases }
  told-keeps [] s = refl
  told-keeps (t ∷ ts) s = told-keeps ts (one_told t s) ∙ ap (λ (z : ServerState). record z { releases = (told before after ts (one_told t s)).releases }) (one-keeps t s)

  one-length : (t : ℕ) (s : ServerState) → length (one_told t s).releases ≡ length s.releases
  one-length t s = by_case (same (before t) (after t)) (after t)
    where
      by_case : (b : Bool) (o : Option ℕ) → length (if b then s else told_now o t s).releases ≡ length s.releases
      by_case true o = refl
      by_case false None = length-set s.releases t None
      by_case false (Some d) = length-set s.releases t (Some d)

  pub told-length : (ts : List ℕ) (s : ServerState) → length (told before after ts s).releases ≡ length s.releases
  told-length [] s = refl
  told-length (t ∷ ts) s = told-length ts (one_told t s) ∙ one-length t s

  abbrev changes : ℕ → Bool
  changes t = not (same (before t) (after t))

  one-at : (t u : ℕ) (s : ServerState) → t < length s.releases → release_at (one_told t s).releases u ≡ (if u == t && changes u then after u else release_at s.releases u)
  one-at t u s inside = by_case (same (before t) (after t)) refl (after t) refl (cases_eq u t)
    where
      written : (o : Option ℕ) → after t ≡ o → same (before t) (after t) ≡ false → u ≡ t → release_at (set s.releases t o) u ≡ (if u == t && changes u then after u else release_at s.releases u)
      written o e f k =
          let at : release_at (set s.releases t o) u ≡ o = ap (release_at (set s.releases t o)) k ∙ get_or-set_same s.releases t o None inside in
          let test : u == t && changes u ≡ true = ap (λ n. n == t && changes n) k ∙ rw (equal_self t, f) refl in
          at ∙ sym e ∙ ap after (sym k) ∙ sym (ap (λ b. if b then after u else release_at s.releases u) test)

      apart : u ≢ t → u == t ≡ false
      apart ne = unless (u == t) (λ h. ne (eqb-true u t h))

      kept : (o : Option ℕ) → u ≢ t → release_at (set s.releases t o) u ≡ (if u == t && changes u then after u else release_at s.releases u)
      kept o ne = get_or-set_other s.releases t u o None ne ∙ sym (ap (λ b. if b && changes u then after u else release_at s.releases u) (apart ne))

      still : same (before t) (after t) ≡ true → (u ≡ t) ⊎ (u ≢ t) → release_at s.releases u ≡ (if u == t && changes u then after u else release_at s.releases u)
      still e (inl k) =
          let test : u == t && changes u ≡ false = ap (λ n. n == t && changes n) k ∙ rw (equal_self t, e) refl in
          sym (ap (λ b. if b then after u else release_at s.releases u) test)
      still e (inr ne) = sym (ap (λ b. if b && changes u then after u else release_at s.releases u) (apart ne))

      by_case : (b : Bool) → same (before t) (after t) ≡ b → (o : Option ℕ) → after t ≡ o → (u ≡ t) ⊎ (u ≢ t) → release_at (if b then s else told_now o t s).releases u ≡ (if u == t && changes u then after u else release_at s.releases u)
      by_case true e o f k = still e k
      by_case false e None f (inl k) = written None f e k
      by_case false e None f (inr ne) = kept None ne
      by_case false e (Some d) f (inl k) = written (Some d) f e k
      by_case false e (Some d) f (inr ne) = kept (Some d) ne

  -- those that are told and changed have what is so after, and the others what they had
  pub told-at : (ts : List ℕ) (u : ℕ) (s : ServerState) → ((t : ℕ) → has t ts ≡ true → t < length s.releases) → release_at (told before after ts s).releases u ≡ (if has u ts && changes u then after u else release_at s.releases u)
  told-at [] u s inside = refl
  told-at (t ∷ ts) u s inside =
      told-at ts u (one_told t s) (λ v h. let low = inside v (or_right (v == t) (has v ts) h) in omega (arith, low, one-length t s))
      ∙ ap (λ o. if has u ts && changes u then after u else o) (one-at t u s (inside t (rw equal_self refl)))
      ∙ join (u == t) (has u ts) (changes u)
    where
      or_right : (a b : Bool) → b ≡ true → a || b ≡ true
      or_right true b m = refl
      or_right false b m = m

      join : (a b c : Bool) → (if b && c then after u else (if a && c then after u else release_at s.releases u)) ≡ (if (a || b) && c then after u else release_at s.releases u)
      join true true true = refl
      join true true false = refl
      join true false true = refl
      join true false false = refl
      join false true true = refl
      join false true false = refl
      join false false true = refl
      join false false false = refl

  -- the whole table, where those that did not change had it before
  pub told-table : (ts : List ℕ) (s : ServerState) → ((t : ℕ) → has t ts ≡ true → t < length s.releases) → ((u : ℕ) → release_at s.releases u ≡ (if has u ts then before u else None)) → (u : ℕ) → release_at (told before after ts s).releases u ≡ (if has u ts then after u else None)
  told-table ts s inside had u = told-at ts u s inside ∙ ap (λ o. if has u ts && changes u then after u else o) (had u) ∙ by_case (has u ts) (same (before u) (after u)) refl
    where
      by_case : (a b : Bool) → same (before u) (after u) ≡ b → (if a && not b then after u else (if a then before u else None)) ≡ (if a then after u else None)
      by_case true true e = same-equal (before u) (after u) e
      by_case true false e = refl
      by_case false b e = refl
