-- FMLP: who waits, stands in the line and holds after an act, and how many stand before a task.
use Rattle.std.proofs.Common.{◌≡◌, ℕ, ◌+◌, Bool, true, false, ◌||◌, cond, ◌⊎◌, inl, inr, eqb-true, List, [], ◌∷◌, ◌++◌, length, refl, arith}
use Rattle.std.specs.Prelude.{◌==◌, is_none, if◌then◌else◌}
use Rattle.rt_rules.specs.Distinct.{IsDistinct}
use Rattle.rt_rules.specs.Fmlp.{fmlp_after}
use Rattle.rt_rules.specs.Numbers.{has, is, without, first, rest}
use Rattle.rt_rules.specs.SemState.{SemAct, Asks, Frees, Neither}
use Rattle.rt_rules.proofs.BoolLaws.{clash, neither}
use Rattle.rt_rules.proofs.MemberLaws.{equal_self, is_one, has-appended, has-one, has-rest, has-without, first-append}
use Rattle.rt_rules.proofs.DistinctLaws.{distinct-append, distinct-without}
use Rattle.rt_rules.proofs.SemActLaws.{AsksSome, FreesSome, asks-some, frees-some}

rest-without : (t u : ℕ) (line : List ℕ) → has t (rest (without u line)) ≡ true → has t (rest line) ≡ true
rest-without t u [] h = h
rest-without t u (x ∷ xs) h = by_case (u == x) h
  where
    by_case : (b : Bool) → has t (rest (cond b xs (x ∷ without u xs))) ≡ true → has t xs ≡ true
    by_case true k = has-rest t xs k
    by_case false k = has-without t u xs k

-- who waits did before, or asks and somebody holds
pub fmlp-waits : (t : ℕ) (x : SemAct) (line : List ℕ) → has t (rest (fmlp_after x line)) ≡ true → (has t (rest line) ≡ true) ⊎ AsksSome t x × (is_none (first line) ≡ false)
fmlp-waits t (Asks u s) [] h = cc
fmlp-waits t (Asks u s) (y ∷ line) h = join (has-appended t line (u ∷ []) h)
  where
    join : (has t line ≡ true) ⊎ (has t (u ∷ []) ≡ true) → (has t line ≡ true) ⊎ AsksSome t (Asks u s) × (false ≡ false)
    join (inl m) = inl m
    join (inr m) = inr (asks-some t u s (has-one t u m), refl)
fmlp-waits t (Frees u s) line h = inl (rest-without t u line h)
fmlp-waits t Neither line h = inl h

-- who stands in the line did before, or asks
pub fmlp-stands : (t : ℕ) (x : SemAct) (line : List ℕ) → has t (fmlp_after x line) ≡ true → (has t line ≡ true) ⊎ AsksSome t x
fmlp-stands t (Asks u s) line h = join (has-appended t line (u ∷ []) h)
  where
    join : (has t line ≡ true) ⊎ (has t (u ∷ []) ≡ true) → (has t line ≡ true) ⊎ AsksSome t (Asks u s)
    join (inl m) = inl m
    join (inr m) = inr (asks-some t u s (has-one t u m))
fmlp-stands t (Frees u s) line h = inl (has-without t u line h)
fmlp-stands t Neither line h = inl h

-- who holds goes on until it frees
pub fmlp-holds : (t : ℕ) (x : SemAct) (line : List ℕ) → ((u s : ℕ) → x ≡ Frees u s → is u (first line) ≡ true) → is t (first line) ≡ true → (is t (first (fmlp_after x line)) ≡ true) ⊎ FreesSome t x
fmlp-holds t (Asks u s) line frees h = inl (first-append t line (u ∷ []) h)
fmlp-holds t (Frees u s) line frees h = inr (frees-some t u s (is_one t u (first line) h (frees u s refl)))
fmlp-holds t Neither line frees h = inl h

-- ---- the line of some users

-- each stands once, and is a user
pub record IsLine (users line : List ℕ) : Type 0 where
  pub once : IsDistinct line
  pub inside : (t : ℕ) → has t line ≡ true → has t users ≡ true

-- an act keeps that, where whoever asks is a user that is not in the line
pub line-after : (users : List ℕ) (x : SemAct) (line : List ℕ) → ((t s : ℕ) → x ≡ Asks t s → (has t line ≡ false) × (has t users ≡ true)) → IsLine users line → IsLine users (fmlp_after x line)
line-after users (Asks u s) line asks l =
    let f = asks u s refl in
    record {
      once = distinct-append u line l.once f.0;
      inside = λ t h. join t f.1 (has-appended t line (u ∷ []) h);
    }
  where
    join : (t : ℕ) → has u users ≡ true → (has t line ≡ true) ⊎ (has t (u ∷ []) ≡ true) → has t users ≡ true
    join t there (inl k) = l.inside t k
    join t there (inr k) = rw (has-one t u k) there
line-after users (Frees u s) line asks l = record { once = distinct-without u line l.once; inside = λ t h. l.inside t (has-without t u line h) }
line-after users Neither line asks l = l

-- ---- how many stand before a task

-- how many stand before a task
abbrev pub ahead : ℕ → List ℕ → ℕ
ahead t [] = 0
ahead t (x ∷ xs) = if t == x then 0 else ahead t xs + 1

-- who stands in the line stays where it is when others join
pub ahead-append : (t : ℕ) (xs ys : List ℕ) → has t xs ≡ true → ahead t (xs ++ ys) ≡ ahead t xs
ahead-append t [] ys h = cc
ahead-append t (x ∷ xs) ys h = by_case (t == x) h (ahead-append t xs ys)
  where
    by_case : (b : Bool) → b || has t xs ≡ true → (has t xs ≡ true → ahead t (xs ++ ys) ≡ ahead t xs) → (if b then 0 else ahead t (xs ++ ys) + 1) ≡ (if b then 0 else ahead t xs + 1)
    by_case true k r = refl
    by_case false k r = rw (r k)

-- who joins stands behind all
pub ahead-last : (t : ℕ) (xs : List ℕ) → has t xs ≡ false → ahead t (xs ++ t ∷ []) ≡ length xs
ahead-last t [] h = rw (equal_self t)
ahead-last t (x ∷ xs) h = let n = neither (t == x) (has t xs) h in rw (n.0, ahead-last t xs n.1) (omega arith)

-- when the first leaves one less stands before
pub ahead-rest : (t : ℕ) (xs : List ℕ) → IsDistinct xs → has t (rest xs) ≡ true → ahead t xs ≡ ahead t (rest xs) + 1
ahead-rest t [] d h = cc
ahead-rest t (x ∷ xs) d h = by_case (t == x) refl
  where
    by_case : (b : Bool) → t == x ≡ b → (if b then 0 else ahead t xs + 1) ≡ ahead t xs + 1
    by_case true e = let same : t ≡ x = eqb-true t x e in let k : has x xs ≡ true = rw same at h in absurd (clash _ k d.0)
    by_case false e = refl
