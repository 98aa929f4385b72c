-- A rule is named where an element does not pass its tests.
use Rattle.std.proofs.Common.{◌≡◌, ℕ, ◌+◌, List, [], ◌∷◌, ◌++◌, Bool, true, false, ◌&&◌, cond, length, map, take, Option, Some, None, refl, ap, sym, subst, ◌∙◌, append_assoc, ◌⊎◌, inl, inr}
use Rattle.std.specs.Prelude.{is_some, option_map, slice_get}
use Rattle.std.proofs.Math.Seq.{take-append_seam}
use Rattle.rt_task.specs.declared.bad_set.BadSet.{BadSet}
use Rattle.rt_task.specs.declared.bad_set.Part.{Part}
use Rattle.rt_task.specs.declared.bad_set.Part.TheVariants as parts
use Rattle.rt_task.specs.declared.bad_set.SetKind.{SetKind}
use Rattle.rt_task.specs.Refusals.{bad, each, first, first_failing, whole}
use Rattle.set_explain.specs.Broken.{tests_at, tests_by}
use Rattle.set_explain.specs.Rules.{Rule, Test, all_hold, broken, first_some, unless}

-- ---- tests

pub broken-named : (ts : List Test) → all_hold ts ≡ false → is_some (broken ts) ≡ true
broken-named [] h = absurd cc
broken-named (t ∷ []) h = by_test t.holds h
  where
    by_test : (b : Bool) → b ≡ false → is_some (first_some (unless b t.rule ∷ [])) ≡ true
    by_test true h = absurd cc
    by_test false h = refl
broken-named (t ∷ u ∷ ts) h = by_test t.holds h (λ k. broken-named (u ∷ ts) k)
  where
    by_test : (b : Bool) → (b && all_hold (u ∷ ts)) ≡ false → (all_hold (u ∷ ts) ≡ false → is_some (broken (u ∷ ts)) ≡ true)
        → is_some (first_some (unless b t.rule ∷ map (λ (t : Test). unless t.holds t.rule) (u ∷ ts))) ≡ true
    by_test true h more = more h
    by_test false h more = refl

-- ---- elements

-- an element that does not pass, and where it stands
pub record Fails {A : Type 0} (rule : List A → A → Bool) (xs : List A) (i : ℕ) : Type 0 where
  pub x : A
  pub there : slice_get xs i ≡ Some x
  pub fails : rule (take i xs) x ≡ false

slice_get-seam : {A : Type 0} (xs : List A) (y : A) (ys : List A) → slice_get (xs ++ y ∷ ys) (length xs) ≡ Some y
slice_get-seam [] y ys = refl
slice_get-seam (x ∷ xs) y ys = slice_get-seam xs y ys

pub failing-fails : {A : Type 0} (rule : List A → A → Bool) (earlier xs : List A) (i : ℕ) → first_failing rule earlier xs ≡ Some i → Fails rule (earlier ++ xs) i
failing-fails rule earlier [] i h = absurd cc
failing-fails {A} rule earlier (x ∷ xs) i h = by_test (rule earlier x) refl h (λ k. failing-fails rule (earlier ++ x ∷ []) xs i k)
  where
    by_test : (b : Bool) → rule earlier x ≡ b → cond b (first_failing rule (earlier ++ x ∷ []) xs) (Some (length earlier)) ≡ Some i
        → (first_failing rule (earlier ++ x ∷ []) xs ≡ Some i → Fails rule ((earlier ++ x ∷ []) ++ xs) i) → Fails rule (earlier ++ x ∷ xs) i
    by_test true e h more = subst (λ (ys : List A). Fails rule ys i) (append_assoc earlier (x ∷ []) xs) (more h)
    by_test false e h more =
        let same : length earlier ≡ i = cc in
        subst (λ (j : ℕ). Fails rule (earlier ++ x ∷ xs) j) same
        (record { x = x; there = slice_get-seam earlier x xs; fails = ap (λ ys. rule ys x) (take-append_seam earlier (x ∷ xs)) ∙ e })

-- ---- rows of refusals

-- one of the rows is this refusal
abbrev pub OneIs : BadSet → List (Option BadSet) → Type 0
OneIs b [] = ⊥
OneIs b (o ∷ os) = (o ≡ Some b) ⊎ OneIs b os

pub first-one : (b : BadSet) (os : List (Option BadSet)) → first os ≡ Some b → OneIs b os
first-one b [] h = absurd cc
first-one b (None ∷ os) h = inr (first-one b os h)
first-one b (Some c ∷ os) h = inl h

-- ---- what is named of a row

pub whole-named : (kind : SetKind) (holds : Bool) (b : BadSet) (tests : SetKind → Part → ℕ → List Test) → whole kind holds ≡ Some b
    → (holds ≡ false → is_some (broken (tests kind parts.Whole 0)) ≡ true) → is_some (broken (tests b.kind b.place.part b.place.index)) ≡ true
whole-named kind true b tests h named = absurd cc
whole-named kind false b tests h named =
    let same : bad kind parts.Whole 0 ≡ b = cc in
    subst (λ (c : BadSet). is_some (broken (tests c.kind c.place.part c.place.index)) ≡ true) same (named refl)

pub each-named : {A : Type 0} (kind : SetKind) (part : Part) (rule : List A → A → Bool) (xs : List A) (b : BadSet) (tests : SetKind → Part → ℕ → List Test)
    → each kind part rule xs ≡ Some b → ((i : ℕ) → Fails rule xs i → is_some (broken (tests kind part i)) ≡ true)
    → is_some (broken (tests b.kind b.place.part b.place.index)) ≡ true
each-named kind part rule xs b tests h named = by_place (first_failing rule [] xs) refl h
  where
    by_place : (o : Option ℕ) → first_failing rule [] xs ≡ o → option_map (bad kind part) o ≡ Some b → is_some (broken (tests b.kind b.place.part b.place.index)) ≡ true
    by_place None e h = absurd cc
    by_place (Some i) e h =
        let same : bad kind part i ≡ b = cc in
        subst (λ (c : BadSet). is_some (broken (tests c.kind c.place.part c.place.index)) ≡ true) same (named i (failing-fails rule [] xs i e))

-- the tests of an element are those of its rule
pub element-named : {A : Type 0} (rule : List A → A → Bool) (tests : List A → A → List Test) (xs : List A) (i : ℕ)
    → ((earlier : List A) (x : A) → all_hold (tests earlier x) ≡ rule earlier x) → Fails rule xs i → is_some (broken (tests_at tests xs i)) ≡ true
element-named rule tests xs i same f =
    subst (λ o. is_some (broken (tests_by (tests (take i xs)) o)) ≡ true) (sym f.there)
    (broken-named (tests (take i xs) f.x) (same (take i xs) f.x ∙ f.fails))
