-- Laws of names and numbers met so far.
use Rattle.std.proofs.Common.{◌≡◌, ℕ, ◌+◌, ◌<◌, ◌==◌, List, [], ◌∷◌, ◌++◌, Bool, true, false, not, ◌&&◌, ◌||◌, length, take, get_or, map, drop, refl, ap, ap₂, sym, ◌∙◌, arith, inl, inr}
use Rattle.std.proofs.lemmas.Bool.Decides.{nat_tests}
use Rattle.rt_base.specs.declared.SemNo.{SemNo}
use Rattle.std.specs.List.{list_any}
use Rattle.std.specs.Prelude.{bytes_eq}
use Rattle.std.proofs.lemmas.List.Folds.{list_any_more, list_any-append}
use Rattle.std.proofs.lemmas.List.{take_more, map-append, take-append-drop}
use Rattle.std.proofs.lemmas.Bool.{and_cases, and_left, and_right, or_left, not-false, not_from_true}
use Rattle.rt_task.specs.RuleWords.{has, no_repeat}

or_comm : (a b : Bool) → (a || b) ≡ (b || a)
or_comm true true = refl
or_comm true false = refl
or_comm false true = refl
or_comm false false = refl

-- one more element, with its name
pub names-next : {A : Type 0} (name : A → List ℕ) (xs : List A) (i : ℕ) (x : A) (old new : List ℕ → Bool) → i < length xs → x ≡ get_or xs i x
    → ((w : List ℕ) → old w ≡ list_any (λ y. bytes_eq (name y) w) (take i xs)) → ((w : List ℕ) → new w ≡ (bytes_eq (name x) w || old w))
    → (w : List ℕ) → new w ≡ list_any (λ y. bytes_eq (name y) w) (take (i + 1) xs)
names-next name xs i x old new lt at before added w =
    added w
    ∙ ap (λ b. bytes_eq (name x) w || b) (before w)
    ∙ or_comm (bytes_eq (name x) w) (list_any (λ y. bytes_eq (name y) w) (take i xs))
    ∙ ap (λ z. list_any (λ y. bytes_eq (name y) w) (take i xs) || bytes_eq (name z) w) at
    ∙ sym (list_any_more (λ y. bytes_eq (name y) w) xs i x lt)

-- ---- numbers without repeat

regroup : (a e n h : Bool) → (not (a || (e || false)) && (n && not h)) ≡ ((not a && n) && not (e || h))
regroup true e n h = refl
regroup false true true h = refl
regroup false true false h = refl
regroup false false n h = refl

pub no_repeat-push : (xs : List ℕ) (x : ℕ) → no_repeat (xs ++ x ∷ []) ≡ (no_repeat xs && not (has x xs))
no_repeat-push [] x = refl
no_repeat-push (y ∷ ys) x =
    let flip : (x == y) ≡ (y == x) = eq_flip x y in
    ap₂ (λ a b. not a && b) (list_any-append (λ m. m == y) ys (x ∷ [])) (no_repeat-push ys x)
    ∙ regroup (has y ys) (x == y) (no_repeat ys) (has x ys)
    ∙ ap (λ e. (not (has y ys) && no_repeat ys) && not (e || has x ys)) flip
  where
    eq_flip : (a b : ℕ) → (a == b) ≡ (b == a)
    eq_flip a b = grind (arith, nat_tests)

-- what comes twice at the front comes twice in all
no_repeat-front : (xs ys : List ℕ) → no_repeat xs ≡ false → no_repeat (xs ++ ys) ≡ false
no_repeat-front [] ys h = absurd cc
no_repeat-front (x ∷ xs) ys h =
    elim (and_cases (not (has x xs)) (no_repeat xs) h) [
      | inl twice ↦ and_left (not (has x (xs ++ ys))) (no_repeat (xs ++ ys)) (not_from_true (has x (xs ++ ys)) (list_any-append (λ m. m == x) xs ys ∙ or_left (has x xs) (has x ys) (not-false (has x xs) twice)))
      | inr later ↦ and_right (not (has x (xs ++ ys))) (no_repeat (xs ++ ys)) (no_repeat-front xs ys later)
    ]

abbrev pub plain : List SemNo → List ℕ
plain ss = map (λ (s : SemNo). s.0) ss

plain-next : (ss : List SemNo) (i : ℕ) (d : SemNo) → i < length ss → plain (take (i + 1) ss) ≡ plain (take i ss) ++ (get_or ss i d).0 ∷ []
plain-next ss i d lt = ap plain (take_more ss i d lt) ∙ map-append (λ (s : SemNo). s.0) (take i ss) (get_or ss i d ∷ [])

-- one more number, which is new
pub no_repeat-next : (ss : List SemNo) (i : ℕ) (d : SemNo) → i < length ss → no_repeat (plain (take i ss)) ≡ true → has (get_or ss i d).0 (plain (take i ss)) ≡ false → no_repeat (plain (take (i + 1) ss)) ≡ true
no_repeat-next ss i d lt so_far new =
    ap no_repeat (plain-next ss i d lt) ∙ no_repeat-push (plain (take i ss)) (get_or ss i d).0 ∙ ap₂ (λ a b. a && not b) so_far new

-- a number that was there
pub no_repeat-stops : (ss : List SemNo) (i : ℕ) (d : SemNo) → i < length ss → has (get_or ss i d).0 (plain (take i ss)) ≡ true → no_repeat (plain ss) ≡ false
no_repeat-stops ss i d lt old =
    let front : no_repeat (plain (take (i + 1) ss)) ≡ false =
    ap no_repeat (plain-next ss i d lt) ∙ no_repeat-push (plain (take i ss)) (get_or ss i d).0 ∙ and_right (no_repeat (plain (take i ss))) (not (has (get_or ss i d).0 (plain (take i ss)))) (not_from_true (has (get_or ss i d).0 (plain (take i ss))) old) in
    ap (λ xs. no_repeat (plain xs)) (sym (take-append-drop (i + 1) ss)) ∙ ap no_repeat (map-append (λ (s : SemNo). s.0) (take (i + 1) ss) (drop (i + 1) ss)) ∙ no_repeat-front (plain (take (i + 1) ss)) (plain (drop (i + 1) ss)) front

-- the numbers so far, one more
pub numbers-next : (ss : List SemNo) (i : ℕ) (d : SemNo) (old new : ℕ → Bool) → i < length ss
    → ((n : ℕ) → old n ≡ has n (plain (take i ss))) → ((n : ℕ) → new n ≡ ((get_or ss i d).0 == n || old n))
    → (n : ℕ) → new n ≡ has n (plain (take (i + 1) ss))
numbers-next ss i d old new lt before added n =
    added n
    ∙ ap (λ b. (get_or ss i d).0 == n || b) (before n)
    ∙ last_first ((get_or ss i d).0 == n) (has n (plain (take i ss)))
    ∙ sym (list_any-append (λ m. m == n) (plain (take i ss)) ((get_or ss i d).0 ∷ []))
    ∙ ap (has n) (sym (plain-next ss i d lt))
  where
    last_first : (a b : Bool) → (a || b) ≡ (b || (a || false))
    last_first true true = refl
    last_first true false = refl
    last_first false true = refl
    last_first false false = refl
