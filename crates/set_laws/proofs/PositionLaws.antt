-- A number that stands for an element is the position of the element's name.
use Rattle.std.proofs.Common.{◌≡◌, ℕ, zero, suc, ◌+◌, ◌-◌, ◌<◌, ◌≤◌, List, [], ◌∷◌, ◌++◌, Bool, true, false, ◌||◌, length, take, get_or, map, None, refl, ap, ap₂, sym, subst, ◌∙◌, arith, append_assoc, append-nil}
use Rattle.std.specs.List.{list_any}
use Rattle.std.specs.Prelude.{bytes_eq, ◌==◌}
use Rattle.std.proofs.lemmas.Bool.Decides.{nat_tests}
use Rattle.std.proofs.lemmas.List.{length-map, map-append}
use Rattle.std.proofs.lemmas.Option.{unwrap_or-slice_get}
use Rattle.rt_task.specs.Refusals.{first_failing}
use Rattle.rt_task.specs.RuleWords.{is_known, within}
use Rattle.set_canonical.specs.Values.{name_at}
use Rattle.set_read.specs.Document.{position_from}
use Rattle.set_read.proofs.NameLaws.{position-first}
use Rattle.set_laws.proofs.Passing.{passed, within_parts}

-- no name is an earlier one
abbrev pub Fresh : List (List ℕ) → List (List ℕ) → Type 0
Fresh earlier [] = Unit {0}
Fresh earlier (w ∷ ws) = (list_any (λ x. bytes_eq x w) earlier ≡ false) × Fresh (earlier ++ w ∷ []) ws

fresh-at : (earlier ws : List (List ℕ)) (i : ℕ) → Fresh earlier ws → i < length ws → list_any (λ x. bytes_eq x (get_or ws i [])) (earlier ++ take i ws) ≡ false
fresh-at earlier [] i h lt = absurd (omega arith)
fresh-at earlier (w ∷ ws) zero h lt = ap (list_any (λ x. bytes_eq x w)) (append-nil earlier) ∙ h.0
fresh-at earlier (w ∷ ws) (suc i) h lt =
    ap (list_any (λ x. bytes_eq x (get_or ws i []))) (sym (append_assoc earlier (w ∷ []) (take i ws))) ∙ fresh-at (earlier ++ w ∷ []) ws i h.1 (omega arith)

own_position : (ws : List (List ℕ)) (n : ℕ) → Fresh [] ws → 1 ≤ n → n ≤ length ws → position_from 1 ws (name_at ws n) ≡ n
own_position ws n h low high =
    let numbered : n == 0 ≡ false = grind (arith, nat_tests) in
    ap (position_from 1 ws) (rw numbered (unwrap_or-slice_get ws (n - 1) []))
    ∙ position-first 1 ws (n - 1) (omega arith) (fresh-at [] ws (n - 1) h (omega arith))
    ∙ (let e : 1 + (n - 1) ≡ n = omega arith in e)

pub known_position : {A : Type 0} (name : A → List ℕ) (xs : List A) (n : ℕ) → Fresh [] (map name xs) → is_known xs n ≡ true → position_from 1 (map name xs) (name_at (map name xs) n) ≡ n
known_position name xs n h known =
    let bounds = within_parts 1 (length xs) n known in
    let count = length-map xs name in
    own_position (map name xs) n h bounds.0 (omega arith)

pub known-mapped : {A B : Type 0} (f : A → B) (xs : List A) (n : ℕ) → is_known (map f xs) n ≡ true → is_known xs n ≡ true
known-mapped f xs n h = ap (λ m. within 1 m n) (sym (length-map xs f)) ∙ h

any-map : {A : Type 0} (name : A → List ℕ) (w : List ℕ) (xs : List A) → list_any (λ v. bytes_eq v w) (map name xs) ≡ list_any (λ y. bytes_eq (name y) w) xs
any-map name w [] = refl
any-map name w (x ∷ xs) = ap (λ b. bytes_eq (name x) w || b) (any-map name w xs)

-- a rule by which each name is new
pub fresh-by : {A : Type 0} (rule : List A → A → Bool) (name : A → List ℕ) → ((e : List A) (x : A) → rule e x ≡ true → list_any (λ y. bytes_eq (name y) (name x)) e ≡ false)
    → (e xs : List A) → first_failing rule e xs ≡ None → Fresh (map name e) (map name xs)
fresh-by rule name new e [] h = tt
fresh-by rule name new e (x ∷ xs) h =
    let p = passed rule e x xs h in (
      any-map name (name x) e ∙ new e x p.0,
      subst (λ ws. Fresh ws (map name xs)) (map-append name e (x ∷ [])) (fresh-by rule name new (e ++ x ∷ []) xs p.1),
    )

pub map-map : {A B C : Type 0} (f : B → C) (g : A → B) (h : A → C) (xs : List A) → ((x : A) → f (g x) ≡ h x) → map f (map g xs) ≡ map h xs
map-map f g h [] e = refl
map-map f g h (x ∷ xs) e = ap₂ (λ y ys. y ∷ ys) (e x) (map-map f g h xs e)
