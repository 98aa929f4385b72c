-- A name's position, as names are added.
use Rattle.std.proofs.Common.{◌≡◌, ℕ, zero, suc, ◌+◌, ◌<◌, ◌==◌, Bool, true, false, cond, List, [], ◌∷◌, ◌++◌, length, take, get_or, refl, ap, sym, subst, ◌∙◌, arith, add-zero}
use Rattle.std.specs.List.{list_any}
use Rattle.std.proofs.lemmas.Bool.{or_parts}
use Rattle.std.specs.Prelude.{bytes_eq, if◌then◌else◌}
use Rattle.std.proofs.lemmas.Bool.Decides.{nat_tests}
use Rattle.std.proofs.lemmas.Slice.Eq.{bytes_eq-Decides}
use Rattle.set_read.specs.Document.{position_from}

abbrev first_or : ℕ → ℕ → ℕ
first_or p q = if p == 0 then q else p

first_or-positive : (n q : ℕ) → 0 < n → first_or n q ≡ n
first_or-positive n q h = let e : (n == 0) ≡ false = grind (arith, nat_tests) in rw e refl

first_or-zero : (p : ℕ) → first_or p 0 ≡ p
first_or-zero zero = refl
first_or-zero (suc p) = first_or-positive (suc p) 0 (omega arith)

push_by : (b : Bool) (n p q r : ℕ) → 0 < n → p ≡ first_or q r → cond b n p ≡ first_or (cond b n q) r
push_by true n p q r h e = sym (first_or-positive n r h)
push_by false n p q r h e = e

position-push : (n : ℕ) (xs : List (List ℕ)) (k w : List ℕ) → 0 < n → position_from n (xs ++ k ∷ []) w ≡ first_or (position_from n xs w) (cond (bytes_eq k w) (n + length xs) 0)
position-push n [] k w h = ap (λ m. cond (bytes_eq k w) m 0) (sym (add-zero n))
position-push n (x ∷ xs) k w h =
    let count : (n + 1) + length xs ≡ n + suc (length xs) = omega arith in
    push_by (bytes_eq x w) n _ _ (cond (bytes_eq k w) (n + suc (length xs)) 0) h
    (position-push (n + 1) xs k w (omega arith) ∙ ap (λ m. first_or (position_from (n + 1) xs w) (cond (bytes_eq k w) m 0)) count)

same_name : (k w : List ℕ) → bytes_eq k w ≡ true → k ≡ w
same_name k w h = (bytes_eq-Decides k w).0 h

present_by : (b : Bool) (p n q : ℕ) → (b ≡ true → 0 < p) → first_or p (cond b n 0) ≡ p
present_by true p n q h = first_or-positive p n (h refl)
present_by false p n q h = first_or-zero p

-- a name that is there changes nothing
pub name_present : (xs : List (List ℕ)) (k w : List ℕ) → 0 < position_from 1 xs k → position_from 1 (xs ++ k ∷ []) w ≡ position_from 1 xs w
name_present xs k w h = position-push 1 xs k w (omega arith) ∙ present_by (bytes_eq k w) (position_from 1 xs w) (1 + length xs) 0 (λ e. subst (λ v. 0 < position_from 1 xs v) (same_name k w e) h)

new_by : (b : Bool) (p n : ℕ) → (b ≡ true → p ≡ 0) → first_or p (cond b n 0) ≡ cond b n p
new_by true p n h = rw (h refl) refl
new_by false p n h = first_or-zero p

-- a new name has the next number
pub name_new : (xs : List (List ℕ)) (k w : List ℕ) → position_from 1 xs k ≡ 0 → position_from 1 (xs ++ k ∷ []) w ≡ cond (bytes_eq k w) (1 + length xs) (position_from 1 xs w)
name_new xs k w h = position-push 1 xs k w (omega arith) ∙ new_by (bytes_eq k w) (position_from 1 xs w) (1 + length xs) (λ e. subst (λ v. position_from 1 xs v ≡ 0) (same_name k w e) h)

same_bytes : (w : List ℕ) → bytes_eq w w ≡ true
same_bytes w = (bytes_eq-Decides w w).1 refl

-- a name that no earlier one is equal to has its own position
pub position-first : (n : ℕ) (xs : List (List ℕ)) (i : ℕ) → i < length xs → list_any (λ x. bytes_eq x (get_or xs i [])) (take i xs) ≡ false → position_from n xs (get_or xs i []) ≡ n + i
position-first n [] i lt new = absurd (omega arith)
position-first n (x ∷ xs) zero lt new = rw (same_bytes x, add-zero) refl
position-first n (x ∷ xs) (suc i) lt new =
    let parts = or_parts (bytes_eq x (get_or xs i [])) (list_any (λ y. bytes_eq y (get_or xs i [])) (take i xs)) new in
    rw parts.0 (position-first (n + 1) xs i (omega arith) parts.1 ∙ (let e : (n + 1) + i ≡ n + suc i = omega arith in e))
