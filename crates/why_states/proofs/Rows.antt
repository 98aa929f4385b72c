-- Texts that are written row by row, and lists that are filtered element by element.
use Rattle.std.proofs.Common.{◌≡◌, ◌∙◌, ℕ, zero, suc, ◌+◌, ◌<◌, ◌≤◌, ◌==◌, Bool, true, false, List, [], ◌∷◌, ◌++◌, length, map, drop, get_or, eqb-true, refl, sym, ap, subst, arith, append_assoc, append-nil}
use Rattle.std.specs.Prelude.{filter, flat_map, if◌then◌else◌}
use Rattle.std.proofs.lemmas.Grind.{flat_map-append}
use Rattle.std.proofs.lemmas.List.{map-append}
use Rattle.std.proofs.lemmas.List.Concat.{flat_map-cons}
use Rattle.std.proofs.lemmas.List.Elements.{filter-append}
use Rattle.rt_rules.specs.Numbers.{has, numbers_from}
use Rattle.rt_rules.proofs.BoolLaws.{or_true}
use Rattle.rt_rules.proofs.MemberLaws.{equal_self}
use Rattle.rank_afresh.proofs.SetLists.{cut, cut-all, numbers-more}

-- an element's number is among the elements' numbers
pub at-has : {A : Type 0} (shown : A → ℕ) (xs : List A) (i : ℕ) (d : A) → i < length xs → has (shown (get_or xs i d)) (map shown xs) ≡ true
at-has shown [] i d h = absurd (omega arith)
at-has shown (x ∷ xs) zero d h = rw (equal_self (shown x)) refl
at-has shown (x ∷ xs) (suc i) d h = rw (at-has shown xs i d (omega arith)) (or_true (shown (get_or xs i d) == shown x))

pub at-among : {A : Type 0} (shown : A → ℕ) (xs : List A) (i : ℕ) (d : A) (all : List ℕ) → i < length xs → map shown xs ≡ all → has (shown (get_or xs i d)) all ≡ true
at-among shown xs i d all h is = subst (λ ns. has (shown (get_or xs i d)) ns ≡ true) is (at-has shown xs i d h)

-- what was written, and then the lines of the rest, are those of all
pub line-next : {A : Type 0} (f : ℕ → List ℕ) (shown : A → ℕ) (xs : List A) (i : ℕ) (d : A) (all text new : List ℕ) → i < length xs
    → text ++ flat_map f (map shown (drop i xs)) ≡ all → new ≡ text ++ f (shown (get_or xs i d)) → new ++ flat_map f (map shown (drop (i + 1) xs)) ≡ all
line-next f shown xs i d all text new low before put =
    let x : ℕ = shown (get_or xs i d) in
    let others : List ℕ = flat_map f (map shown (drop (i + 1) xs)) in
    ap (λ ys. ys ++ others) put ∙ append_assoc text (f x) others ∙ ap (λ ys. text ++ ys) (sym (flat_map-cons f x (map shown (drop (i + 1) xs))))
    ∙ ap (λ ys. text ++ flat_map f (map shown ys)) (sym (cut xs i d low)) ∙ before

pub line-all : {A : Type 0} (f : ℕ → List ℕ) (shown : A → ℕ) (xs : List A) (i : ℕ) (all text : List ℕ) → length xs ≤ i → text ++ flat_map f (map shown (drop i xs)) ≡ all → text ≡ all
line-all f shown xs i all text end before = sym (append-nil text) ∙ ap (λ ys. text ++ flat_map f (map shown ys)) (sym (cut-all xs i end)) ∙ before

-- what was kept, and then what passes of the rest, is what passes of all
pub kept-next : {A : Type 0} (shown : A → ℕ) (test : ℕ → Bool) (xs : List A) (i : ℕ) (d : A) (all : List ℕ) (kept new : List A) → i < length xs → test (shown (get_or xs i d)) ≡ true
    → new ≡ kept ++ get_or xs i d ∷ [] → map shown kept ++ filter test (map shown (drop i xs)) ≡ all → map shown new ++ filter test (map shown (drop (i + 1) xs)) ≡ all
kept-next shown test xs i d all kept new low passes put before =
    let x = get_or xs i d in
    let others : List ℕ = filter test (map shown (drop (i + 1) xs)) in
    let first : filter test (shown x ∷ map shown (drop (i + 1) xs)) ≡ shown x ∷ others = rw passes refl in
    ap (λ ys. map shown ys ++ others) put ∙ ap (λ ys. ys ++ others) (map-append shown kept (x ∷ [])) ∙ append_assoc (map shown kept) (shown x ∷ []) others
    ∙ ap (λ ys. map shown kept ++ ys) (sym first) ∙ ap (λ ys. map shown kept ++ filter test (map shown ys)) (sym (cut xs i d low)) ∙ before

pub left-next : {A : Type 0} (shown : A → ℕ) (test : ℕ → Bool) (xs : List A) (i : ℕ) (d : A) (all : List ℕ) (kept new : List A) → i < length xs → test (shown (get_or xs i d)) ≡ false
    → new ≡ kept → map shown kept ++ filter test (map shown (drop i xs)) ≡ all → map shown new ++ filter test (map shown (drop (i + 1) xs)) ≡ all
left-next shown test xs i d all kept new low fails same before =
    let x = get_or xs i d in
    let others : List ℕ = filter test (map shown (drop (i + 1) xs)) in
    let first : filter test (shown x ∷ map shown (drop (i + 1) xs)) ≡ others = rw fails refl in
    ap (λ ys. map shown ys ++ others) same ∙ ap (λ ys. map shown kept ++ ys) (sym first) ∙ ap (λ ys. map shown kept ++ filter test (map shown ys)) (sym (cut xs i d low)) ∙ before

pub kept-all : {A : Type 0} (shown : A → ℕ) (test : ℕ → Bool) (xs : List A) (i : ℕ) (all : List ℕ) (kept : List A) → length xs ≤ i → map shown kept ++ filter test (map shown (drop i xs)) ≡ all → map shown kept ≡ all
kept-all shown test xs i all kept end before = sym (append-nil (map shown kept)) ∙ ap (λ ys. map shown kept ++ filter test (map shown ys)) (sym (cut-all xs i end)) ∙ before

-- the lines of the numbers so far, of those that pass
pub row-next : (a : ℕ) (test : ℕ → Bool) (f : ℕ → List ℕ) (i : ℕ) (b : Bool) (old text new : List ℕ) → test (a + i) ≡ b → text ≡ old ++ flat_map f (filter test (numbers_from a i))
    → new ≡ text ++ (if b then f (a + i) else []) → new ≡ old ++ flat_map f (filter test (numbers_from a (i + 1)))
row-next a test f i b old text new is before put =
    let first : List ℕ = filter test (numbers_from a i) in
    put ∙ ap (λ ys. ys ++ (if b then f (a + i) else [])) before ∙ append_assoc old (flat_map f first) (if b then f (a + i) else [])
    ∙ ap (λ ys. old ++ (flat_map f first ++ ys)) (sym (last b is)) ∙ ap (λ ys. old ++ ys) (sym (flat_map-append f first (filter test ((a + i) ∷ []))))
    ∙ ap (λ ns. old ++ flat_map f ns) (sym (filter-append test (numbers_from a i) ((a + i) ∷ []))) ∙ ap (λ ns. old ++ flat_map f (filter test ns)) (sym (numbers-more a i))
  where
    last : (c : Bool) → test (a + i) ≡ c → flat_map f (filter test ((a + i) ∷ [])) ≡ (if c then f (a + i) else [])
    last true m = rw m (flat_map-cons f (a + i) [] ∙ append-nil (f (a + i)))
    last false m = rw m refl

-- all numbers so far
pub number-next : (a i : ℕ) (f : ℕ → List ℕ) (old text new : List ℕ) → text ≡ old ++ flat_map f (numbers_from a i) → new ≡ text ++ f (a + i) → new ≡ old ++ flat_map f (numbers_from a (i + 1))
number-next a i f old text new before put =
    put ∙ ap (λ ys. ys ++ f (a + i)) before ∙ append_assoc old (flat_map f (numbers_from a i)) (f (a + i))
    ∙ ap (λ ys. old ++ (flat_map f (numbers_from a i) ++ ys)) (sym (flat_map-cons f (a + i) [] ∙ append-nil (f (a + i))))
    ∙ ap (λ ys. old ++ ys) (sym (flat_map-append f (numbers_from a i) ((a + i) ∷ []))) ∙ ap (λ ns. old ++ flat_map f ns) (sym (numbers-more a i))

-- two numbers that are not the same do not test equal
pub unequal : (a b : ℕ) → (a ≡ b → ⊥) → a == b ≡ false
unequal a b apart = by_case (a == b) refl
  where
    by_case : (v : Bool) → a == b ≡ v → a == b ≡ false
    by_case true e = absurd (apart (eqb-true a b e))
    by_case false e = e

-- a line of five pieces, and a text of five parts
pub line-of_five : (old a b c d j z : List ℕ) → ((old ++ (a ++ (b ++ (c ++ d)))) ++ j) ++ z ≡ old ++ (a ++ ((b ++ (c ++ (d ++ (j ++ [])))) ++ z))
line-of_five old a b c d j z = simp (append_assoc, append-nil)

pub text-of_five : (old a b c d e : List ℕ) → ((((old ++ a) ++ b) ++ c) ++ d) ++ e ≡ old ++ (a ++ (b ++ (c ++ (d ++ e))))
text-of_five old a b c d e = simp append_assoc
