-- Rows that give their last elements.
use Rattle.std.proofs.Common.{◌≡◌, List, [], ◌∷◌, ◌++◌, map, refl, sym, ap, ◌∙◌, subst, arith, length-append, length}
use Rattle.std.specs.Global.{Vec}
use Rattle.std.proofs.lemmas.List.{map-append}
use Rattle.split_part.specs.inside.Deals.{IsPopped, lists}

pub popped-then : {A : Type 0} (rows rests : List (List A)) (xs : List A) (rest : List A) (x : A) → IsPopped rows rests xs
    → IsPopped (rows ++ (rest ++ x ∷ []) ∷ []) (rests ++ rest ∷ []) (xs ++ x ∷ [])
popped-then [] [] [] rest x p = (refl, tt)
popped-then [] [] (y ∷ ys) rest x p = elim p [ ]
popped-then [] (r ∷ rests) xs rest x p = elim p [ ]
popped-then (row ∷ rows) [] xs rest x p = elim p [ ]
popped-then (row ∷ rows) (r ∷ rests) [] rest x p = elim p [ ]
popped-then (row ∷ rows) (r ∷ rests) (y ∷ ys) rest x p = (p.0, popped-then rows rests ys rest x p.1)

pub vecs_then : {A : Type 0} (rows rests : List (Vec A)) (xs : List A) (row rest : Vec A) (x : A) → IsPopped (lists rows) (lists rests) xs → row.items ≡ rest.items ++ x ∷ []
    → IsPopped (lists (rows ++ row ∷ [])) (lists (rests ++ rest ∷ [])) (xs ++ x ∷ [])
vecs_then rows rests xs row rest x p is =
    subst (λ l. IsPopped l (lists (rests ++ rest ∷ [])) (xs ++ x ∷ [])) (sym (map-append (λ (v : Vec _). v.items) rows (row ∷ []) ∙ ap (λ i. lists rows ++ i ∷ []) is))
    (subst (λ l. IsPopped (lists rows ++ (rest.items ++ x ∷ []) ∷ []) l (xs ++ x ∷ [])) (sym (map-append (λ (v : Vec _). v.items) rests (rest ∷ [])))
    (popped-then (lists rows) (lists rests) xs rest.items x p))

-- two lists with one element more that are the same
pub last-same : {A : Type 0} (xs ys : List A) (x y : A) → xs ++ x ∷ [] ≡ ys ++ y ∷ [] → (xs ≡ ys) × (x ≡ y)
last-same [] [] x y e = (refl, cc)
last-same [] (b ∷ ys) x y e = absurd (omega (arith, ap length e, length-append ys (y ∷ [])))
last-same (a ∷ xs) [] x y e = absurd (omega (arith, ap length e, length-append xs (x ∷ [])))
last-same {A = A} (a ∷ xs) (b ∷ ys) x y e =
    let heads_same : a ≡ b = first-same (xs ++ x ∷ []) (ys ++ y ∷ []) e in
    let rest = last-same xs ys x y (rest-same (xs ++ x ∷ []) (ys ++ y ∷ []) e) in
    ((λ i. heads_same i ∷ rest.0 i), rest.1)
  where
    first-same : (us vs : List A) → a ∷ us ≡ b ∷ vs → a ≡ b
    first-same us vs e = cc

    rest-same : (us vs : List A) → a ∷ us ≡ b ∷ vs → us ≡ vs
    rest-same us vs e = cc

-- of rows that are each made of something, what is left and the elements are made of it too
pub popped-each : {A C : Type 0} (f : C → List A) (x : C → A) (cs : List C) (rests : List (List A)) (xs : List A)
    → IsPopped (map (λ c. f c ++ x c ∷ []) cs) rests xs → (rests ≡ map f cs) × (xs ≡ map x cs)
popped-each f x [] [] [] p = (refl, refl)
popped-each f x [] [] (y ∷ ys) p = elim p [ ]
popped-each f x [] (r ∷ rests) xs p = elim p [ ]
popped-each f x (c ∷ cs) [] xs p = elim p [ ]
popped-each f x (c ∷ cs) (r ∷ rests) [] p = elim p [ ]
popped-each f x (c ∷ cs) (r ∷ rests) (y ∷ ys) p =
    let here = last-same (f c) r (x c) y p.0 in
    let first : r ≡ f c = sym (here.0) in
    let last : y ≡ x c = sym (here.1) in
    let others = popped-each f x cs rests ys p.1 in
    ((λ i. first i ∷ others.0 i), (λ i. last i ∷ others.1 i))
