-- Rows of which each gives its last element.
use Rattle.std.specs.Prelude.{◌≡◌, ⊤, List, [], ◌∷◌, ◌++◌, map}
use Rattle.std.specs.Global.{Vec}

-- the elements of vectors
abbrev pub lists : {A : Type 0} → List (Vec A) → List (List A)
lists {A} vs = map (λ (v : Vec A). v.items) vs

-- what is left of the rows, and the last element of each, in order
abbrev pub IsPopped : {A : Type 0} → List (List A) → List (List A) → List A → Type 0
IsPopped [] [] [] = ⊤
IsPopped (row ∷ rows) (rest ∷ rests) (x ∷ xs) = (row ≡ rest ++ x ∷ []) × IsPopped rows rests xs
IsPopped _ _ _ = ⊥
