-- Lists whose elements go with their positions, or with those of another list.
use Rattle.std.specs.Prelude.{◌≡◌, ⊤, ℕ, suc, List, [], ◌∷◌, Some, slice_get}

-- each element is so at its position, where the first is at position n
abbrev pub AreFrom : {A : Type 0} → (ℕ → A → Type 0) → ℕ → List A → Type 0
AreFrom P n [] = ⊤
AreFrom P n (x ∷ xs) = P n x × AreFrom P (suc n) xs

-- both lists are as long, and the elements at each position go together
abbrev pub AreBoth : {A B : Type 0} → (A → B → Type 0) → List A → List B → Type 0
AreBoth R [] [] = ⊤
AreBoth R (x ∷ xs) (y ∷ ys) = R x y × AreBoth R xs ys
AreBoth R _ _ = ⊥

-- the elements at position k of the rows, in order
abbrev pub IsColumn : {A : Type 0} → ℕ → List (List A) → List A → Type 0
IsColumn k rows xs = AreBoth (λ row x. slice_get row k ≡ Some x) rows xs
