-- Words and their separators.
use Rattle.std.specs.Prelude.{ℕ, List, [], ◌∷◌, ◌++◌, flat_map}

abbrev pub Word : Type 0
Word = List ℕ

-- words with a separator between them
abbrev pub join : ℕ → List Word → List ℕ
join c [] = []
join c (w ∷ []) = w
join c (w ∷ v ∷ ws) = w ++ c ∷ join c (v ∷ ws)

-- words with a separator before each of them
abbrev pub further : ℕ → List Word → List ℕ
further c ws = flat_map (λ (w : Word). c ∷ w) ws
