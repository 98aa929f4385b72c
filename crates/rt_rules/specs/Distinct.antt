-- Lists in which each number stands once.
use Rattle.std.specs.Prelude.{◌≡◌, ℕ, false, List, [], ◌∷◌, ⊤}
use Rattle.rt_rules.specs.Numbers.{has}

abbrev pub IsDistinct : List ℕ → Type 0
IsDistinct [] = ⊤
IsDistinct (x ∷ xs) = (has x xs ≡ false) × IsDistinct xs
