-- Rows of characters: a label, filled up to the width, a blank, and two characters for each column.
use Rattle.std.specs.Prelude.{ℕ, ◌-◌, ◌==◌, List, [], ◌∷◌, ◌++◌, length, replicate, if◌then◌else◌}

-- without the blanks at the end
abbrev pub trimmed : List ℕ → List ℕ
trimmed [] = []
trimmed (c ∷ cs) = before (trimmed cs)
  where
    before : List ℕ → List ℕ
    before [] = if c == 32 then [] else (c ∷ [])
    before (d ∷ ds) = c ∷ d ∷ ds

-- with blanks up to a length
abbrev pub filled : ℕ → List ℕ → List ℕ
filled width text = text ++ replicate (width - length text) 32

-- the characters of a row, and then its line
abbrev pub characters : ℕ → List ℕ → List ℕ → List ℕ
characters width label body = filled width label ++ (32 ∷ body)

unfoldable pub row : ℕ → List ℕ → List ℕ → List ℕ
row width label body = trimmed (characters width label body) ++ (10 ∷ [])
