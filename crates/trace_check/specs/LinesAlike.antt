-- How many lines two texts have alike at their beginning, and what stands behind so many lines.
use Rattle.std.specs.Prelude.{ℕ, zero, suc, ◌==◌, List, [], ◌∷◌, if◌then◌else◌}

-- each counts with its line feed
abbrev pub lines_alike : List ℕ → List ℕ → ℕ
lines_alike [] ys = 0
lines_alike (x ∷ xs) [] = 0
lines_alike (x ∷ xs) (y ∷ ys) =
    if x == y then (if x == 10 then suc (lines_alike xs ys) else lines_alike xs ys) else 0

-- behind the first line feed
abbrev pub behind_line : List ℕ → List ℕ
behind_line [] = []
behind_line (x ∷ xs) = if x == 10 then xs else behind_line xs

-- behind so many
abbrev pub behind_lines : ℕ → List ℕ → List ℕ
behind_lines zero text = text
behind_lines (suc n) text = behind_lines n (behind_line text)
