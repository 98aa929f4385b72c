-- The first line of a text.
use Rattle.std.specs.Prelude.{ℕ, suc, ◌==◌, List, [], ◌∷◌, if◌then◌else◌}

-- how many bytes stand before the first line feed, or in all where there is none
abbrev pub line_length : List ℕ → ℕ
line_length [] = 0
line_length (x ∷ xs) = if x == 10 then 0 else suc (line_length xs)
