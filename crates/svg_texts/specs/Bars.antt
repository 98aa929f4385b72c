-- Bars, and names that fit into a width. A letter is at most 7 pixels wide.
use Rattle.std.specs.Prelude.{ℕ, ◌+◌, ◌-◌, ◌*◌, ◌/◌, Bool, List, [], ◌∷◌, ◌++◌, length, codes, nat_le, if◌then◌else◌}
use Rattle.svg_texts.specs.Elements.{colour, ink}
use Rattle.svg_texts.specs.Shapes.{rect, words}

-- the name, else the short one, else nothing
abbrev pub fit : List ℕ → List ℕ → ℕ → List ℕ
fit name short w = if nat_le (7 * length name + 2) w then name else (if nat_le (7 * length short + 2) w then short else [])

-- where there are no words no line is written
abbrev pub words_if : List ℕ → ℕ → ℕ → List ℕ → List ℕ
words_if c x y [] = []
words_if c x y (b ∷ bs) = words c x y (b ∷ bs)

-- a full bar of a task is work; a hollow one runs and does no unit
unfoldable pub bar : Bool → ℕ → ℕ → ℕ → ℕ → ℕ → List ℕ → List ℕ
bar full t x y w h s =
    rect (colour t) x y w h
    ++ ((if full then [] else rect (codes "o") (x + 3) (y + 3) (w - 6) (h - 6))
    ++ words_if (if full then ink t else codes "m") (x + w / 2) (y + 12) s)
