-- The inside of a hollow bar.
use Rattle.std.specs.Prelude.{ℕ, ◌+◌, ◌-◌, Bool, List, [], codes, if◌then◌else◌}
use Rattle.svg_texts.specs.Shapes.{rect}

abbrev pub hollow : Bool → ℕ → ℕ → ℕ → ℕ → List ℕ
hollow full x y w h = if full then [] else rect (codes "o") (x + 3) (y + 3) (w - 6) (h - 6)
