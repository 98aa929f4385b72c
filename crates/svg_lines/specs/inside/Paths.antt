-- A path in two parts: up to the point where it begins, and the rest.
use Rattle.std.specs.Prelude.{ℕ, List, ◌++◌, codes}
use Rattle.svg_texts.specs.Shapes.{attribute, point}

abbrev pub path_to : List ℕ → ℕ → ℕ → List ℕ
path_to class x y = codes "<path" ++ (attribute (codes "class") class ++ (codes " d=\"" ++ point x y))

abbrev pub path_from : List ℕ → List ℕ
path_from moves = moves ++ codes "\"/>\n"
