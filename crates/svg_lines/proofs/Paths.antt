-- The two parts of a path are the path.
use Rattle.std.proofs.Common.{◌≡◌, ◌∙◌, ℕ, List, ◌++◌, refl, ap, append_assoc}
use Rattle.svg_texts.specs.Shapes.{path, point}
use Rattle.svg_lines.specs.inside.Paths.{path_from, path_to}

parts : (class : List ℕ) (x y : ℕ) (moves : List ℕ) → path_to class x y ++ path_from moves ≡ path class (point x y ++ moves)
unfolding path
parts class x y moves = simp append_assoc refl

pub path_put : (out first all : List ℕ) (class : List ℕ) (x y : ℕ) (moves : List ℕ) → first ≡ out ++ path_to class x y → all ≡ first ++ path_from moves → all ≡ out ++ path class (point x y ++ moves)
path_put out first all class x y moves h k =
    k ∙ ap (λ z. z ++ path_from moves) h ∙ append_assoc out (path_to class x y) (path_from moves) ∙ ap (λ z. out ++ z) (parts class x y moves)
