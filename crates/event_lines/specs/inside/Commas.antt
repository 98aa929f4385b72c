-- Events one a line, a comma behind each.
use Rattle.std.specs.Prelude.{ℕ, List, [], ◌∷◌, ◌++◌, flat_map}
use Rattle.event_texts.specs.Records.{Piece}

unfoldable pub with_comma : Piece → List ℕ
with_comma e = e ++ 44 ∷ 10 ∷ []

abbrev pub with_commas : List Piece → List ℕ
with_commas es = flat_map with_comma es
