-- The lines of links.
use Rattle.std.specs.Prelude.{ℕ, List, [], ◌∷◌, flat_map, codes, decimal}
use Rattle.rt_model.specs.Group.{Group}
use Rattle.trace_lines.specs.Lines.{Link}
use Rattle.why_texts.specs.Pieces.{state_line, task_or_dash}

module _ (g : Group) where
  abbrev pub line_of : Link → List ℕ
  line_of x = state_line (codes "processor " ∷ decimal x.0 ∷ codes " linked " ∷ task_or_dash g x.1 ∷ [])

  abbrev pub lines_of : List Link → List ℕ
  lines_of xs = flat_map line_of xs
