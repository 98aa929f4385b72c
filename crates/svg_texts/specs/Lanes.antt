-- A lane: the spans of one part of the cells of a row, each drawn from where it begins, as wide as it is long. A column has 20 pixels.
use Rattle.std.specs.Prelude.{ℕ, ◌+◌, ◌-◌, ◌*◌, List, flat_map}
use Rattle.trace_views.specs.Spans.{Span, spans}
use Rattle.svg_texts.specs.Parts.{Part, same_part}

abbrev pub position_of : ℕ → Span Part → ℕ
position_of left s = left + 20 * s.from

abbrev pub width_of : Span Part → ℕ
width_of s = 20 * (s.to - s.from)

-- spans, each by its position, its width and its part
abbrev pub drawn : (ℕ → ℕ → Part → List ℕ) → ℕ → List (Span Part) → List ℕ
drawn draw left ss = flat_map (λ (s : Span Part). draw (position_of left s) (width_of s) s.value) ss

unfoldable pub lane : (ℕ → ℕ → Part → List ℕ) → ℕ → List Part → List ℕ
lane draw left parts = drawn draw left (spans same_part parts)
