-- The laws of lanes: their spans fill the row from its left edge to its last column, no two overlap, and nothing is lost.
use Rattle.std.specs.Prelude.{◌≡◌, ℕ, ◌+◌, ◌*◌, ◌<◌, List, [], ◌∷◌, length}
use Rattle.trace_views.specs.SpanLaws.{TellsApart}
use Rattle.trace_views.specs.Spans.{Span, spans}
use Rattle.svg_texts.specs.Lanes.{position_of, width_of}
use Rattle.svg_texts.specs.Parts.{Part, same_part}

-- drawn from x on up to another position: each begins where the one before ends, and none is empty
abbrev pub AreDrawnFrom : ℕ → ℕ → ℕ → List (Span Part) → Type 0
AreDrawnFrom left x end [] = x ≡ end
AreDrawnFrom left x end (s ∷ ss) = (position_of left s ≡ x) × (0 < width_of s) × AreDrawnFrom left (x + width_of s) end ss

-- What is drawn of a row fills it, side by side: it is as wide as its columns.
abbrev pub LanesFillRows : Type 0
LanesFillRows = (left : ℕ) (parts : List Part) → AreDrawnFrom left left (left + 20 * length parts) (spans same_part parts)

-- Cells that are drawn as one are equal.
abbrev pub LanesTellApart : Type 0
LanesTellApart = TellsApart Part same_part
