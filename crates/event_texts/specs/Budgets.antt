-- What is left of the budget of a reservation, from each tick on at which it comes to be another.
use Rattle.std.specs.Prelude.{ℕ, ◌==◌, Bool, List, map}
use Rattle.rt_model.specs.Group.{Group, resv}
use Rattle.rt_model.specs.Past.{Past}
use Rattle.trace_views.specs.Cells.{resv_cell}
use Rattle.trace_views.specs.Columns.{tick_columns}
use Rattle.trace_views.specs.Spans.{Span, spans}
use Rattle.event_texts.specs.Records.{Piece, count_event}

abbrev pub same_count : ℕ → ℕ → Bool
same_count a b = a == b

unfoldable pub budget_counts : Group → ℕ → Past → ℕ → List Piece
budget_counts g process past r =
    map (λ (s : Span ℕ). count_event process s.from (resv g r).name s.value) (spans same_count (map (resv_cell g r) (tick_columns past)))
