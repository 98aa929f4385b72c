-- What a processor does, span by span over the ticks: each span of equal cells is an event, but where it runs nothing.
use Rattle.std.specs.Prelude.{ℕ, ◌+◌, ◌==◌, ◌&&◌, Bool, true, false, List, [], ◌∷◌, ◌++◌, flat_map, map, Option, None, Some, codes}
use Rattle.rt_model.specs.Group.{Group, task}
use Rattle.rt_model.specs.Past.{Past}
use Rattle.trace_views.specs.Cells.{CpuCell, Playing, cpu_cell}
use Rattle.trace_views.specs.Cells as cells
use Rattle.trace_views.specs.Columns.{tick_columns}
use Rattle.trace_views.specs.Spans.{Span, spans}
use Rattle.event_texts.specs.Records.{Piece, quoted, span_event}

abbrev pub same_playing : Playing → Playing → Bool
same_playing (cells.works_for t) (cells.works_for u) = t == u
same_playing (cells.runs_task t) (cells.runs_task u) = t == u
same_playing cells.idle cells.idle = true
same_playing _ _ = false

abbrev pub same_link : Option ℕ → Option ℕ → Bool
same_link None None = true
same_link (Some t) (Some u) = t == u
same_link _ _ = false

abbrev pub same_cell : CpuCell → CpuCell → Bool
same_cell c d = same_playing c.playing d.playing && same_link c.link d.link

module _ (g : Group) where
  abbrev pub link_argument : Option ℕ → Piece
  link_argument None = codes "\"link\":null"
  link_argument (Some t) = codes "\"link\":" ++ quoted (task g t).name

  -- a processor has the thread of its number and 1
  abbrev pub events_of_cell : ℕ → ℕ → ℕ → ℕ → Option ℕ → Playing → List Piece
  events_of_cell process q from to link (cells.works_for t) =
      span_event process (q + 1) from to (codes "work") (task g t).name (link_argument link) ∷ []
  events_of_cell process q from to link (cells.runs_task t) =
      span_event process (q + 1) from to (codes "runs") (task g t).name (link_argument link) ∷ []
  events_of_cell process q from to link cells.idle = []

  unfoldable pub cpu_spans : ℕ → Past → ℕ → List Piece
  cpu_spans process past q =
      flat_map (λ (s : Span CpuCell). events_of_cell process q s.from s.to s.value.link s.value.playing)
      (spans same_cell (map (cpu_cell g q) (tick_columns past)))
