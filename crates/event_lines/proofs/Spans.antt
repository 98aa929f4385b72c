-- A span of a task is an event, unless its job is not there.
use Rattle.std.proofs.Common.{◌≡◌, ◌∙◌, ℕ, List, [], ◌∷◌, ◌++◌, refl, sym, ap, append-nil}
use Rattle.rt_model.specs.Group.{Group}
use Rattle.trace_views.specs.Cells.{TaskCell}
use Rattle.chart_cells.specs.Cells.{cell_shown, doing_shown}
use Rattle.chart_cells.specs.declared.cells.Doing.{Doing}
use Rattle.chart_cells.specs.declared.cells.Doing.TheVariants.{Away, Blocked, Ready, Running, Sleeping, Waits, Works}
use Rattle.event_texts.specs.Records.{Piece, span_event}
use Rattle.event_texts.specs.TaskSpans.{cell_arguments, events_of_cell, kind, name}
use Rattle.event_lines.specs.inside.Commas.{with_comma, with_commas}
use Rattle.event_lines.specs.Shown.{task_span_shown}
use Rattle.event_lines.specs.TrackEvents.{task_span_events}
use Rattle.event_lines.specs.declared.tracks.TaskSpan.{TaskSpan}
use Rattle.event_lines.proofs.Pieces.{alone}

cell-told : (g : Group) (process t from to : ℕ) (c : TaskCell) (d : Doing) → (d ≡ Away → ⊥)
    → events_of_cell g process t from to c (doing_shown d) ≡ span_event process t from to (kind (doing_shown d)) (name g (doing_shown d)) (cell_arguments g c) ∷ []
cell-told g process t from to c (Works qs) there = refl
cell-told g process t from to c (Blocked s) there = refl
cell-told g process t from to c (Waits s) there = refl
cell-told g process t from to c Sleeping there = refl
cell-told g process t from to c (Running qs) there = refl
cell-told g process t from to c Ready there = refl
cell-told g process t from to c Away there = absurd (there refl)

module _ (g : Group) (process t : ℕ) (s : TaskSpan) where
  abbrev pub there_event : Piece
  there_event =
      let d = doing_shown s.cell.doing in
      span_event process t s.from s.to (kind d) (name g d) (cell_arguments g (cell_shown s.cell))

  span-told : (s.cell.doing ≡ Away → ⊥) → task_span_events g process t (task_span_shown s) ≡ there_event ∷ []
  unfolding task_span_events
  span-told there = cell-told g process t s.from s.to (cell_shown s.cell) s.cell.doing there

  pub there-told : (old new : List ℕ) → (s.cell.doing ≡ Away → ⊥) → new ≡ old ++ with_comma there_event → new ≡ old ++ with_commas (task_span_events g process t (task_span_shown s))
  there-told old new there h = alone old new there_event h ∙ ap (λ es. old ++ with_commas es) (sym (span-told there))

  away-told : s.cell.doing ≡ Away → task_span_events g process t (task_span_shown s) ≡ []
  unfolding task_span_events
  away-told is = ap (λ (d : Doing). events_of_cell g process t s.from s.to (cell_shown s.cell) (doing_shown d)) is

  pub away-put : (old : List ℕ) → s.cell.doing ≡ Away → old ≡ old ++ with_commas (task_span_events g process t (task_span_shown s))
  away-put old is = sym (append-nil old) ∙ ap (λ es. old ++ with_commas es) (sym (away-told is))
