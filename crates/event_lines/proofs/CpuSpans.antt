-- A span of a processor is an event, where it has a task.
use Rattle.std.proofs.Common.{◌≡◌, ◌∙◌, ℕ, ◌+◌, List, [], ◌∷◌, ◌++◌, codes, sym, ap, ap₂, append-nil}
use Rattle.rt_base.specs.TaskNos.{number_of_task}
use Rattle.rt_base.specs.declared.TaskNo.{TaskNo}
use Rattle.rt_model.specs.Group.{Group, task}
use Rattle.chart_cells.specs.Cells.{playing_shown}
use Rattle.chart_cells.specs.declared.cells.Playing.{Playing}
use Rattle.chart_cells.specs.declared.cells.Playing.TheVariants.{Idle, RunsTask, WorksFor}
use Rattle.event_texts.specs.CpuSpans.{events_of_cell, link_argument}
use Rattle.event_texts.specs.Records.{Piece, span_event}
use Rattle.event_lines.specs.inside.Commas.{with_comma, with_commas}
use Rattle.event_lines.specs.Shown.{cpu_span_shown}
use Rattle.event_lines.specs.TrackEvents.{cpu_span_events}
use Rattle.event_lines.specs.declared.tracks.CpuSpan.{CpuSpan}
use Rattle.event_lines.proofs.Pieces.{alone}

module _ (g : Group) (process q : ℕ) (s : CpuSpan) where
  abbrev pub busy_event : Piece → TaskNo → Piece
  busy_event kind t = span_event process (q + 1) s.from s.to kind (task g t.0).name (link_argument g (number_of_task s.cell.link))

  played : (a : Playing) → s.cell.playing ≡ a → cpu_span_events g process q (cpu_span_shown s) ≡ events_of_cell g process q s.from s.to (number_of_task s.cell.link) (playing_shown a)
  unfolding cpu_span_events
  played a is = ap (λ (b : Playing). events_of_cell g process q s.from s.to (number_of_task s.cell.link) (playing_shown b)) is

  pub works-told : (t : TaskNo) → s.cell.playing ≡ WorksFor t → cpu_span_events g process q (cpu_span_shown s) ≡ busy_event (codes "work") t ∷ []
  works-told t is = played (WorksFor t) is

  pub runs-told : (t : TaskNo) → s.cell.playing ≡ RunsTask t → cpu_span_events g process q (cpu_span_shown s) ≡ busy_event (codes "runs") t ∷ []
  runs-told t is = played (RunsTask t) is

  pub busy-put : (old new : List ℕ) (kind : Piece) (t : TaskNo) (number : ℕ) (name : Piece) → number ≡ q + 1 → name ≡ (task g t.0).name
      → cpu_span_events g process q (cpu_span_shown s) ≡ busy_event kind t ∷ []
      → new ≡ old ++ with_comma (span_event process number s.from s.to kind name (link_argument g (number_of_task s.cell.link)))
      → new ≡ old ++ with_commas (cpu_span_events g process q (cpu_span_shown s))
  busy-put old new kind t number name number_is name_is told h =
      let link : Piece = link_argument g (number_of_task s.cell.link) in
      alone old new (busy_event kind t) (h ∙ ap₂ (λ n x. old ++ with_comma (span_event process n s.from s.to kind x link)) number_is name_is)
      ∙ ap (λ es. old ++ with_commas es) (sym told)

  pub idle-put : (old : List ℕ) → s.cell.playing ≡ Idle → old ≡ old ++ with_commas (cpu_span_events g process q (cpu_span_shown s))
  idle-put old is = sym (append-nil old) ∙ ap (λ es. old ++ with_commas es) (sym (played Idle is))
