-- What a task does, span by span over the ticks: each span of equal cells is an event, but where the task has no job.
use Rattle.std.specs.List.{concat, join_with_byte}
use Rattle.std.specs.Prelude.{ℕ, ◌==◌, ◌&&◌, Bool, true, false, List, [], ◌∷◌, ◌++◌, flat_map, map, codes, decimal}
use Rattle.rt_model.specs.Group.{Group, sem}
use Rattle.rt_model.specs.Past.{Past}
use Rattle.trace_views.specs.Cells.{Doing, TaskCell, task_cell}
use Rattle.trace_views.specs.Cells as cells
use Rattle.trace_views.specs.Columns.{tick_columns}
use Rattle.trace_views.specs.Spans.{Span, spans}
use Rattle.event_texts.specs.Records.{Piece, span_event, strings, truth}

abbrev pub same_numbers : List ℕ → List ℕ → Bool
same_numbers [] [] = true
same_numbers (x ∷ xs) (y ∷ ys) = x == y && same_numbers xs ys
same_numbers _ _ = false

abbrev pub same_truth : Bool → Bool → Bool
same_truth true b = b
same_truth false true = false
same_truth false false = true

abbrev pub same_doing : Doing → Doing → Bool
same_doing (cells.works qs) (cells.works rs) = same_numbers qs rs
same_doing (cells.blocked s) (cells.blocked r) = s == r
same_doing (cells.waits s) (cells.waits r) = s == r
same_doing cells.sleeping cells.sleeping = true
same_doing (cells.running qs) (cells.running rs) = same_numbers qs rs
same_doing cells.ready cells.ready = true
same_doing cells.away cells.away = true
same_doing _ _ = false

abbrev pub same_cell : TaskCell → TaskCell → Bool
same_cell c d =
    same_doing c.doing d.doing
    && (c.job == d.job
    && (same_numbers c.held d.held && (same_truth c.non_preemptive d.non_preemptive && same_truth c.raised d.raised)))

abbrev pub kind : Doing → Piece
kind (cells.works qs) = codes "work"
kind (cells.blocked s) = codes "blocked"
kind (cells.waits s) = codes "waits"
kind cells.sleeping = codes "sleeps"
kind (cells.running qs) = codes "runs"
kind cells.ready = codes "ready"
kind cells.away = []

-- processors, by number
abbrev pub cpus_text : List ℕ → Piece
cpus_text qs = join_with_byte 43 (map decimal qs)

module _ (g : Group) where
  abbrev pub sem_name : ℕ → Piece
  sem_name s = (sem g s).name

  abbrev pub name : Doing → Piece
  name (cells.works qs) = codes "works on " ++ cpus_text qs
  name (cells.blocked s) = codes "blocked at " ++ sem_name s
  name (cells.waits s) = codes "waits for " ++ sem_name s
  name cells.sleeping = codes "sleeps"
  name (cells.running qs) = codes "runs on " ++ cpus_text qs
  name cells.ready = codes "ready"
  name cells.away = []

  abbrev pub cell_arguments : TaskCell → Piece
  cell_arguments c = concat (
      codes "\"job\":" ∷ decimal c.job ∷ codes ",\"holds\":" ∷ strings (map sem_name c.held)
      ∷ codes ",\"nonpreemptive\":" ∷ truth c.non_preemptive ∷ codes ",\"raised\":" ∷ truth c.raised ∷ [])

  abbrev pub events_of_cell : ℕ → ℕ → ℕ → ℕ → TaskCell → Doing → List Piece
  events_of_cell process t from to c cells.away = []
  events_of_cell process t from to c d = span_event process t from to (kind d) (name d) (cell_arguments c) ∷ []

  unfoldable pub task_spans : ℕ → Past → ℕ → List Piece
  task_spans process past t =
      flat_map (λ (s : Span TaskCell). events_of_cell process t s.from s.to s.value s.value.doing)
      (spans same_cell (map (task_cell g t) (tick_columns past)))
