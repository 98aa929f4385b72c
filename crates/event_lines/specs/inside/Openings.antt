-- Events up to the name in them, and the names of semaphores.
use Rattle.std.specs.Prelude.{ℕ, List, [], ◌-◌, ◌++◌, codes, map, slice_index_or}
use Rattle.rt_task.specs.declared.Sem.{Sem}
use Rattle.rt_model.specs.Group.{Group, no_sem}
use Rattle.trace_views.specs.Cells.{Doing, TaskCell}
use Rattle.trace_views.specs.Cells as cells
use Rattle.event_texts.specs.Records.{Piece, begun, microseconds, on_thread, strings, truth}
use Rattle.event_texts.specs.TaskSpans.{cpus_text, sem_name}
use Rattle.event_lines.specs.declared.records.Phase.{Phase}
use Rattle.event_lines.specs.declared.records.Phase.TheVariants.{Count, Instant, Name, Span}

-- what an event is
abbrev pub letter : Phase → Piece
letter Span = codes "X"
letter Instant = codes "i"
letter Count = codes "C"
letter Name = codes "M"

abbrev pub named_to : Piece → Piece
named_to what = codes ",\"name\":\"" ++ (what ++ codes "\",\"args\":{\"name\":\"")

abbrev pub span_times : ℕ → ℕ → Piece
span_times from to = microseconds from ++ (codes ",\"dur\":" ++ microseconds (to - from))

-- a thread, and how its spans and its instants begin, up to their tick
pub record Thread : Type 0 where
  pub process : ℕ
  pub number : ℕ

abbrev pub spans_on : Thread → Piece
spans_on t = on_thread (codes "X") t.process t.number ++ codes ",\"ts\":"

abbrev pub instants_on : Thread → Piece
instants_on t = on_thread (codes "i") t.process t.number ++ codes ",\"ts\":"

abbrev pub span_to : Thread → ℕ → ℕ → Piece
span_to t from to = spans_on t ++ span_times from to

-- the category of a span, up to its name
abbrev pub category : Piece → Piece
category kind = codes ",\"cat\":\"" ++ (kind ++ codes "\",\"name\":\"")

-- the name of an instant, up to the number of its job
abbrev pub instant_words : Piece → Piece
instant_words name = codes ",\"s\":\"t\",\"name\":\"" ++ (name ++ codes "\",\"args\":{\"job\":")

abbrev pub count_to : ℕ → ℕ → Piece
count_to process tick = begun (codes "C") process ++ (codes ",\"ts\":" ++ (microseconds tick ++ codes ",\"name\":\""))

-- a semaphore by its number
abbrev pub name_in : List Sem → ℕ → Piece
name_in sems s = (slice_index_or sems (s - 1) no_sem).name

-- ---- what a task does: first the words, and then which processors or semaphore

abbrev pub verb : Doing → Piece
verb (cells.works qs) = codes "works on "
verb (cells.blocked s) = codes "blocked at "
verb (cells.waits s) = codes "waits for "
verb cells.sleeping = codes "sleeps"
verb (cells.running qs) = codes "runs on "
verb cells.ready = codes "ready"
verb cells.away = []

abbrev pub object : Group → Doing → Piece
object g (cells.works qs) = cpus_text qs
object g (cells.blocked s) = sem_name g s
object g (cells.waits s) = sem_name g s
object g (cells.running qs) = cpus_text qs
object g _ = []

-- what a span of a task says behind the number of its job
abbrev pub cell_rest : Group → TaskCell → Piece
cell_rest g c =
    codes ",\"holds\":" ++ (strings (map (sem_name g) c.held)
    ++ (codes ",\"nonpreemptive\":" ++ (truth c.non_preemptive ++ (codes ",\"raised\":" ++ (truth c.raised ++ codes "}},\n")))))
