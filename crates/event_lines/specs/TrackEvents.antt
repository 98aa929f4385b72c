-- The trace events that tracks tell, and their text. Tasks, semaphores and reservations are named as in the set.
use Rattle.std.specs.Prelude.{ℕ, ◌+◌, ◌*◌, List, [], ◌∷◌, ◌++◌, flat_map, map, Option, None, Some, codes, decimal}
use Rattle.rt_task.specs.declared.Parts.{Parts}
use Rattle.rt_model.specs.Group as groups
use Rattle.rt_model.specs.Group.{Group}
use Rattle.trace_views.specs.Cells.{CpuCell, TaskCell}
use Rattle.trace_views.specs.Spans.{Span}
use Rattle.event_texts.specs.CpuSpans as cpu_texts
use Rattle.event_texts.specs.EventText.{event_lines}
use Rattle.event_texts.specs.JobInstants.{deadline_name}
use Rattle.event_texts.specs.Records.{Piece, count_event, instant_event, process_event, thread_event}
use Rattle.event_texts.specs.TaskSpans as task_texts
use Rattle.event_lines.specs.Tracks.{CpuTrack, Due, GroupTracks, JobMarks, ResvTrack, TaskTrack}

-- a group of a set, where it does not matter which
abbrev pub some_group : Parts → Group
some_group p = record { setup = p; number = 0 }

-- the processes of a group by its number: its tasks, its processors and its reservations
abbrev pub task_process : ℕ → ℕ
task_process n = 3 * n + 1

abbrev pub cpu_process : ℕ → ℕ
cpu_process n = 3 * n + 2

abbrev pub resv_process : ℕ → ℕ
resv_process n = 3 * n + 3

abbrev pub group_words : ℕ → Piece → Piece
group_words n what = codes "group " ++ (decimal n ++ (codes " " ++ what))

-- a process, and what of the group it is
unfoldable pub process_name : ℕ → ℕ → Piece → Piece
process_name process n what = process_event process (group_words n what)

-- ---- the jobs of a task

unfoldable pub release_events : ℕ → ℕ → ℕ → Option ℕ → List Piece
release_events process t k None = []
release_events process t k (Some tick) = instant_event process t tick (codes "release") k ∷ []

unfoldable pub deadline_events : ℕ → ℕ → ℕ → Option Due → List Piece
deadline_events process t k None = []
deadline_events process t k (Some d) = instant_event process t (d.tick + 1) (deadline_name d.missed) k ∷ []

unfoldable pub end_events : ℕ → ℕ → ℕ → Option ℕ → List Piece
end_events process t k None = []
end_events process t k (Some tick) = instant_event process t (tick + 1) (codes "end") k ∷ []

unfoldable pub job_events : ℕ → ℕ → JobMarks → List Piece
job_events process t j =
    release_events process t j.job j.release ++ (deadline_events process t j.job j.deadline ++ end_events process t j.job j.end)

-- ---- the names of processors and reservations

unfoldable pub cpu_thread : ℕ → CpuTrack → Piece
cpu_thread process x = thread_event process (x.cpu + 1) (codes "processor " ++ decimal x.cpu)

abbrev pub cpu_names : ℕ → List CpuTrack → List Piece
cpu_names n xs = process_name (cpu_process n) n (codes "processors") ∷ map (cpu_thread (cpu_process n)) xs

abbrev pub resv_names : ℕ → List ResvTrack → List Piece
resv_names n [] = []
resv_names n (x ∷ xs) = process_name (resv_process n) n (codes "reservations") ∷ []

module _ (g : Group) where
  unfoldable pub task_thread : ℕ → TaskTrack → Piece
  task_thread process x = thread_event process x.task (groups.task g x.task).name

  abbrev pub task_names : ℕ → List TaskTrack → List Piece
  task_names n xs = process_name (task_process n) n (codes "tasks") ∷ map (task_thread (task_process n)) xs

  -- ---- spans

  unfoldable pub task_span_events : ℕ → ℕ → Span TaskCell → List Piece
  task_span_events process t s = task_texts.events_of_cell g process t s.from s.to s.value s.value.doing

  abbrev pub task_events : ℕ → TaskTrack → List Piece
  task_events process x = flat_map (task_span_events process x.task) x.spans ++ flat_map (job_events process x.task) x.jobs

  unfoldable pub cpu_span_events : ℕ → ℕ → Span CpuCell → List Piece
  cpu_span_events process q s = cpu_texts.events_of_cell g process q s.from s.to s.value.link s.value.playing

  abbrev pub cpu_events : ℕ → CpuTrack → List Piece
  cpu_events process x = flat_map (cpu_span_events process x.cpu) x.spans

  unfoldable pub budget_event : ℕ → ℕ → Span ℕ → Piece
  budget_event process r s = count_event process s.from (groups.resv g r).name s.value

  abbrev pub resv_events : ℕ → ResvTrack → List Piece
  resv_events process x = map (budget_event process x.resv) x.spans

  -- ---- a group

  unfoldable pub tracks_events : GroupTracks → List Piece
  tracks_events x =
      task_names x.group x.tasks
      ++ (cpu_names x.group x.cpus
      ++ (resv_names x.group x.resvs
      ++ (flat_map (task_events (task_process x.group)) x.tasks
      ++ (flat_map (cpu_events (cpu_process x.group)) x.cpus
      ++ flat_map (resv_events (resv_process x.group)) x.resvs))))

-- the text, of all groups of a set
unfoldable pub tracks_text : Parts → List GroupTracks → List ℕ
tracks_text p xs =
    codes "{\"displayTimeUnit\":\"ms\",\"traceEvents\":[\n"
    ++ (event_lines (flat_map (tracks_events (some_group p)) xs) ++ codes "]}\n")
