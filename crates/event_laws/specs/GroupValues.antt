-- The trace events of groups, each as the members of its object, in the order of their text.
use Rattle.std.specs.Prelude.{ℕ, ◌+◌, List, [], ◌∷◌, ◌++◌, flat_map, map, nat_le, Option, None, Some, codes, decimal, if◌then◌else◌}
use Rattle.rt_rules.specs.Numbers.{numbers_from}
use Rattle.rt_model.specs.Group.{Group, group_processors, resv, task, tasks}
use Rattle.rt_model.specs.Past.{Past, now}
use Rattle.trace_views.specs.Cells.{CpuCell, Doing, Playing, TaskCell, cpu_cell, resv_cell, task_cell}
use Rattle.trace_views.specs.Cells as cells
use Rattle.trace_views.specs.Columns.{tick_columns}
use Rattle.trace_views.specs.JobRows.{listed}
use Rattle.trace_views.specs.JobTimes.{deadline_of, end, release_of}
use Rattle.trace_views.specs.Marks.{is_missed}
use Rattle.trace_views.specs.Spans.{Span, spans}
use Rattle.chart_texts.specs.Charts.{group_resvs}
use Rattle.serde_json.specs.Data.{Data, array, boolean, null, string}
use Rattle.event_texts.specs.Budgets.{same_count}
use Rattle.event_texts.specs.CpuSpans as cpus
use Rattle.event_texts.specs.EventText.{group_name, process_of}
use Rattle.event_texts.specs.JobInstants.{deadline_name}
use Rattle.event_texts.specs.TaskSpans as texts
use Rattle.event_texts.specs.TaskSpans.{kind, name, same_cell, sem_name}
use Rattle.event_laws.specs.EventValues.{Field, count_fields, instant_fields, items_of, object_of, process_fields, span_fields}
use Rattle.event_laws.specs.EventValues.{strings_of, thread_fields, whole}

module _ (g : Group) where
  -- ---- tasks

  abbrev pub cell_fields : TaskCell → List Field
  cell_fields c =
      (codes "job", whole c.job) ∷ (codes "holds", strings_of (map (sem_name g) c.held))
      ∷ (codes "nonpreemptive", boolean c.non_preemptive) ∷ (codes "raised", boolean c.raised) ∷ []

  abbrev pub events_of_cell : ℕ → ℕ → ℕ → ℕ → TaskCell → Doing → List (List Field)
  events_of_cell process t from to c cells.away = []
  events_of_cell process t from to c d = span_fields process t from to (kind d) (name g d) (cell_fields c) ∷ []

  abbrev pub task_events : ℕ → Past → ℕ → List (List Field)
  task_events process past t =
      flat_map (λ (s : Span TaskCell). events_of_cell process t s.from s.to s.value s.value.doing)
      (spans same_cell (map (task_cell g t) (tick_columns past)))

  abbrev pub end_event : ℕ → ℕ → ℕ → Option ℕ → List (List Field)
  end_event process t k None = []
  end_event process t k (Some tick) = instant_fields process t (tick + 1) (codes "end") k ∷ []

  abbrev pub job_events : ℕ → ℕ → Past → ℕ → List (List Field)
  job_events process t past k =
      (if nat_le (release_of g t k past) (now past)
      then (instant_fields process t (release_of g t k past) (codes "release") k ∷ [])
      else [])
      ++ ((if nat_le (deadline_of g t k past) (now past)
      then (instant_fields process t (deadline_of g t k past + 1) (deadline_name (is_missed g t past k)) k ∷ [])
      else [])
      ++ end_event process t k (end t k past))

  abbrev pub instant_events : ℕ → Past → ℕ → List (List Field)
  instant_events process past t = flat_map (job_events process t past) (numbers_from 1 (listed g t past))

  -- ---- processors and reservations

  abbrev pub link_fields : Option ℕ → List Field
  link_fields None = (codes "link", null) ∷ []
  link_fields (Some t) = (codes "link", string (task g t).name) ∷ []

  abbrev pub events_of_playing : ℕ → ℕ → ℕ → ℕ → Option ℕ → Playing → List (List Field)
  events_of_playing process q from to link (cells.works_for t) =
      span_fields process (q + 1) from to (codes "work") (task g t).name (link_fields link) ∷ []
  events_of_playing process q from to link (cells.runs_task t) =
      span_fields process (q + 1) from to (codes "runs") (task g t).name (link_fields link) ∷ []
  events_of_playing process q from to link cells.idle = []

  abbrev pub cpu_events : ℕ → Past → ℕ → List (List Field)
  cpu_events process past q =
      flat_map (λ (s : Span CpuCell). events_of_playing process q s.from s.to s.value.link s.value.playing)
      (spans cpus.same_cell (map (cpu_cell g q) (tick_columns past)))

  abbrev pub budget_events : ℕ → Past → ℕ → List (List Field)
  budget_events process past r =
      map (λ (s : Span ℕ). count_fields process s.from (resv g r).name s.value)
      (spans same_count (map (resv_cell g r) (tick_columns past)))

  -- ---- the group

  abbrev pub task_names : List (List Field)
  task_names =
      process_fields (process_of g 1) (group_name g (codes "tasks"))
      ∷ map (λ t. thread_fields (process_of g 1) t (task g t).name) (tasks g)

  abbrev pub cpu_names : List (List Field)
  cpu_names =
      process_fields (process_of g 2) (group_name g (codes "processors"))
      ∷ map (λ q. thread_fields (process_of g 2) (q + 1) (codes "processor " ++ decimal q)) (group_processors g)

  abbrev pub resv_names : List ℕ → List (List Field)
  resv_names [] = []
  resv_names (r ∷ rs) = process_fields (process_of g 3) (group_name g (codes "reservations")) ∷ []

  unfoldable pub group_events : Past → List (List Field)
  group_events past =
      task_names
      ++ (cpu_names
      ++ (resv_names (group_resvs g)
      ++ (flat_map (λ t. task_events (process_of g 1) past t ++ instant_events (process_of g 1) past t) (tasks g)
      ++ (flat_map (cpu_events (process_of g 2) past) (group_processors g)
      ++ flat_map (budget_events (process_of g 3) past) (group_resvs g)))))

-- the whole text
abbrev pub document_of : List (List Field) → Data
document_of events =
    object_of ((codes "displayTimeUnit", string (codes "ms")) ∷ (codes "traceEvents", array (items_of (map object_of events))) ∷ [])

unfoldable pub event_value : List (Group × Past) → Data
event_value gs = document_of (flat_map (λ (x : Group × Past). group_events x.0 x.1) gs)
