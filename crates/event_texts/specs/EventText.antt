-- The trace events of a trace, for viewers of such events: of each group its processes and threads with their names, and what its tasks,
-- processors and reservations do.
use Rattle.std.specs.Prelude.{ℕ, ◌+◌, ◌*◌, List, [], ◌∷◌, ◌++◌, flat_map, map, codes, decimal}
use Rattle.rt_model.specs.Group.{Group, group_processors, task, tasks}
use Rattle.rt_model.specs.Past.{Past}
use Rattle.chart_texts.specs.Charts.{group_resvs}
use Rattle.event_texts.specs.Budgets.{budget_counts}
use Rattle.event_texts.specs.CpuSpans.{cpu_spans}
use Rattle.event_texts.specs.JobInstants.{task_instants}
use Rattle.event_texts.specs.Records.{Piece, process_event, thread_event}
use Rattle.event_texts.specs.TaskSpans.{task_spans}

-- a group has three processes: its tasks, its processors and its reservations
abbrev pub process_of : Group → ℕ → ℕ
process_of g which = 3 * g.number + which

abbrev pub group_name : Group → Piece → Piece
group_name g what = codes "group " ++ (decimal g.number ++ (codes " " ++ what))

module _ (g : Group) where
  abbrev pub task_names : List Piece
  task_names =
      process_event (process_of g 1) (group_name g (codes "tasks"))
      ∷ map (λ t. thread_event (process_of g 1) t (task g t).name) (tasks g)

  abbrev pub cpu_names : List Piece
  cpu_names =
      process_event (process_of g 2) (group_name g (codes "processors"))
      ∷ map (λ q. thread_event (process_of g 2) (q + 1) (codes "processor " ++ decimal q)) (group_processors g)

  abbrev pub resv_names : List ℕ → List Piece
  resv_names [] = []
  resv_names (r ∷ rs) = process_event (process_of g 3) (group_name g (codes "reservations")) ∷ []

  unfoldable pub group_events : Past → List Piece
  group_events past =
      task_names
      ++ (cpu_names
      ++ (resv_names (group_resvs g)
      ++ (flat_map (λ t. task_spans g (process_of g 1) past t ++ task_instants g (process_of g 1) past t) (tasks g)
      ++ (flat_map (cpu_spans g (process_of g 2) past) (group_processors g)
      ++ flat_map (budget_counts g (process_of g 3) past) (group_resvs g)))))

-- events one a line, each but the last with a comma behind it
abbrev pub event_lines : List Piece → List ℕ
event_lines [] = []
event_lines (e ∷ []) = e ++ 10 ∷ []
event_lines (e ∷ f ∷ es) = e ++ (44 ∷ 10 ∷ event_lines (f ∷ es))

unfoldable pub event_text : List (Group × Past) → List ℕ
event_text gs =
    codes "{\"displayTimeUnit\":\"ms\",\"traceEvents\":[\n"
    ++ (event_lines (flat_map (λ (x : Group × Past). group_events x.0 x.1) gs) ++ codes "]}\n")
