-- Worked examples: the tables of jobs and of tasks.
use Rattle.std.specs.Prelude.{◌≡◌, ℕ, List, [], ◌∷◌, Option, None, Some, refl, ℤ, pos, neg_ℤ}
use Rattle.rt_task.specs.declared.PluginKind.TheVariants as plugins
use Rattle.rt_rules.specs.declared.history.Reply.TheVariants.{Done}
use Rattle.rt_model.specs.worked.Computed.{computed}
use Rattle.rt_model.specs.Group.{Group}
use Rattle.rt_model.specs.Histories.{past_of}
use Rattle.rt_model.specs.Past.{Past}
use Rattle.rt_model.specs.worked.Samples.{Line, line, entries_of, IsTrace, group_of, cluster_with, periodic, with_phase}
use Rattle.rt_model.specs.worked.Samples.{tick, irq, work, end, runs_task, to}
use Rattle.trace_views.specs.worked.Computed.{shown}
use Rattle.trace_views.specs.JobTimes.{Outcome}
use Rattle.trace_views.specs.JobTimes as times
use Rattle.trace_views.specs.JobRows.{JobRow, job_rows}
use Rattle.trace_views.specs.TaskRows.{TaskRow, task_rows}

-- a line of the table of jobs, by its columns in order
abbrev pub job_line : ℕ → ℕ → ℕ → ℕ → Option ℕ → Option ℕ → Option ℕ → Outcome → ℕ → Option ℤ → Option ℤ
    → ℕ → ℕ → ℕ → ℕ → ℕ → ℕ → ℕ → JobRow
job_line t k r d start finish ended outcome units response lateness preemptions migrations moves requests queued ends ends_all = record {
  task = t;
  job = k;
  release = r;
  deadline = d;
  start = start;
  finish = finish;
  end = ended;
  outcome = outcome;
  units = units;
  response = response;
  lateness = lateness;
  preemptions = preemptions;
  migrations = migrations;
  moves = moves;
  requests = requests;
  queued = queued;
  ends = ends;
  ends_all = ends_all;
}

-- a line of the table of tasks, likewise
abbrev pub task_line : ℕ → ℕ → ℕ → ℕ → ℕ → ℕ → Option ℤ → Option ℤ → Option ℤ → ℕ → ℕ → ℕ → ℕ → ℕ → ℕ → ℕ → TaskRow
task_line t released ended late missed units response_max response_sum lateness_max preemptions migrations moves requests queued ends
    ends_all = record {
      task = t;
      released = released;
      ended = ended;
      late = late;
      missed = missed;
      units = units;
      response_max = response_max;
      response_sum = response_sum;
      lateness_max = lateness_max;
      preemptions = preemptions;
      migrations = migrations;
      moves = moves;
      requests = requests;
      queued = queued;
      ends_max = ends;
      ends_all_max = ends_all;
    }

-- a job with a later deadline is preempted after its first unit, and goes on when the other has ended
abbrev pub preempted : Group
preempted =
    group_of plugins.GsnEdf (cluster_with 1 0 ∷ []) [] [] (
    with_phase 1 (periodic 1 1 5 4) ∷
    periodic 2 3 10 9 ∷
    [])

abbrev pub preempted_lines : List Line
preempted_lines =
    line 0 0 irq (runs_task 2) [] ∷
    line 0 0 work Done [] ∷
    line 0 1 tick Done (to 0 (Some 1) ∷ []) ∷
    line 0 1 irq (runs_task 1) [] ∷
    line 0 1 work Done [] ∷
    line 0 1 end Done (to 0 (Some 2) ∷ []) ∷
    line 0 1 irq (runs_task 2) [] ∷
    line 0 2 work Done [] ∷
    line 0 3 work Done [] ∷
    line 0 3 end Done (to 0 None ∷ []) ∷
    []

pub preempted_played : IsTrace preempted (to 0 (Some 2) ∷ []) preempted_lines
unfolding computed
preempted_played = (refl, refl)

abbrev pub preempted_past : Past
preempted_past = past_of preempted (entries_of preempted_lines)

pub preempted_jobs : job_rows preempted preempted_past ≡
    job_line 1 1 1 5 (Some 1) (Some 2) (Some 1) times.kept 1 (Some (pos 1)) (Some (neg_ℤ (pos 3))) 0 0 0 0 0 0 0 ∷
    job_line 2 1 0 9 (Some 0) (Some 4) (Some 3) times.kept 3 (Some (pos 4)) (Some (neg_ℤ (pos 5))) 1 0 0 0 0 0 0 ∷
    []
unfolding computed shown
preempted_jobs = refl

pub preempted_tasks : task_rows preempted preempted_past ≡
    task_line 1 1 1 0 0 1 (Some (pos 1)) (Some (pos 1)) (Some (neg_ℤ (pos 3))) 0 0 0 0 0 0 0 ∷
    task_line 2 1 1 0 0 3 (Some (pos 4)) (Some (pos 4)) (Some (neg_ℤ (pos 5))) 1 0 0 0 0 0 0 ∷
    []
unfolding computed shown
preempted_tasks = refl

-- a job that ends after its deadline is late; the next has not ended when its deadline is over, and is missed
abbrev pub behind : Group
behind =
    group_of plugins.GsnEdf (cluster_with 1 0 ∷ []) [] [] (
    periodic 1 1 10 5 ∷
    [])

abbrev pub behind_lines : List Line
behind_lines =
    line 0 0 irq (runs_task 1) [] ∷
    line 0 6 work Done [] ∷
    line 0 7 end Done (to 0 None ∷ []) ∷
    line 0 16 tick Done (to 0 (Some 1) ∷ []) ∷
    []

pub behind_played : IsTrace behind (to 0 (Some 1) ∷ []) behind_lines
unfolding computed
behind_played = (refl, refl)

abbrev pub behind_past : Past
behind_past = past_of behind (entries_of behind_lines)

pub behind_jobs : job_rows behind behind_past ≡
    job_line 1 1 0 5 (Some 6) (Some 7) (Some 7) times.late 1 (Some (pos 7)) (Some (pos 2)) 0 0 0 0 0 0 0 ∷
    job_line 1 2 10 15 None None None times.missed 0 None None 0 0 0 0 0 0 0 ∷
    []
unfolding computed shown
behind_jobs = refl

pub behind_tasks : task_rows behind behind_past ≡
    task_line 1 2 1 1 1 1 (Some (pos 7)) (Some (pos 7)) (Some (pos 2)) 0 0 0 0 0 0 0 ∷
    []
unfolding computed shown
behind_tasks = refl
