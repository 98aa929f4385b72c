-- Worked examples: the tables where tasks share a semaphore, and where one moves to another processor.
use Rattle.std.specs.Prelude.{◌≡◌, List, [], ◌∷◌, None, Some, refl, pos, neg_ℤ}
use Rattle.rt_task.specs.declared.PluginKind.TheVariants as plugins
use Rattle.rt_task.specs.declared.Protocol.TheVariants.{Mpcp}
use Rattle.rt_rules.specs.declared.history.Reply.TheVariants.{Done, Granted, Queued, Quiet}
use Rattle.rt_model.specs.worked.Computed.{computed}
use Rattle.rt_model.specs.Group.{Group}
use Rattle.rt_model.specs.Histories.{past_of}
use Rattle.rt_model.specs.Past.{Past}
use Rattle.rt_model.specs.worked.Samples.{Line, line, entries_of, IsTrace, group_of, cluster_with, periodic, sporadic, sem_under}
use Rattle.rt_model.specs.worked.Samples.{arrive, end, in_cluster, irq, lock, runs_task, tick, to, unlock, using, with_phase, with_prio}
use Rattle.rt_model.specs.worked.Samples.{work}
use Rattle.trace_views.specs.worked.Computed.{shown}
use Rattle.trace_views.specs.JobTimes as times
use Rattle.trace_views.specs.JobRows.{job_rows}
use Rattle.trace_views.specs.TaskRows.{task_rows}
use Rattle.trace_views.specs.worked.Tables.{job_line, task_line}

-- a task waits for a semaphore of another processor, and sees one critical section end; a boosted holder is preempted after its unlock
abbrev pub remote : Group
remote =
    group_of plugins.PFp (cluster_with 1 0 ∷ cluster_with 1 0 ∷ []) (sem_under Mpcp ∷ []) [] (
    with_prio 1 (sporadic 1 1 1000 1000) ∷
    using (1 ∷ []) (with_prio 5 (periodic 2 2 1000 1000)) ∷
    in_cluster 1 (using (1 ∷ []) (with_prio 3 (periodic 3 2 1000 1000))) ∷
    [])

abbrev pub remote_lines : List Line
remote_lines =
    line 0 0 irq (runs_task 2) [] ∷
    line 1 0 irq (runs_task 3) [] ∷
    line 0 0 (lock 1) Granted [] ∷
    line 1 0 (lock 1) Queued (to 1 None ∷ []) ∷
    line 0 1 (arrive 1) Done [] ∷
    line 0 1 irq Quiet [] ∷
    line 0 1 work Done [] ∷
    line 0 1 (unlock 1) Done (to 0 (Some 1) ∷ to 1 (Some 3) ∷ []) ∷
    line 1 1 irq (runs_task 3) [] ∷
    line 0 1 irq (runs_task 1) [] ∷
    line 0 2 work Done [] ∷
    line 0 3 end Done (to 0 (Some 2) ∷ []) ∷
    line 1 3 (unlock 1) Done [] ∷
    line 1 3 end Done (to 1 None ∷ []) ∷
    line 0 3 irq (runs_task 2) [] ∷
    line 0 3 end Done (to 0 None ∷ []) ∷
    []

pub remote_played : IsTrace remote (to 0 (Some 2) ∷ to 1 (Some 3) ∷ []) remote_lines
unfolding computed
remote_played = (refl, refl)

abbrev pub remote_past : Past
remote_past = past_of remote (entries_of remote_lines)

pub remote_jobs : job_rows remote remote_past ≡
    job_line 1 1 1 1001 (Some 2) (Some 3) (Some 3) times.kept 1 (Some (pos 2)) (Some (neg_ℤ (pos 998))) 0 0 0 0 0 0 0 ∷
    job_line 2 1 0 1000 (Some 1) (Some 2) (Some 3) times.kept 1 (Some (pos 2)) (Some (neg_ℤ (pos 998))) 1 0 0 1 0 0 0 ∷
    job_line 3 1 0 1000 None (Some 3) (Some 3) times.kept 0 (Some (pos 3)) (Some (neg_ℤ (pos 997))) 0 0 0 1 1 1 1 ∷
    []
unfolding computed shown
remote_jobs = refl

pub remote_tasks : task_rows remote remote_past ≡
    task_line 1 1 1 0 0 1 (Some (pos 2)) (Some (pos 2)) (Some (neg_ℤ (pos 998))) 0 0 0 0 0 0 0 ∷
    task_line 2 1 1 0 0 1 (Some (pos 2)) (Some (pos 2)) (Some (neg_ℤ (pos 998))) 1 0 0 1 0 0 0 ∷
    task_line 3 1 1 0 0 0 (Some (pos 3)) (Some (pos 3)) (Some (neg_ℤ (pos 997))) 0 0 0 1 1 1 1 ∷
    []
unfolding computed shown
remote_tasks = refl

-- a job is preempted on one processor, is taken up by another, which is a move, and works there, which is a migration
abbrev pub moving : Group
moving =
    group_of plugins.GsnEdf (cluster_with 2 0 ∷ []) [] [] (
    periodic 1 1 20 5 ∷
    periodic 2 4 20 15 ∷
    with_phase 1 (periodic 3 3 20 6) ∷
    [])

abbrev pub moving_lines : List Line
moving_lines =
    line 0 0 irq (runs_task 1) [] ∷
    line 1 0 irq (runs_task 2) [] ∷
    line 0 0 work Done [] ∷
    line 1 0 work Done [] ∷
    line 1 1 tick Done (to 1 (Some 3) ∷ []) ∷
    line 1 1 irq (runs_task 3) [] ∷
    line 0 1 end Done (to 0 (Some 2) ∷ []) ∷
    line 0 1 irq (runs_task 2) [] ∷
    line 0 1 work Done [] ∷
    line 1 1 work Done [] ∷
    []

pub moving_played : IsTrace moving (to 0 (Some 1) ∷ to 1 (Some 2) ∷ []) moving_lines
unfolding computed
moving_played = (refl, refl)

pub moving_jobs : job_rows moving (past_of moving (entries_of moving_lines)) ≡
    job_line 1 1 0 5 (Some 0) (Some 1) (Some 1) times.kept 1 (Some (pos 1)) (Some (neg_ℤ (pos 4))) 0 0 0 0 0 0 0 ∷
    job_line 2 1 0 15 (Some 0) None None times.under_way 2 None None 1 1 1 0 0 0 0 ∷
    job_line 3 1 1 7 (Some 1) None None times.under_way 1 None None 0 0 0 0 0 0 0 ∷
    []
unfolding computed shown
moving_jobs = refl
