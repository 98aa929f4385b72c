-- Worked examples: OMLP, and its counts of blocking.
use Rattle.std.specs.Prelude.{◌≡◌, false, List, [], ◌∷◌, None, Some, refl}
use Rattle.rt_task.specs.declared.PluginKind.TheVariants as plugins
use Rattle.rt_task.specs.declared.Protocol.TheVariants.{Fmlp, Omlp}
use Rattle.rt_rules.specs.declared.history.Reply.TheVariants.{Done, Granted, Queued}
use Rattle.rt_model.specs.worked.Computed.{computed}
use Rattle.rt_model.specs.Group.{Group}
use Rattle.rt_model.specs.Histories.{past_by}
use Rattle.rt_model.specs.Blocking.{is_blocked}
use Rattle.rt_model.specs.worked.Samples.{Line, line, steps_of, IsTrace, group_of, cluster_with, sem_under, periodic, sporadic, in_cluster}
use Rattle.rt_model.specs.worked.Samples.{early, using, irq, arrive, lock, unlock, sleep, end, runs_task, to, block, blocks}

-- OMLP: the third request, number 6, sees 2 * 2 - 1 = 3 critical sections end while blocked
abbrev pub omlp_bound_reached : Group
omlp_bound_reached =
    group_of plugins.GsnEdf (cluster_with 2 0 ∷ []) (sem_under Omlp ∷ []) [] (
    using (1 ∷ []) (periodic 1 1 1000 100) ∷
    using (1 ∷ []) (periodic 2 1 1000 100) ∷
    using (1 ∷ []) (sporadic 3 1 1000 50) ∷
    using (1 ∷ []) (sporadic 4 1 1000 20) ∷
    [])

abbrev pub omlp_bound_reached_lines : List Line
omlp_bound_reached_lines =
    line 0 0 irq (runs_task 1) [] ∷
    line 1 0 irq (runs_task 2) [] ∷
    line 0 0 (lock 1) Granted [] ∷
    line 1 0 (lock 1) Queued (to 1 None ∷ []) ∷
    line 1 1 (arrive 3) Done (to 1 (Some 3) ∷ []) ∷
    line 1 1 irq (runs_task 3) [] ∷
    line 1 1 (lock 1) Queued (to 1 None ∷ []) ∷
    line 1 2 (arrive 4) Done (to 1 (Some 4) ∷ []) ∷
    line 1 2 irq (runs_task 4) [] ∷
    line 1 2 (lock 1) Queued (to 1 None ∷ []) ∷
    line 0 2 (unlock 1) Done (to 1 (Some 2) ∷ []) ∷
    line 1 2 irq (runs_task 2) [] ∷
    line 1 2 (unlock 1) Done (to 1 (Some 4) ∷ []) ∷
    line 1 2 irq (runs_task 4) [] ∷
    line 1 2 (unlock 1) Done (to 0 (Some 3) ∷ []) ∷
    line 0 2 irq (runs_task 3) [] ∷
    line 0 2 (unlock 1) Done [] ∷
    []

pub omlp_bound_reached_played : IsTrace omlp_bound_reached (to 0 (Some 1) ∷ to 1 (Some 2) ∷ []) omlp_bound_reached_lines
unfolding computed
omlp_bound_reached_played = (refl, refl)

pub omlp_bound_reached_blocks : blocks omlp_bound_reached (past_by omlp_bound_reached [] (steps_of omlp_bound_reached_lines)) ≡
    block 2 1 1 0 0 (Some 3) ∷
    block 3 2 1 0 1 (Some 3) ∷
    block 6 3 1 3 3 (Some 3) ∷
    block 9 4 1 2 2 (Some 3) ∷
    []
unfolding computed
omlp_bound_reached_blocks = refl

-- OMLP: tasks that sleep count in suspension-oblivious blocking, so that request 10 counts none
abbrev pub omlp_suspended : Group
omlp_suspended =
    group_of plugins.GsnEdf (cluster_with 2 0 ∷ []) (sem_under Omlp ∷ []) [] (
    using (1 ∷ []) (periodic 1 1 1000 100) ∷
    using (1 ∷ []) (periodic 2 1 1000 100) ∷
    using (1 ∷ []) (sporadic 3 1 1000 50) ∷
    using (1 ∷ []) (sporadic 4 1 1000 20) ∷
    periodic 5 1 1000 40 ∷
    periodic 6 1 1000 41 ∷
    [])

abbrev pub omlp_suspended_lines : List Line
omlp_suspended_lines =
    line 0 0 irq (runs_task 5) [] ∷
    line 1 0 irq (runs_task 6) [] ∷
    line 0 0 (sleep 900) Done (to 0 (Some 1) ∷ []) ∷
    line 1 0 (sleep 900) Done (to 1 (Some 2) ∷ []) ∷
    line 0 0 irq (runs_task 1) [] ∷
    line 1 0 irq (runs_task 2) [] ∷
    line 0 0 (lock 1) Granted [] ∷
    line 1 0 (lock 1) Queued (to 1 None ∷ []) ∷
    line 1 1 (arrive 3) Done (to 1 (Some 3) ∷ []) ∷
    line 1 1 irq (runs_task 3) [] ∷
    line 1 1 (lock 1) Queued (to 1 None ∷ []) ∷
    line 1 2 (arrive 4) Done (to 1 (Some 4) ∷ []) ∷
    line 1 2 irq (runs_task 4) [] ∷
    line 1 2 (lock 1) Queued (to 1 None ∷ []) ∷
    line 0 2 (unlock 1) Done (to 1 (Some 2) ∷ []) ∷
    line 1 2 irq (runs_task 2) [] ∷
    line 1 2 (unlock 1) Done (to 1 (Some 4) ∷ []) ∷
    line 1 2 irq (runs_task 4) [] ∷
    line 1 2 (unlock 1) Done (to 0 (Some 3) ∷ []) ∷
    line 0 2 irq (runs_task 3) [] ∷
    line 0 2 (unlock 1) Done [] ∷
    []

pub omlp_suspended_played : IsTrace omlp_suspended (to 0 (Some 5) ∷ to 1 (Some 6) ∷ []) omlp_suspended_lines
unfolding computed
omlp_suspended_played = (refl, refl)

pub omlp_suspended_blocks : blocks omlp_suspended (past_by omlp_suspended [] (steps_of omlp_suspended_lines)) ≡
    block 6 1 1 0 0 (Some 3) ∷
    block 7 2 1 0 1 (Some 3) ∷
    block 10 3 1 0 3 (Some 3) ∷
    block 13 4 1 2 2 (Some 3) ∷
    []
unfolding computed
omlp_suspended_blocks = refl

-- blocking goes by the keys of the current jobs: task 2 waits in its second job, below tasks 1 and 3, and so is not
-- blocked
abbrev pub omlp_later_job : Group
omlp_later_job =
    group_of plugins.GsnEdf (cluster_with 2 0 ∷ []) (sem_under Omlp ∷ []) [] (
    using (1 ∷ []) (periodic 1 1 1000 500) ∷
    using (1 ∷ []) (periodic 2 1 400 400) ∷
    periodic 3 1 1000 450 ∷
    [])

abbrev pub omlp_later_job_lines : List Line
omlp_later_job_lines =
    line 0 0 irq (runs_task 2) [] ∷
    line 1 0 irq (runs_task 3) [] ∷
    line 0 0 end Done (to 0 (Some 1) ∷ []) ∷
    line 0 0 irq (runs_task 1) [] ∷
    line 0 0 (lock 1) Granted [] ∷
    line 1 400 (sleep 100) Done (to 1 (Some 2) ∷ []) ∷
    line 1 400 irq (runs_task 2) [] ∷
    line 1 400 (lock 1) Queued (to 1 None ∷ []) ∷
    line 0 401 (unlock 1) Done (to 1 (Some 2) ∷ []) ∷
    []

pub omlp_later_job_played : IsTrace omlp_later_job (to 0 (Some 2) ∷ to 1 (Some 3) ∷ []) omlp_later_job_lines
unfolding computed
omlp_later_job_played = (refl, refl)

pub omlp_later_job_blocks : blocks omlp_later_job (past_by omlp_later_job [] (steps_of omlp_later_job_lines)) ≡
    block 4 1 1 0 0 (Some 3) ∷
    block 7 2 1 0 1 (Some 3) ∷
    []
unfolding computed
omlp_later_job_blocks = refl

-- OMLP: the FIFO list has room for as many as the cluster of the users has processors
abbrev pub omlp_of_cluster : Group
omlp_of_cluster =
    group_of plugins.CEdf (cluster_with 1 0 ∷ cluster_with 2 0 ∷ []) (sem_under Omlp ∷ []) [] (
    using (1 ∷ []) (in_cluster 1 (periodic 1 1 1000 100)) ∷
    using (1 ∷ []) (in_cluster 1 (periodic 2 1 1000 100)) ∷
    using (1 ∷ []) (in_cluster 1 (sporadic 3 1 1000 50)) ∷
    [])

abbrev pub omlp_of_cluster_lines : List Line
omlp_of_cluster_lines =
    line 1 0 irq (runs_task 1) [] ∷
    line 2 0 irq (runs_task 2) [] ∷
    line 1 0 (lock 1) Granted [] ∷
    line 2 0 (lock 1) Queued (to 2 None ∷ []) ∷
    line 2 1 (arrive 3) Done (to 2 (Some 3) ∷ []) ∷
    line 2 1 irq (runs_task 3) [] ∷
    line 2 1 (lock 1) Queued (to 2 None ∷ []) ∷
    line 1 2 (unlock 1) Done (to 2 (Some 2) ∷ []) ∷
    line 2 2 irq (runs_task 2) [] ∷
    line 2 2 (unlock 1) Done (to 2 (Some 3) ∷ []) ∷
    []

pub omlp_of_cluster_played : IsTrace omlp_of_cluster (to 0 None ∷ to 1 (Some 1) ∷ to 2 (Some 2) ∷ []) omlp_of_cluster_lines
unfolding computed
omlp_of_cluster_played = (refl, refl)

pub omlp_of_cluster_blocks : blocks omlp_of_cluster (past_by omlp_of_cluster [] (steps_of omlp_of_cluster_lines)) ≡
    block 2 1 1 0 0 (Some 3) ∷
    block 3 2 1 0 1 (Some 3) ∷
    block 6 3 1 2 2 (Some 3) ∷
    []
unfolding computed
omlp_of_cluster_blocks = refl

-- a task that does not wait is not blocked
pub free_is_not_blocked : is_blocked omlp_of_cluster 1 [] ≡ false
unfolding computed
free_is_not_blocked = refl

-- priority-blocked: the job of task 1 that is open early and sleeps is counted, so that task 3 is not priority-blocked
abbrev pub early_job_counts : Group
early_job_counts =
    group_of plugins.GsnEdf (cluster_with 1 0 ∷ []) (sem_under Fmlp ∷ []) [] (
    early (periodic 1 1 10 1) ∷
    using (1 ∷ []) (periodic 2 1 1000 100) ∷
    using (1 ∷ []) (sporadic 3 1 1000 50) ∷
    [])

abbrev pub early_job_counts_lines : List Line
early_job_counts_lines =
    line 0 0 irq (runs_task 1) [] ∷
    line 0 0 end Done [] ∷
    line 0 0 irq (runs_task 1) [] ∷
    line 0 0 (sleep 900) Done (to 0 (Some 2) ∷ []) ∷
    line 0 0 irq (runs_task 2) [] ∷
    line 0 0 (lock 1) Granted [] ∷
    line 0 1 (arrive 3) Done (to 0 (Some 3) ∷ []) ∷
    line 0 1 irq (runs_task 3) [] ∷
    line 0 1 (lock 1) Queued (to 0 (Some 2) ∷ []) ∷
    line 0 1 irq (runs_task 2) [] ∷
    line 0 1 (unlock 1) Done (to 0 (Some 3) ∷ []) ∷
    []

pub early_job_counts_played : IsTrace early_job_counts (to 0 (Some 1) ∷ []) early_job_counts_lines
unfolding computed
early_job_counts_played = (refl, refl)

pub early_job_counts_blocks : blocks early_job_counts (past_by early_job_counts [] (steps_of early_job_counts_lines)) ≡
    block 5 2 1 0 0 (Some 1) ∷
    block 8 3 1 0 1 (Some 1) ∷
    []
unfolding computed
early_job_counts_blocks = refl
