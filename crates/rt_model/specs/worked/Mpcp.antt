-- Worked examples: MPCP.
use Rattle.std.specs.Prelude.{◌≡◌, List, [], ◌∷◌, None, Some, refl}
use Rattle.rt_task.specs.declared.PluginKind.TheVariants as plugins
use Rattle.rt_task.specs.declared.Protocol.TheVariants.{Mpcp}
use Rattle.rt_rules.specs.declared.history.Reply.TheVariants.{Done, Granted, Queued, Quiet}
use Rattle.rt_model.specs.worked.Computed.{computed}
use Rattle.rt_model.specs.Group.{Group}
use Rattle.rt_model.specs.Histories.{past_by}
use Rattle.rt_model.specs.worked.Samples.{Line, line, steps_of, IsTrace, group_of, cluster_with, sem_under, periodic, sporadic, in_cluster}
use Rattle.rt_model.specs.worked.Samples.{with_prio, using, irq, arrive, lock, unlock, runs_task, to, block, blocks}

-- MPCP: a holder is boosted, and a waiting task of the other cluster is not
abbrev pub mpcp_boost : Group
mpcp_boost =
    group_of plugins.PFp (cluster_with 1 0 ∷ cluster_with 1 0 ∷ []) (sem_under Mpcp ∷ []) [] (
    with_prio 1 (sporadic 1 1 1000 1000) ∷
    using (1 ∷ []) (with_prio 5 (periodic 2 1 1000 1000)) ∷
    using (1 ∷ []) (with_prio 3 (in_cluster 1 (periodic 3 1 1000 1000))) ∷
    using (1 ∷ []) (with_prio 2 (in_cluster 1 (sporadic 4 1 1000 1000))) ∷
    [])

abbrev pub mpcp_boost_lines : List Line
mpcp_boost_lines =
    line 0 0 irq (runs_task 2) [] ∷
    line 1 0 irq (runs_task 3) [] ∷
    line 0 0 (lock 1) Granted [] ∷
    line 1 0 (lock 1) Queued (to 1 None ∷ []) ∷
    line 1 1 (arrive 4) Done (to 1 (Some 4) ∷ []) ∷
    line 1 1 irq (runs_task 4) [] ∷
    line 1 1 (lock 1) Queued (to 1 None ∷ []) ∷
    line 0 1 (arrive 1) Done [] ∷
    line 0 1 irq Quiet [] ∷
    line 0 1 (unlock 1) Done (to 0 (Some 1) ∷ to 1 (Some 4) ∷ []) ∷
    line 1 1 irq (runs_task 4) [] ∷
    line 0 1 irq (runs_task 1) [] ∷
    line 1 1 (unlock 1) Done (to 1 (Some 3) ∷ []) ∷
    line 1 1 irq (runs_task 3) [] ∷
    line 1 1 (unlock 1) Done (to 1 (Some 4) ∷ []) ∷
    []

pub mpcp_boost_played : IsTrace mpcp_boost (to 0 (Some 2) ∷ to 1 (Some 3) ∷ []) mpcp_boost_lines
unfolding computed
mpcp_boost_played = (refl, refl)

pub mpcp_boost_blocks : blocks mpcp_boost (past_by mpcp_boost [] (steps_of mpcp_boost_lines)) ≡
    block 2 2 1 0 0 None ∷
    block 3 3 1 0 2 None ∷
    block 6 4 1 1 1 None ∷
    []
unfolding computed
mpcp_boost_blocks = refl

-- an MPCP holder is boosted above all that hold none
abbrev pub mpcp_in_one_cluster : Group
mpcp_in_one_cluster =
    group_of plugins.PFp (cluster_with 1 0 ∷ []) (sem_under Mpcp ∷ []) [] (
    using (1 ∷ []) (with_prio 1 (sporadic 1 1 1000 1000)) ∷
    using (1 ∷ []) (with_prio 5 (periodic 2 1 1000 1000)) ∷
    with_prio 3 (sporadic 3 1 1000 1000) ∷
    [])

abbrev pub mpcp_in_one_cluster_lines : List Line
mpcp_in_one_cluster_lines =
    line 0 0 irq (runs_task 2) [] ∷
    line 0 0 (lock 1) Granted [] ∷
    line 0 1 (arrive 3) Done [] ∷
    line 0 1 (arrive 1) Done [] ∷
    line 0 1 irq Quiet [] ∷
    line 0 1 (unlock 1) Done (to 0 (Some 1) ∷ []) ∷
    line 0 1 irq (runs_task 1) [] ∷
    []

pub mpcp_in_one_cluster_played : IsTrace mpcp_in_one_cluster (to 0 (Some 2) ∷ []) mpcp_in_one_cluster_lines
unfolding computed
mpcp_in_one_cluster_played = (refl, refl)

pub mpcp_in_one_cluster_blocks : blocks mpcp_in_one_cluster (past_by mpcp_in_one_cluster [] (steps_of mpcp_in_one_cluster_lines)) ≡
    block 1 2 1 0 0 None ∷
    []
unfolding computed
mpcp_in_one_cluster_blocks = refl

-- MPCP: the waiting request of the highest base key is next
abbrev pub mpcp_by_key : Group
mpcp_by_key =
    group_of plugins.PFp (cluster_with 1 0 ∷ cluster_with 1 0 ∷ cluster_with 1 0 ∷ []) (sem_under Mpcp ∷ []) [] (
    using (1 ∷ []) (with_prio 5 (periodic 1 1 1000 1000)) ∷
    using (1 ∷ []) (with_prio 4 (in_cluster 1 (periodic 2 1 1000 1000))) ∷
    using (1 ∷ []) (with_prio 3 (in_cluster 2 (periodic 3 1 1000 1000))) ∷
    [])

abbrev pub mpcp_by_key_lines : List Line
mpcp_by_key_lines =
    line 0 0 irq (runs_task 1) [] ∷
    line 1 0 irq (runs_task 2) [] ∷
    line 2 0 irq (runs_task 3) [] ∷
    line 0 0 (lock 1) Granted [] ∷
    line 1 0 (lock 1) Queued (to 1 None ∷ []) ∷
    line 2 0 (lock 1) Queued (to 2 None ∷ []) ∷
    line 0 1 (unlock 1) Done (to 2 (Some 3) ∷ []) ∷
    line 2 1 irq (runs_task 3) [] ∷
    line 2 1 (unlock 1) Done (to 1 (Some 2) ∷ []) ∷
    []

pub mpcp_by_key_played : IsTrace mpcp_by_key (to 0 (Some 1) ∷ to 1 (Some 2) ∷ to 2 (Some 3) ∷ []) mpcp_by_key_lines
unfolding computed
mpcp_by_key_played = (refl, refl)

pub mpcp_by_key_blocks : blocks mpcp_by_key (past_by mpcp_by_key [] (steps_of mpcp_by_key_lines)) ≡
    block 3 1 1 0 0 None ∷
    block 4 2 1 2 2 None ∷
    block 5 3 1 1 1 None ∷
    []
unfolding computed
mpcp_by_key_blocks = refl

-- two MPCP holders of one cluster: the ceilings are the priorities of the tasks of the other cluster, 4 and 3, and not the
-- 1 of task 1
abbrev pub mpcp_by_ceiling : Group
mpcp_by_ceiling =
    group_of plugins.PFp (cluster_with 1 0 ∷ cluster_with 1 0 ∷ []) (sem_under Mpcp ∷ sem_under Mpcp ∷ []) [] (
    using (1 ∷ []) (with_prio 1 (sporadic 1 1 1000 1000)) ∷
    using (1 ∷ []) (with_prio 6 (periodic 2 1 1000 1000)) ∷
    using (2 ∷ []) (with_prio 5 (periodic 3 1 1000 1000)) ∷
    using (1 ∷ []) (with_prio 4 (in_cluster 1 (sporadic 4 1 1000 1000))) ∷
    using (2 ∷ []) (with_prio 3 (in_cluster 1 (periodic 5 1 1000 1000))) ∷
    [])

abbrev pub mpcp_by_ceiling_lines : List Line
mpcp_by_ceiling_lines =
    line 1 0 irq (runs_task 5) [] ∷
    line 1 0 (lock 2) Granted [] ∷
    line 0 0 irq (runs_task 3) [] ∷
    line 0 0 (lock 2) Queued (to 0 (Some 2) ∷ []) ∷
    line 0 0 irq (runs_task 2) [] ∷
    line 0 0 (lock 1) Granted [] ∷
    line 1 1 (unlock 2) Done (to 0 (Some 3) ∷ []) ∷
    line 0 1 irq (runs_task 3) [] ∷
    line 0 1 (unlock 2) Done (to 0 (Some 2) ∷ []) ∷
    []

pub mpcp_by_ceiling_played : IsTrace mpcp_by_ceiling (to 0 (Some 3) ∷ to 1 (Some 5) ∷ []) mpcp_by_ceiling_lines
unfolding computed
mpcp_by_ceiling_played = (refl, refl)

pub mpcp_by_ceiling_blocks : blocks mpcp_by_ceiling (past_by mpcp_by_ceiling [] (steps_of mpcp_by_ceiling_lines)) ≡
    block 1 5 2 0 0 None ∷
    block 3 3 2 1 1 None ∷
    block 5 2 1 0 0 None ∷
    []
unfolding computed
mpcp_by_ceiling_blocks = refl

-- and where no task of the other cluster uses semaphore 1, its ceiling is the 6 of its holder
abbrev pub mpcp_by_own : Group
mpcp_by_own =
    group_of plugins.PFp (cluster_with 1 0 ∷ cluster_with 1 0 ∷ []) (sem_under Mpcp ∷ sem_under Mpcp ∷ []) [] (
    using (1 ∷ []) (with_prio 1 (sporadic 1 1 1000 1000)) ∷
    using (1 ∷ []) (with_prio 6 (periodic 2 1 1000 1000)) ∷
    using (2 ∷ []) (with_prio 5 (periodic 3 1 1000 1000)) ∷
    with_prio 4 (in_cluster 1 (sporadic 4 1 1000 1000)) ∷
    using (2 ∷ []) (with_prio 3 (in_cluster 1 (periodic 5 1 1000 1000))) ∷
    [])

pub mpcp_by_own_played : IsTrace mpcp_by_own (to 0 (Some 3) ∷ to 1 (Some 5) ∷ []) mpcp_by_ceiling_lines
unfolding computed
mpcp_by_own_played = (refl, refl)

-- two MPCP holders of one ceiling: the lower task number goes first
abbrev pub mpcp_ties : Group
mpcp_ties =
    group_of plugins.PFp (cluster_with 1 0 ∷ cluster_with 1 0 ∷ []) (sem_under Mpcp ∷ sem_under Mpcp ∷ []) [] (
    using (2 ∷ []) (with_prio 6 (periodic 1 1 1000 1000)) ∷
    using (1 ∷ []) (with_prio 5 (periodic 2 1 1000 1000)) ∷
    using (1 ∷ 2 ∷ []) (with_prio 4 (in_cluster 1 (periodic 3 1 1000 1000))) ∷
    [])

abbrev pub mpcp_ties_lines : List Line
mpcp_ties_lines =
    line 1 0 irq (runs_task 3) [] ∷
    line 1 0 (lock 1) Granted [] ∷
    line 0 0 irq (runs_task 2) [] ∷
    line 0 0 (lock 1) Queued (to 0 (Some 1) ∷ []) ∷
    line 0 0 irq (runs_task 1) [] ∷
    line 0 0 (lock 2) Granted [] ∷
    line 1 1 (unlock 1) Done [] ∷
    line 0 1 irq Quiet [] ∷
    line 0 1 (unlock 2) Done (to 0 (Some 2) ∷ []) ∷
    line 0 1 irq (runs_task 2) [] ∷
    []

pub mpcp_ties_played : IsTrace mpcp_ties (to 0 (Some 2) ∷ to 1 (Some 3) ∷ []) mpcp_ties_lines
unfolding computed
mpcp_ties_played = (refl, refl)

pub mpcp_ties_blocks : blocks mpcp_ties (past_by mpcp_ties [] (steps_of mpcp_ties_lines)) ≡
    block 1 3 1 0 0 None ∷
    block 3 2 1 1 1 None ∷
    block 5 1 2 0 0 None ∷
    []
unfolding computed
mpcp_ties_blocks = refl

-- MPCP: of several users in other clusters, of priorities 9 and 2, the ceiling is the smallest number; so the holder of semaphore 1
-- goes before the holder of semaphore 2, whose ceiling is 4
abbrev pub mpcp_by_smallest : Group
mpcp_by_smallest =
    group_of plugins.PFp (cluster_with 1 0 ∷ cluster_with 1 0 ∷ cluster_with 1 0 ∷ []) (sem_under Mpcp ∷ sem_under Mpcp ∷ []) [] (
    using (1 ∷ []) (with_prio 6 (periodic 1 1 1000 1000)) ∷
    using (2 ∷ []) (with_prio 5 (periodic 2 1 1000 1000)) ∷
    using (1 ∷ []) (with_prio 9 (in_cluster 1 (sporadic 3 1 1000 1000))) ∷
    using (1 ∷ []) (with_prio 2 (in_cluster 2 (sporadic 4 1 1000 1000))) ∷
    using (2 ∷ []) (with_prio 4 (in_cluster 1 (periodic 5 1 1000 1000))) ∷
    [])

abbrev pub mpcp_by_smallest_lines : List Line
mpcp_by_smallest_lines =
    line 1 0 irq (runs_task 5) [] ∷
    line 1 0 (lock 2) Granted [] ∷
    line 0 0 irq (runs_task 2) [] ∷
    line 0 0 (lock 2) Queued (to 0 (Some 1) ∷ []) ∷
    line 0 0 irq (runs_task 1) [] ∷
    line 0 0 (lock 1) Granted [] ∷
    line 1 1 (unlock 2) Done [] ∷
    line 0 1 irq Quiet [] ∷
    line 0 1 (unlock 1) Done (to 0 (Some 2) ∷ []) ∷
    []

pub mpcp_by_smallest_played : IsTrace mpcp_by_smallest (to 0 (Some 2) ∷ to 1 (Some 5) ∷ to 2 None ∷ []) mpcp_by_smallest_lines
unfolding computed
mpcp_by_smallest_played = (refl, refl)

-- MPCP: where there are users in other clusters, the holder's own priority counts for nothing, though it is higher: task 1 of
-- priority 3 has the ceiling 7, and task 2 of priority 4 has the ceiling 5
abbrev pub mpcp_without_own : Group
mpcp_without_own =
    group_of plugins.PFp (cluster_with 1 0 ∷ cluster_with 1 0 ∷ []) (sem_under Mpcp ∷ sem_under Mpcp ∷ []) [] (
    using (1 ∷ []) (with_prio 3 (sporadic 1 1 1000 1000)) ∷
    using (2 ∷ []) (with_prio 4 (periodic 2 1 1000 1000)) ∷
    using (1 ∷ []) (with_prio 7 (in_cluster 1 (sporadic 3 1 1000 1000))) ∷
    using (2 ∷ []) (with_prio 5 (in_cluster 1 (periodic 4 1 1000 1000))) ∷
    [])

abbrev pub mpcp_without_own_lines : List Line
mpcp_without_own_lines =
    line 1 0 irq (runs_task 4) [] ∷
    line 1 0 (lock 2) Granted [] ∷
    line 0 0 irq (runs_task 2) [] ∷
    line 0 0 (lock 2) Queued (to 0 None ∷ []) ∷
    line 0 1 (arrive 1) Done (to 0 (Some 1) ∷ []) ∷
    line 0 1 irq (runs_task 1) [] ∷
    line 0 1 (lock 1) Granted [] ∷
    line 1 2 (unlock 2) Done (to 0 (Some 2) ∷ []) ∷
    line 0 2 irq (runs_task 2) [] ∷
    []

pub mpcp_without_own_played : IsTrace mpcp_without_own (to 0 (Some 2) ∷ to 1 (Some 4) ∷ []) mpcp_without_own_lines
unfolding computed
mpcp_without_own_played = (refl, refl)
