-- Worked examples: PCP in two clusters, and beside MPCP.
use Rattle.std.specs.Prelude.{◌≡◌, List, [], ◌∷◌, None, Some, refl}
use Rattle.rt_task.specs.declared.PluginKind.TheVariants as plugins
use Rattle.rt_task.specs.declared.Protocol.TheVariants.{Pcp, Mpcp}
use Rattle.rt_rules.specs.declared.history.Reply.TheVariants.{Done, Granted, Queued, Quiet, Nested, NotHeld}
use Rattle.rt_model.specs.worked.Computed.{computed}
use Rattle.rt_model.specs.Group.{Group}
use Rattle.rt_model.specs.Histories.{past_by}
use Rattle.rt_model.specs.worked.Samples.{Line, line, steps_of, IsTrace, group_of, cluster_with, sem_under, periodic, in_cluster, with_prio}
use Rattle.rt_model.specs.worked.Samples.{using, irq, lock, unlock, runs_task, to, block, blocks}

-- PCP: a ceiling holds back the tasks of its own cluster alone
abbrev pub pcp_of_cluster : Group
pcp_of_cluster =
    group_of plugins.PFp (cluster_with 1 0 ∷ cluster_with 1 0 ∷ []) (sem_under Pcp ∷ sem_under Pcp ∷ []) [] (
    using (1 ∷ []) (with_prio 5 (periodic 1 1 1000 1000)) ∷
    using (2 ∷ []) (with_prio 6 (in_cluster 1 (periodic 2 1 1000 1000))) ∷
    [])

abbrev pub pcp_of_cluster_lines : List Line
pcp_of_cluster_lines =
    line 0 0 irq (runs_task 1) [] ∷
    line 1 0 irq (runs_task 2) [] ∷
    line 0 0 (lock 1) Granted [] ∷
    line 1 0 (lock 2) Granted [] ∷
    line 1 0 (unlock 2) Done [] ∷
    line 0 0 (unlock 1) Done [] ∷
    []

pub pcp_of_cluster_played : IsTrace pcp_of_cluster (to 0 (Some 1) ∷ to 1 (Some 2) ∷ []) pcp_of_cluster_lines
unfolding computed
pcp_of_cluster_played = (refl, refl)

pub pcp_of_cluster_blocks : blocks pcp_of_cluster (past_by pcp_of_cluster [] (steps_of pcp_of_cluster_lines)) ≡
    block 2 1 1 0 0 None ∷
    block 3 2 2 0 0 None ∷
    []
unfolding computed
pcp_of_cluster_blocks = refl

-- PCP: ceilings of MPCP semaphores hold nobody back
abbrev pub pcp_beside_mpcp : Group
pcp_beside_mpcp =
    group_of plugins.PFp (cluster_with 1 0 ∷ cluster_with 1 0 ∷ []) (sem_under Mpcp ∷ sem_under Pcp ∷ []) [] (
    using (1 ∷ []) (with_prio 3 (periodic 1 1 1000 1000)) ∷
    using (2 ∷ []) (with_prio 5 (periodic 2 1 1000 1000)) ∷
    using (1 ∷ []) (with_prio 4 (in_cluster 1 (periodic 3 1 1000 1000))) ∷
    [])

abbrev pub pcp_beside_mpcp_lines : List Line
pcp_beside_mpcp_lines =
    line 1 0 irq (runs_task 3) [] ∷
    line 1 0 (lock 1) Granted [] ∷
    line 0 0 irq (runs_task 1) [] ∷
    line 0 0 (lock 1) Queued (to 0 (Some 2) ∷ []) ∷
    line 0 0 irq (runs_task 2) [] ∷
    line 0 0 (lock 2) Granted [] ∷
    line 1 0 (unlock 1) Done (to 0 (Some 1) ∷ []) ∷
    line 0 0 irq (runs_task 1) [] ∷
    line 0 0 (unlock 1) Done [] ∷
    line 0 0 irq Quiet [] ∷
    line 0 0 (unlock 2) NotHeld [] ∷
    []

pub pcp_beside_mpcp_played : IsTrace pcp_beside_mpcp (to 0 (Some 1) ∷ to 1 (Some 3) ∷ []) pcp_beside_mpcp_lines
unfolding computed
pcp_beside_mpcp_played = (refl, refl)

pub pcp_beside_mpcp_blocks : blocks pcp_beside_mpcp (past_by pcp_beside_mpcp [] (steps_of pcp_beside_mpcp_lines)) ≡
    block 1 3 1 0 0 None ∷
    block 3 1 1 1 1 None ∷
    block 5 2 2 0 0 None ∷
    []
unfolding computed
pcp_beside_mpcp_blocks = refl

-- a PCP request does not nest in an MPCP one, nor the other way round, nor in itself
abbrev pub kinds_do_not_nest : Group
kinds_do_not_nest =
    group_of plugins.PFp (cluster_with 1 0 ∷ []) (sem_under Mpcp ∷ sem_under Pcp ∷ []) [] (
    using (1 ∷ 2 ∷ []) (with_prio 5 (periodic 1 1 1000 1000)) ∷
    [])

abbrev pub kinds_do_not_nest_lines : List Line
kinds_do_not_nest_lines =
    line 0 0 irq (runs_task 1) [] ∷
    line 0 0 (lock 1) Granted [] ∷
    line 0 0 (lock 2) Nested [] ∷
    line 0 0 (unlock 1) Done [] ∷
    line 0 0 (lock 2) Granted [] ∷
    line 0 0 (lock 1) Nested [] ∷
    line 0 0 (lock 2) Nested [] ∷
    line 0 0 (unlock 2) Done [] ∷
    []

pub kinds_do_not_nest_played : IsTrace kinds_do_not_nest (to 0 (Some 1) ∷ []) kinds_do_not_nest_lines
unfolding computed
kinds_do_not_nest_played = (refl, refl)

pub kinds_do_not_nest_blocks : blocks kinds_do_not_nest (past_by kinds_do_not_nest [] (steps_of kinds_do_not_nest_lines)) ≡
    block 1 1 1 0 0 None ∷
    block 4 1 2 0 0 None ∷
    []
unfolding computed
kinds_do_not_nest_blocks = refl
