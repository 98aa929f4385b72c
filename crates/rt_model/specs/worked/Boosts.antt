-- Worked examples: boosted holders of FMLP under PSN-EDF and P-FP, and of MPCP.
use Rattle.std.specs.Prelude.{◌≡◌, List, [], ◌∷◌, None, Some, refl}
use Rattle.rt_task.specs.declared.PluginKind.TheVariants as plugins
use Rattle.rt_task.specs.declared.Protocol.TheVariants.{Fmlp, Mpcp}
use Rattle.rt_rules.specs.declared.history.Reply.TheVariants.{Done, Granted, Queued, Quiet}
use Rattle.rt_model.specs.worked.Computed.{computed}
use Rattle.rt_model.specs.Group.{Group}
use Rattle.rt_model.specs.Histories.{past_by}
use Rattle.rt_model.specs.worked.Samples.{Line, line, steps_of, IsTrace, group_of, cluster_with, sem_under, periodic, sporadic, in_cluster}
use Rattle.rt_model.specs.worked.Samples.{with_prio, using, irq, arrive, lock, unlock, runs_task, to, block, blocks}

-- FMLP under PSN-EDF: the holder is boosted, above the earlier deadline of task 2
abbrev pub fmlp_boost : Group
fmlp_boost =
    group_of plugins.PsnEdf (cluster_with 1 0 ∷ cluster_with 1 0 ∷ []) (sem_under Fmlp ∷ []) [] (
    using (1 ∷ []) (periodic 1 1 1000 100) ∷
    sporadic 2 1 1000 5 ∷
    using (1 ∷ []) (in_cluster 1 (periodic 3 1 1000 100)) ∷
    [])

abbrev pub fmlp_boost_lines : List Line
fmlp_boost_lines =
    line 0 0 irq (runs_task 1) [] ∷
    line 0 0 (lock 1) Granted [] ∷
    line 0 1 (arrive 2) Done [] ∷
    line 1 1 irq (runs_task 3) [] ∷
    line 1 1 (lock 1) Queued (to 1 None ∷ []) ∷
    line 0 1 (unlock 1) Done (to 0 (Some 2) ∷ to 1 (Some 3) ∷ []) ∷
    []

pub fmlp_boost_played : IsTrace fmlp_boost (to 0 (Some 1) ∷ to 1 (Some 3) ∷ []) fmlp_boost_lines
unfolding computed
fmlp_boost_played = (refl, refl)

pub fmlp_boost_blocks : blocks fmlp_boost (past_by fmlp_boost [] (steps_of fmlp_boost_lines)) ≡
    block 1 1 1 0 0 (Some 1) ∷
    block 4 3 1 1 1 (Some 1) ∷
    []
unfolding computed
fmlp_boost_blocks = refl

-- two boosted FMLP holders of one cluster: the earlier grant goes first, whatever their deadlines and numbers
abbrev pub fmlp_by_grant : Group
fmlp_by_grant =
    group_of plugins.PsnEdf (cluster_with 1 0 ∷ cluster_with 1 0 ∷ []) (sem_under Fmlp ∷ sem_under Fmlp ∷ []) [] (
    using (2 ∷ []) (periodic 1 1 1000 10) ∷
    using (1 ∷ []) (periodic 2 1 1000 20) ∷
    using (2 ∷ []) (in_cluster 1 (periodic 3 1 1000 30)) ∷
    [])

abbrev pub fmlp_by_grant_lines : List Line
fmlp_by_grant_lines =
    line 1 0 irq (runs_task 3) [] ∷
    line 1 0 (lock 2) Granted [] ∷
    line 0 0 irq (runs_task 1) [] ∷
    line 0 0 (lock 2) Queued (to 0 (Some 2) ∷ []) ∷
    line 0 1 irq (runs_task 2) [] ∷
    line 0 1 (lock 1) Granted [] ∷
    line 1 2 (unlock 2) Done [] ∷
    line 0 2 irq Quiet [] ∷
    line 0 2 (unlock 1) Done (to 0 (Some 1) ∷ []) ∷
    []

pub fmlp_by_grant_played : IsTrace fmlp_by_grant (to 0 (Some 1) ∷ to 1 (Some 3) ∷ []) fmlp_by_grant_lines
unfolding computed
fmlp_by_grant_played = (refl, refl)

pub fmlp_by_grant_blocks : blocks fmlp_by_grant (past_by fmlp_by_grant [] (steps_of fmlp_by_grant_lines)) ≡
    block 1 3 2 0 0 (Some 1) ∷
    block 3 1 2 1 1 (Some 1) ∷
    block 5 2 1 0 0 (Some 0) ∷
    []
unfolding computed
fmlp_by_grant_blocks = refl

-- under P-FP an FMLP holder goes before an MPCP holder, and both before the highest priority
abbrev pub boosts_under_p_fp : Group
boosts_under_p_fp =
    group_of plugins.PFp (cluster_with 1 0 ∷ cluster_with 1 0 ∷ []) (sem_under Fmlp ∷ sem_under Mpcp ∷ []) [] (
    using (2 ∷ []) (with_prio 5 (periodic 1 1 1000 1000)) ∷
    using (1 ∷ []) (with_prio 6 (periodic 2 1 1000 1000)) ∷
    with_prio 1 (sporadic 3 1 1000 1000) ∷
    using (2 ∷ []) (with_prio 4 (in_cluster 1 (periodic 4 1 1000 1000))) ∷
    [])

abbrev pub boosts_under_p_fp_lines : List Line
boosts_under_p_fp_lines =
    line 1 0 irq (runs_task 4) [] ∷
    line 1 0 (lock 2) Granted [] ∷
    line 0 0 irq (runs_task 1) [] ∷
    line 0 0 (lock 2) Queued (to 0 (Some 2) ∷ []) ∷
    line 0 0 irq (runs_task 2) [] ∷
    line 0 50 (lock 1) Granted [] ∷
    line 0 51 (arrive 3) Done [] ∷
    line 1 52 (unlock 2) Done [] ∷
    line 0 52 irq Quiet [] ∷
    line 0 53 (unlock 1) Done (to 0 (Some 1) ∷ []) ∷
    line 0 53 irq (runs_task 1) [] ∷
    line 0 53 (unlock 2) Done (to 0 (Some 3) ∷ []) ∷
    []

pub boosts_under_p_fp_played : IsTrace boosts_under_p_fp (to 0 (Some 1) ∷ to 1 (Some 4) ∷ []) boosts_under_p_fp_lines
unfolding computed
boosts_under_p_fp_played = (refl, refl)

pub boosts_under_p_fp_blocks : blocks boosts_under_p_fp (past_by boosts_under_p_fp [] (steps_of boosts_under_p_fp_lines)) ≡
    block 1 4 2 0 0 None ∷
    block 3 1 2 0 1 None ∷
    block 5 2 1 0 0 (Some 0) ∷
    []
unfolding computed
boosts_under_p_fp_blocks = refl

-- two boosted FMLP holders of one cluster that were granted at one clock: the lower task number goes first
abbrev pub fmlp_ties : Group
fmlp_ties =
    group_of plugins.PsnEdf (cluster_with 1 0 ∷ cluster_with 1 0 ∷ []) (sem_under Fmlp ∷ sem_under Fmlp ∷ []) [] (
    using (2 ∷ []) (periodic 1 1 1000 10) ∷
    using (1 ∷ []) (periodic 2 1 1000 20) ∷
    using (2 ∷ []) (in_cluster 1 (periodic 3 1 1000 30)) ∷
    [])

abbrev pub fmlp_ties_lines : List Line
fmlp_ties_lines =
    line 1 0 irq (runs_task 3) [] ∷
    line 1 0 (lock 2) Granted [] ∷
    line 0 0 irq (runs_task 1) [] ∷
    line 0 0 (lock 2) Queued (to 0 (Some 2) ∷ []) ∷
    line 0 1 irq (runs_task 2) [] ∷
    line 0 2 (lock 1) Granted [] ∷
    line 1 2 (unlock 2) Done (to 0 (Some 1) ∷ []) ∷
    line 0 2 irq (runs_task 1) [] ∷
    []

pub fmlp_ties_played : IsTrace fmlp_ties (to 0 (Some 1) ∷ to 1 (Some 3) ∷ []) fmlp_ties_lines
unfolding computed
fmlp_ties_played = (refl, refl)
