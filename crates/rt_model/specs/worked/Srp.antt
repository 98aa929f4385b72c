-- Worked examples: SRP.
use Rattle.std.specs.Prelude.{◌≡◌, List, [], ◌∷◌, None, Some, refl}
use Rattle.rt_task.specs.declared.PluginKind.TheVariants as plugins
use Rattle.rt_task.specs.declared.Protocol.TheVariants.{Srp}
use Rattle.rt_rules.specs.declared.history.Reply.TheVariants.{Done, Granted, Nested, NotLast, Holding}
use Rattle.rt_model.specs.worked.Computed.{computed}
use Rattle.rt_model.specs.Group.{Group}
use Rattle.rt_model.specs.Histories.{past_by}
use Rattle.rt_model.specs.worked.Samples.{Line, line, steps_of, IsTrace, group_of, cluster_with, sem_under, periodic, sporadic, using}
use Rattle.rt_model.specs.worked.Samples.{tick, irq, arrive, lock, unlock, sleep, end, runs_task, to, block, blocks}

-- SRP: while task 1 holds, task 2, a user, is kept from starting, and task 3, whose deadline is below the ceiling, is not
abbrev pub srp_ceiling : Group
srp_ceiling =
    group_of plugins.PsnEdf (cluster_with 1 0 ∷ []) (sem_under Srp ∷ []) [] (
    using (1 ∷ []) (periodic 1 1 1000 100) ∷
    using (1 ∷ []) (sporadic 2 1 1000 50) ∷
    sporadic 3 1 1000 20 ∷
    [])

abbrev pub srp_ceiling_lines : List Line
srp_ceiling_lines =
    line 0 0 irq (runs_task 1) [] ∷
    line 0 0 (lock 1) Granted [] ∷
    line 0 1 (arrive 2) Done [] ∷
    line 0 1 (arrive 3) Done (to 0 (Some 3) ∷ []) ∷
    line 0 1 irq (runs_task 3) [] ∷
    line 0 1 end Done (to 0 (Some 1) ∷ []) ∷
    line 0 1 irq (runs_task 1) [] ∷
    line 0 1 (unlock 1) Done (to 0 (Some 2) ∷ []) ∷
    line 0 1 irq (runs_task 2) [] ∷
    line 0 1 (lock 1) Granted [] ∷
    line 0 1 (unlock 1) Done [] ∷
    []

pub srp_ceiling_played : IsTrace srp_ceiling (to 0 (Some 1) ∷ []) srp_ceiling_lines
unfolding computed
srp_ceiling_played = (refl, refl)

pub srp_ceiling_blocks : blocks srp_ceiling (past_by srp_ceiling [] (steps_of srp_ceiling_lines)) ≡
    block 1 1 1 0 0 None ∷
    block 9 2 1 0 0 None ∷
    []
unfolding computed
srp_ceiling_blocks = refl

-- SRP: locks nest, none twice, and unlocks are last in, first out
abbrev pub srp_nesting : Group
srp_nesting =
    group_of plugins.PsnEdf (cluster_with 1 0 ∷ []) (sem_under Srp ∷ sem_under Srp ∷ []) [] (
    using (1 ∷ 2 ∷ []) (periodic 1 1 1000 100) ∷
    [])

abbrev pub srp_nesting_lines : List Line
srp_nesting_lines =
    line 0 0 irq (runs_task 1) [] ∷
    line 0 0 (lock 1) Granted [] ∷
    line 0 0 (lock 2) Granted [] ∷
    line 0 0 (lock 2) Nested [] ∷
    line 0 0 (sleep 5) Holding [] ∷
    line 0 0 (unlock 1) NotLast [] ∷
    line 0 0 (unlock 2) Done [] ∷
    line 0 0 (unlock 1) Done [] ∷
    []

pub srp_nesting_played : IsTrace srp_nesting (to 0 (Some 1) ∷ []) srp_nesting_lines
unfolding computed
srp_nesting_played = (refl, refl)

-- SRP: task 2 has slept, so that it has to pass the test again before it goes on
abbrev pub srp_again : Group
srp_again =
    group_of plugins.PsnEdf (cluster_with 1 0 ∷ []) (sem_under Srp ∷ sem_under Srp ∷ []) [] (
    using (1 ∷ []) (periodic 1 1 1000 100) ∷
    using (1 ∷ []) (sporadic 2 1 1000 50) ∷
    using (2 ∷ []) (sporadic 3 1 1000 30) ∷
    using (2 ∷ []) (sporadic 4 1 1000 20) ∷
    [])

abbrev pub srp_again_lines : List Line
srp_again_lines =
    line 0 0 (arrive 2) Done (to 0 (Some 2) ∷ []) ∷
    line 0 0 irq (runs_task 2) [] ∷
    line 0 0 (sleep 3) Done (to 0 (Some 1) ∷ []) ∷
    line 0 0 irq (runs_task 1) [] ∷
    line 0 0 (lock 1) Granted [] ∷
    line 0 3 tick Done [] ∷
    line 0 4 (arrive 3) Done (to 0 (Some 3) ∷ []) ∷
    line 0 4 irq (runs_task 3) [] ∷
    line 0 5 (arrive 4) Done (to 0 (Some 4) ∷ []) ∷
    line 0 5 irq (runs_task 4) [] ∷
    line 0 5 (lock 2) Granted [] ∷
    line 0 5 (unlock 2) Done [] ∷
    line 0 5 end Done (to 0 (Some 3) ∷ []) ∷
    line 0 5 irq (runs_task 3) [] ∷
    line 0 5 end Done (to 0 (Some 1) ∷ []) ∷
    line 0 5 irq (runs_task 1) [] ∷
    line 0 5 (unlock 1) Done (to 0 (Some 2) ∷ []) ∷
    []

pub srp_again_played : IsTrace srp_again (to 0 (Some 1) ∷ []) srp_again_lines
unfolding computed
srp_again_played = (refl, refl)
