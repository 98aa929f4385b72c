-- Worked examples: what a reservation loses, and when it is replenished.
use Rattle.std.specs.Prelude.{◌≡◌, List, [], ◌∷◌, None, Some, refl}
use Rattle.rt_task.specs.declared.PluginKind.TheVariants as plugins
use Rattle.rt_task.specs.declared.ResvKind.TheVariants as resv_kinds
use Rattle.rt_rules.specs.declared.history.Reply.TheVariants.{Done, Idles}
use Rattle.rt_model.specs.worked.Computed.{computed}
use Rattle.rt_model.specs.Group.{Group}
use Rattle.rt_model.specs.Histories.{past_by}
use Rattle.rt_model.specs.worked.Samples.{Line, line, step_of, IsTrace, group_of, cluster_with, reservation, sporadic, client_of, tick}
use Rattle.rt_model.specs.worked.Samples.{irq, arrive, work}
use Rattle.rt_model.specs.worked.Samples.{end, runs_task, to, budget_of}

-- the budget that a new period brings is lost at once, before the job arrives
abbrev pub arrival_after_loss : Group
arrival_after_loss =
    group_of plugins.PRes (cluster_with 1 0 ∷ []) [] (reservation resv_kinds.Polling 2 10 1 ∷ []) (
    client_of 1 (sporadic 1 5 5 100) ∷
    [])

abbrev pub arrival_after_loss_lines : List Line
arrival_after_loss_lines =
    line 0 10 (arrive 1) Done [] ∷
    line 0 11 tick Done [] ∷
    line 0 20 tick Done (to 0 (Some 1) ∷ []) ∷
    []

pub arrival_after_loss_played : IsTrace arrival_after_loss (to 0 None ∷ []) arrival_after_loss_lines
unfolding computed
arrival_after_loss_played = (refl, refl)

-- a sporadic reservation keeps what is left, and the period runs from the clock of its last replenishment
abbrev pub budget_is_kept : Group
budget_is_kept =
    group_of plugins.PRes (cluster_with 1 0 ∷ []) [] (reservation resv_kinds.Sporadic 2 10 1 ∷ []) (
    client_of 1 (sporadic 1 5 5 100) ∷
    [])

abbrev pub budget_is_kept_lines : List Line
budget_is_kept_lines =
    line 0 0 (arrive 1) Done (to 0 (Some 1) ∷ []) ∷
    line 0 0 irq (runs_task 1) [] ∷
    line 0 0 work Done [] ∷
    line 0 0 end Done (to 0 None ∷ []) ∷
    line 0 5 (arrive 1) Done (to 0 (Some 1) ∷ []) ∷
    line 0 5 irq (runs_task 1) [] ∷
    line 0 5 work Done (to 0 None ∷ []) ∷
    line 0 9 tick Done [] ∷
    line 0 9 irq Idles [] ∷
    line 0 12 tick Done (to 0 (Some 1) ∷ []) ∷
    line 0 12 irq (runs_task 1) [] ∷
    line 0 12 work Done [] ∷
    line 0 13 work Done (to 0 None ∷ []) ∷
    line 0 21 tick Done [] ∷
    line 0 22 tick Done (to 0 (Some 1) ∷ []) ∷
    []

pub budget_is_kept_played : IsTrace budget_is_kept (to 0 None ∷ []) budget_is_kept_lines
unfolding computed
budget_is_kept_played = (refl, refl)

-- a sporadic reservation is replenished where a client is ready, at opening too, and not before
abbrev pub replenished_when_ready : Group
replenished_when_ready =
    group_of plugins.PRes (cluster_with 1 0 ∷ []) [] (reservation resv_kinds.Sporadic 2 10 1 ∷ []) (
    client_of 1 (sporadic 1 5 5 100) ∷
    [])

abbrev pub replenished_when_ready_lines : List Line
replenished_when_ready_lines =
    line 0 3 (arrive 1) Done (to 0 (Some 1) ∷ []) ∷
    line 0 3 irq (runs_task 1) [] ∷
    line 0 3 work Done [] ∷
    line 0 4 work Done (to 0 None ∷ []) ∷
    line 0 10 tick Done [] ∷
    line 0 13 tick Done (to 0 (Some 1) ∷ []) ∷
    line 0 13 end Done (to 0 None ∷ []) ∷
    line 0 23 tick Done [] ∷
    line 0 26 (arrive 1) Done (to 0 (Some 1) ∷ []) ∷
    line 0 26 irq (runs_task 1) [] ∷
    line 0 26 work Done [] ∷
    line 0 27 work Done (to 0 None ∷ []) ∷
    line 0 33 tick Done [] ∷
    line 0 36 tick Done (to 0 (Some 1) ∷ []) ∷
    []

pub replenished_when_ready_played : IsTrace replenished_when_ready (to 0 None ∷ []) replenished_when_ready_lines
unfolding computed
replenished_when_ready_played = (refl, refl)

pub replenished_when_ready_at_opening :
    budget_of replenished_when_ready [] ≡ (0, None)
unfolding computed
replenished_when_ready_at_opening = refl

-- a new period replenishes a polling reservation also where no client is ready: the budget is lost, the replenishment counts
abbrev pub replenished_unready : Group
replenished_unready =
    group_of plugins.PRes (cluster_with 1 0 ∷ []) [] (reservation resv_kinds.Polling 2 10 1 ∷ []) (
    client_of 1 (sporadic 1 5 5 100) ∷
    [])

pub replenished_unready_state : budget_of replenished_unready (past_by replenished_unready [] (step_of 0 10 tick ∷ [])) ≡ (0, Some 10)
unfolding computed
replenished_unready_state = refl
