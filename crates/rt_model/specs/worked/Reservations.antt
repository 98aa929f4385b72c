-- Worked examples: reservations under P-RES.
use Rattle.std.specs.Prelude.{◌≡◌, List, [], ◌∷◌, None, Some, refl}
use Rattle.rt_task.specs.declared.PluginKind.TheVariants as plugins
use Rattle.rt_task.specs.declared.ResvKind.TheVariants as resv_kinds
use Rattle.rt_rules.specs.declared.history.Reply.TheVariants.{Done, Idles, Spent, NoBudget}
use Rattle.rt_model.specs.worked.Computed.{computed}
use Rattle.rt_model.specs.Group.{Group}
use Rattle.rt_model.specs.Histories.{past_by}
use Rattle.rt_model.specs.worked.Samples.{Line, line, steps_of, IsTrace, group_of, cluster_with, reservation, periodic, sporadic}
use Rattle.rt_model.specs.worked.Samples.{with_phase}
use Rattle.rt_model.specs.worked.Samples.{client_of, early, tick, irq, arrive, work, end, runs_task, to, budget_of}

-- a sporadic reservation is replenished a period after the last time
abbrev pub sporadic_reservation : Group
sporadic_reservation =
    group_of plugins.PRes (cluster_with 1 0 ∷ []) [] (reservation resv_kinds.Sporadic 2 10 1 ∷ []) (
    client_of 1 (periodic 1 5 100 100) ∷
    [])

abbrev pub sporadic_reservation_lines : List Line
sporadic_reservation_lines =
    line 0 0 irq (runs_task 1) [] ∷
    line 0 0 work Done [] ∷
    line 0 1 work Done (to 0 None ∷ []) ∷
    line 0 1 work Spent [] ∷
    line 0 2 work NoBudget [] ∷
    line 0 2 irq Idles [] ∷
    line 0 9 tick Done [] ∷
    line 0 10 tick Done (to 0 (Some 1) ∷ []) ∷
    []

pub sporadic_reservation_played : IsTrace sporadic_reservation (to 0 (Some 1) ∷ []) sporadic_reservation_lines
unfolding computed
sporadic_reservation_played = (refl, refl)

pub sporadic_reservation_state :
    budget_of sporadic_reservation (past_by sporadic_reservation [] (steps_of sporadic_reservation_lines)) ≡ (2, Some 10)
unfolding computed
sporadic_reservation_state = refl

pub sporadic_reservation_at_opening :
    budget_of sporadic_reservation [] ≡ (2, Some 0)
unfolding computed
sporadic_reservation_at_opening = refl

-- a polling reservation loses its budget where no client is ready, until the next period begins
abbrev pub polling_reservation : Group
polling_reservation =
    group_of plugins.PRes (cluster_with 1 0 ∷ []) [] (reservation resv_kinds.Polling 2 10 1 ∷ []) (
    client_of 1 (sporadic 1 5 5 100) ∷
    [])

abbrev pub polling_reservation_lines : List Line
polling_reservation_lines =
    line 0 3 (arrive 1) Done [] ∷
    line 0 10 tick Done (to 0 (Some 1) ∷ []) ∷
    line 0 10 irq (runs_task 1) [] ∷
    line 0 10 end Done (to 0 None ∷ []) ∷
    line 0 12 (arrive 1) Done [] ∷
    line 0 20 tick Done (to 0 (Some 1) ∷ []) ∷
    []

pub polling_reservation_played : IsTrace polling_reservation (to 0 None ∷ []) polling_reservation_lines
unfolding computed
polling_reservation_played = (refl, refl)

-- it is lost at opening too, where nobody is ready
pub polling_reservation_at_opening :
    budget_of polling_reservation [] ≡ (0, Some 0)
unfolding computed
polling_reservation_at_opening = refl

-- two periods that pass in one move of the clock are one replenishment; the work of the step comes after it
abbrev pub two_periods : Group
two_periods =
    group_of plugins.PRes (cluster_with 1 0 ∷ []) [] (reservation resv_kinds.Polling 2 10 1 ∷ []) (
    client_of 1 (periodic 1 5 100 100) ∷
    [])

abbrev pub two_periods_lines : List Line
two_periods_lines =
    line 0 0 irq (runs_task 1) [] ∷
    line 0 0 work Done [] ∷
    line 0 25 work Done [] ∷
    line 0 25 work Spent [] ∷
    line 0 26 work Done (to 0 None ∷ []) ∷
    []

pub two_periods_played : IsTrace two_periods (to 0 (Some 1) ∷ []) two_periods_lines
unfolding computed
two_periods_played = (refl, refl)

-- its last replenishment is shown as the beginning of the period
pub two_periods_state :
    budget_of two_periods (past_by two_periods [] (steps_of two_periods_lines)) ≡ (0, Some 20)
unfolding computed
two_periods_state = refl

-- clients of one reservation: the one of the earliest release is in front, and of two the lower number
abbrev pub two_clients : Group
two_clients =
    group_of plugins.PRes (cluster_with 1 0 ∷ []) [] (reservation resv_kinds.Polling 3 10 1 ∷ []) (
    client_of 1 (with_phase 5 (periodic 1 5 100 100)) ∷
    client_of 1 (periodic 2 5 100 100) ∷
    client_of 1 (periodic 3 5 100 100) ∷
    [])

abbrev pub two_clients_lines : List Line
two_clients_lines =
    line 0 0 irq (runs_task 2) [] ∷
    line 0 5 tick Done [] ∷
    line 0 5 end Done (to 0 (Some 3) ∷ []) ∷
    line 0 5 irq (runs_task 3) [] ∷
    line 0 5 end Done (to 0 (Some 1) ∷ []) ∷
    line 0 5 irq (runs_task 1) [] ∷
    []

pub two_clients_played : IsTrace two_clients (to 0 (Some 2) ∷ []) two_clients_lines
unfolding computed
two_clients_played = (refl, refl)

-- reservations by priority, and of two the lower number
abbrev pub two_reservations : Group
two_reservations =
    group_of plugins.PRes (cluster_with 1 0 ∷ [])
    []
    (reservation resv_kinds.Polling 1 10 5 ∷
    reservation resv_kinds.Polling 1 10 1 ∷
    reservation resv_kinds.Polling 1 10 5 ∷
    [])
    (
    client_of 3 (periodic 1 5 100 100) ∷
    client_of 1 (periodic 2 5 100 100) ∷
    client_of 2 (periodic 3 5 100 100) ∷
    [])

abbrev pub two_reservations_lines : List Line
two_reservations_lines =
    line 0 0 irq (runs_task 3) [] ∷
    line 0 0 end Done (to 0 (Some 2) ∷ []) ∷
    line 0 0 irq (runs_task 2) [] ∷
    line 0 0 work Done (to 0 (Some 1) ∷ []) ∷
    line 0 1 work NoBudget [] ∷
    []

pub two_reservations_played : IsTrace two_reservations (to 0 (Some 3) ∷ []) two_reservations_lines
unfolding computed
two_reservations_played = (refl, refl)

-- an early client is ready at once, so that the budget is not lost at the end of its job
abbrev pub early_client : Group
early_client =
    group_of plugins.PRes (cluster_with 1 0 ∷ []) [] (reservation resv_kinds.Polling 2 10 1 ∷ []) (
    client_of 1 (early (periodic 1 5 100 100)) ∷
    [])

abbrev pub early_client_lines : List Line
early_client_lines =
    line 0 0 irq (runs_task 1) [] ∷
    line 0 0 end Done [] ∷
    line 0 0 irq (runs_task 1) [] ∷
    line 0 0 work Done [] ∷
    line 0 1 work Done (to 0 None ∷ []) ∷
    []

pub early_client_played : IsTrace early_client (to 0 (Some 1) ∷ []) early_client_lines
unfolding computed
early_client_played = (refl, refl)

-- a client whose job is released goes before one whose job is open early
abbrev pub released_before_early : Group
released_before_early =
    group_of plugins.PRes (cluster_with 1 0 ∷ []) [] (reservation resv_kinds.Polling 3 10 1 ∷ []) (
    client_of 1 (early (periodic 1 5 10 100)) ∷
    client_of 1 (with_phase 5 (periodic 2 5 100 100)) ∷
    [])

abbrev pub released_before_early_lines : List Line
released_before_early_lines =
    line 0 0 irq (runs_task 1) [] ∷
    line 0 0 end Done [] ∷
    line 0 4 tick Done [] ∷
    line 0 5 tick Done (to 0 (Some 2) ∷ []) ∷
    line 0 5 irq (runs_task 2) [] ∷
    line 0 5 end Done (to 0 (Some 1) ∷ []) ∷
    line 0 5 irq (runs_task 1) [] ∷
    []

pub released_before_early_played : IsTrace released_before_early (to 0 (Some 1) ∷ []) released_before_early_lines
unfolding computed
released_before_early_played = (refl, refl)

-- of two clients the one of the earlier release is in front, though its deadline is later
abbrev pub release_before_deadline : Group
release_before_deadline =
    group_of plugins.PRes (cluster_with 1 0 ∷ []) [] (reservation resv_kinds.Polling 3 10 1 ∷ []) (
    client_of 1 (periodic 1 5 100 100) ∷
    client_of 1 (with_phase 5 (periodic 2 5 100 5)) ∷
    [])

abbrev pub release_before_deadline_lines : List Line
release_before_deadline_lines =
    line 0 0 irq (runs_task 1) [] ∷
    line 0 5 tick Done [] ∷
    line 0 5 end Done (to 0 (Some 2) ∷ []) ∷
    []

pub release_before_deadline_played : IsTrace release_before_deadline (to 0 (Some 1) ∷ []) release_before_deadline_lines
unfolding computed
release_before_deadline_played = (refl, refl)
