-- Worked examples: table reservations under P-RES.
use Rattle.std.specs.Prelude.{◌≡◌, List, [], ◌∷◌, None, Some, refl}
use Rattle.rt_task.specs.declared.PluginKind.TheVariants as plugins
use Rattle.rt_rules.specs.declared.history.Reply.TheVariants.{Done, Idles, NoBudget}
use Rattle.rt_model.specs.worked.Computed.{computed}
use Rattle.rt_model.specs.Group.{Group}
use Rattle.rt_model.specs.Histories.{past_by}
use Rattle.rt_model.specs.worked.Samples.{Line, line, steps_of, IsTrace, group_of, cluster_with, table, slot, periodic, client_of, tick}
use Rattle.rt_model.specs.worked.Samples.{irq, work}
use Rattle.rt_model.specs.worked.Samples.{runs_task, to, budget_of, budget_at}

-- each reservation is served in its slots, whatever its clients work, and not outside of them
abbrev pub two_tables : Group
two_tables =
    group_of plugins.PRes (cluster_with 1 0 ∷ [])
    []
    (table 10 1 (slot 0 3 ∷ []) ∷
    table 10 1 (slot 5 6 ∷ []) ∷
    [])
    (
    client_of 1 (periodic 1 5 100 100) ∷
    client_of 2 (periodic 2 1 100 100) ∷
    [])

abbrev pub two_tables_lines : List Line
two_tables_lines =
    line 0 0 irq (runs_task 1) [] ∷
    line 0 0 work Done [] ∷
    line 0 3 work NoBudget (to 0 None ∷ []) ∷
    line 0 3 irq Idles [] ∷
    line 0 5 tick Done (to 0 (Some 2) ∷ []) ∷
    line 0 5 irq (runs_task 2) [] ∷
    line 0 6 tick Done (to 0 None ∷ []) ∷
    line 0 10 tick Done (to 0 (Some 1) ∷ []) ∷
    []

pub two_tables_played : IsTrace two_tables (to 0 (Some 1) ∷ []) two_tables_lines
unfolding computed
two_tables_played = (refl, refl)

-- what is left is what is left of the slot, from whose beginning it is shown
pub two_tables_at_opening :
    budget_of two_tables [] ≡ (3, Some 0)
unfolding computed
two_tables_at_opening = refl

-- a slot in a later cycle, seen in its middle: nothing that was worked is counted, and the other has nothing
abbrev pub later_cycle : Group
later_cycle =
    group_of plugins.PRes (cluster_with 1 0 ∷ [])
    []
    (table 10 1 (slot 1 3 ∷ slot 6 9 ∷ []) ∷
    table 10 1 (slot 4 6 ∷ []) ∷
    [])
    (
    client_of 1 (periodic 1 5 100 100) ∷
    client_of 2 (periodic 2 1 100 100) ∷
    [])

abbrev pub later_cycle_lines : List Line
later_cycle_lines =
    line 0 26 tick Done (to 0 (Some 1) ∷ []) ∷
    line 0 26 irq (runs_task 1) [] ∷
    line 0 26 work Done [] ∷
    line 0 27 work Done [] ∷
    []

pub later_cycle_played : IsTrace later_cycle (to 0 None ∷ []) later_cycle_lines
unfolding computed
later_cycle_played = (refl, refl)

pub later_cycle_state :
    budget_of later_cycle (past_by later_cycle [] (steps_of later_cycle_lines)) ≡ (2, Some 26)
unfolding computed
later_cycle_state = refl

pub later_cycle_other :
    budget_at 2 later_cycle (past_by later_cycle [] (steps_of later_cycle_lines)) ≡ (0, None)
unfolding computed
later_cycle_other = refl
