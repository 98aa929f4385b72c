-- Worked texts: two groups with a clock each, and two reservations.
use Rattle.std.specs.Prelude.{◌≡◌, List, [], ◌∷◌, None, Some, codes, refl}
use Rattle.std.specs.Fmt.{digits}
use Rattle.rt_task.specs.declared.PluginKind.TheVariants as plugins
use Rattle.rt_task.specs.declared.ResvKind.TheVariants.{Polling, Sporadic}
use Rattle.rt_rules.specs.declared.history.Reply.TheVariants.{Done, NoBudget, Quiet, Spent}
use Rattle.rt_model.specs.worked.Computed.{computed}
use Rattle.rt_model.specs.Group.{Group}
use Rattle.rt_model.specs.worked.Samples.{Line, line, entries_of, IsTrace, group_of, in_group, cluster_with, client_of, periodic}
use Rattle.rt_model.specs.worked.Samples.{reservation}
use Rattle.rt_model.specs.worked.Samples.{arrive, end, in_cluster, irq, runs_task, sporadic, tick, to, with_phase, work}
use Rattle.trace_views.specs.worked.Computed.{shown}
use Rattle.chart_texts.specs.declared.window.Axis.TheVariants.{Entries, Ticks}
use Rattle.chart_texts.specs.ChartText.{key_text, whole_text}
use Rattle.chart_texts.specs.worked.Computed.{charted}
use Rattle.chart_texts.specs.Named.{named, named_resv, then}

-- groups are apart: a clock stands still in one while it goes on in the other
abbrev pub apart : Group
apart =
    group_of plugins.PsnEdf (cluster_with 1 0 ∷ cluster_with 1 0 ∷ cluster_with 1 1 ∷ []) [] [] (
    named (codes "north") (periodic 1 2 10 10) ∷
    named (codes "south") (in_cluster 1 (with_phase 3 (periodic 2 2 10 10))) ∷
    named (codes "island") (in_cluster 2 (with_phase 3 (periodic 3 2 10 10))) ∷
    [])

abbrev pub land_lines : List Line
land_lines =
    line 0 0 irq (runs_task 1) [] ∷
    line 0 3 work Done (to 1 (Some 2) ∷ []) ∷
    line 1 1 irq (runs_task 2) [] ∷
    line 1 2 work Done [] ∷
    line 1 2 work Spent [] ∷
    line 0 4 end Done (to 0 None ∷ []) ∷
    line 1 5 end Done (to 1 None ∷ []) ∷
    []

abbrev pub island_lines : List Line
island_lines =
    line 2 0 irq Quiet [] ∷
    line 2 2 tick Done [] ∷
    line 2 3 irq (runs_task 3) (to 2 (Some 3) ∷ []) ∷
    line 2 3 work Done [] ∷
    line 2 5 end Done (to 2 None ∷ []) ∷
    []

pub land_played : IsTrace apart (to 0 (Some 1) ∷ to 1 None ∷ []) land_lines
unfolding computed
land_played = (refl, refl)

pub island_played : IsTrace (in_group 1 apart) (to 2 None ∷ []) island_lines
unfolding computed
island_played = (refl, refl)

pub apart_ticks : whole_text Ticks apart.setup (entries_of land_lines ∷ entries_of island_lines ∷ []) ≡
    then (codes "PSN-EDF, ticks 0 to 6 of 6") (
    then [] (
    then (codes "group 0") (
    then (codes "tick         0         5") (
    then (codes "             ^") (
    then (codes "A north      = = = 0 .|") (
    then (codes "                   ^") (
    then (codes "B south            1 = .|") (
    then (codes "processor 0  A=A=A=A") (
    then (codes "  link       A A A A") (
    then (codes "processor 1        B B=") (
    then (codes "  link             B B") (
    then [] (
    then (codes "group 1") (
    then (codes "tick         0         5") (
    then (codes "                   ^") (
    then (codes "C island           2 = .|") (
    then (codes "processor 2        C C=") (
    then (codes "  link             C C") (
    then [] key_text)))))))))))))))))))
unfolding computed shown charted digits
apart_ticks = refl

pub apart_entries : whole_text Entries apart.setup (entries_of land_lines ∷ entries_of island_lines ∷ []) ≡
    then (codes "PSN-EDF, entries 0 to 7 of 7") (
    then [] (
    then (codes "group 0") (
    then (codes "clock        0 3       4 5") (
    then (codes "entry        0         5") (
    then (codes "             ^") (
    then (codes "A north      = 0 = = = .|") (
    then (codes "               ^") (
    then (codes "B south        . = 1 = = .|") (
    then (codes "processor 0  A=A A=A=A=") (
    then (codes "  link       A A A A A") (
    then (codes "processor 1      B=B B=B=") (
    then (codes "  link         B B B B B") (
    then [] (
    then (codes "group 1") (
    then (codes "clock        0 2 3   5") (
    then (codes "entry        0") (
    then (codes "                 ^") (
    then (codes "C island         = 2 .|") (
    then (codes "processor 2      C=C") (
    then (codes "  link           C C") (
    then [] key_text)))))))))))))))))))))
unfolding computed shown charted digits
apart_entries = refl

-- two tasks of a reservation, which wait for its budget, and a task of the other one
abbrev pub served : Group
served =
    group_of plugins.PRes (cluster_with 1 0 ∷ []) [] (
    named_resv (codes "server") (reservation Sporadic 2 5 1) ∷ named_resv (codes "rest") (reservation Polling 10 10 2) ∷ []) (
    named (codes "mail") (client_of 1 (sporadic 1 1 5 10)) ∷
    named (codes "print") (client_of 1 (sporadic 2 2 5 10)) ∷
    named (codes "batch") (client_of 2 (periodic 3 20 100 100)) ∷
    [])

abbrev pub served_lines : List Line
served_lines =
    line 0 0 irq (runs_task 3) [] ∷
    line 0 1 (arrive 1) Done (to 0 (Some 1) ∷ []) ∷
    line 0 1 irq (runs_task 1) [] ∷
    line 0 1 work Done [] ∷
    line 0 2 end Done (to 0 (Some 3) ∷ []) ∷
    line 0 2 irq (runs_task 3) [] ∷
    line 0 4 (arrive 2) Done (to 0 (Some 2) ∷ []) ∷
    line 0 4 irq (runs_task 2) [] ∷
    line 0 4 work Done (to 0 (Some 3) ∷ []) ∷
    line 0 5 work NoBudget [] ∷
    line 0 5 irq (runs_task 3) [] ∷
    line 0 6 irq (runs_task 2) (to 0 (Some 2) ∷ []) ∷
    line 0 6 work Done [] ∷
    line 0 7 (arrive 1) Done [] ∷
    line 0 7 end Done (to 0 (Some 1) ∷ []) ∷
    line 0 7 irq (runs_task 1) [] ∷
    []

pub served_played : IsTrace served (to 0 (Some 3) ∷ []) served_lines
unfolding computed
served_played = (refl, refl)

pub served_ticks : whole_text Ticks served.setup (entries_of served_lines ∷ []) ≡
    then (codes "P-RES, ticks 0 to 8 of 8") (
    then [] (
    then (codes "group 0") (
    then (codes "tick         0         5") (
    then (codes "               ^           ^") (
    then (codes "A mail         0 .|        =") (
    then (codes "                     ^") (
    then (codes "B print              0 . 0 .|") (
    then (codes "             ^") (
    then (codes "C batch      = . = = . = . .") (
    then (codes "processor 0  C=A C=C=B C=B A=") (
    then (codes "  link       C A C C B C B A") (
    then (codes "server       0 2 1 1 1 0 2 1") (
    then (codes "rest         a a a a a a a a") (
    then [] key_text))))))))))))))
unfolding computed shown charted digits
served_ticks = refl
