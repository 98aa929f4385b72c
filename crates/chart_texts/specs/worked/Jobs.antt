-- Worked texts: jobs that are released early, and a deadline that is missed.
use Rattle.std.specs.Prelude.{◌≡◌, List, [], ◌∷◌, Some, codes, refl}
use Rattle.std.specs.Fmt.{digits}
use Rattle.rt_task.specs.declared.PluginKind.TheVariants as plugins
use Rattle.rt_rules.specs.declared.history.Reply.TheVariants.{Done, Idle}
use Rattle.rt_model.specs.worked.Computed.{computed}
use Rattle.rt_model.specs.Group.{Group}
use Rattle.rt_model.specs.worked.Samples.{Line, line, entries_of, IsTrace, group_of, cluster_with, periodic, early, with_phase}
use Rattle.rt_model.specs.worked.Samples.{end, irq, runs_task, to, work}
use Rattle.trace_views.specs.worked.Computed.{shown}
use Rattle.trace_views.specs.worked.Tables.{behind, behind_lines}
use Rattle.chart_texts.specs.declared.window.Axis.TheVariants.{Entries, Ticks}
use Rattle.chart_texts.specs.ChartText.{chart_text, key_text, whole_text}
use Rattle.chart_texts.specs.worked.Computed.{charted}
use Rattle.chart_texts.specs.Named.{named, then, window}

-- the eager task's next job is there when the one before has ended, and stands before its release
abbrev pub eager : Group
eager =
    group_of plugins.GsnEdf (cluster_with 1 0 ∷ []) [] [] (
    named (codes "eager") (early (with_phase 1 (periodic 1 1 10 10))) ∷
    named (codes "steady") (periodic 2 2 20 15) ∷
    [])

abbrev pub eager_lines : List Line
eager_lines =
    line 0 0 irq (runs_task 2) [] ∷
    line 0 0 work Done [] ∷
    line 0 1 irq (runs_task 1) (to 0 (Some 1) ∷ []) ∷
    line 0 1 work Done [] ∷
    line 0 2 end Done (to 0 (Some 2) ∷ []) ∷
    line 0 2 irq (runs_task 2) [] ∷
    line 0 2 work Done [] ∷
    line 0 3 end Done (to 0 (Some 1) ∷ []) ∷
    line 0 3 irq (runs_task 1) [] ∷
    line 0 3 work Done [] ∷
    line 0 4 end Done [] ∷
    line 0 4 work Idle [] ∷
    line 0 4 irq (runs_task 1) [] ∷
    line 0 4 work Done [] ∷
    []

pub eager_played : IsTrace eager (to 0 (Some 2) ∷ []) eager_lines
unfolding computed
eager_played = (refl, refl)

pub eager_ticks : whole_text Ticks eager.setup (entries_of eager_lines ∷ []) ≡
    then (codes "GSN-EDF, ticks 0 to 5 of 5") (
    then [] (
    then (codes "group 0") (
    then (codes "tick         0") (
    then (codes "               ^") (
    then (codes "A eager        0 .|0 0|") (
    then (codes "             ^") (
    then (codes "B steady     0 . 0 .|") (
    then (codes "processor 0  B A B A A") (
    then (codes "  link       B A B A A") (
    then [] key_text))))))))))
unfolding computed shown charted digits
eager_ticks = refl

pub eager_entries : whole_text Entries eager.setup (entries_of eager_lines ∷ []) ≡
    then (codes "GSN-EDF, entries 0 to 14 of 14") (
    then [] (
    then (codes "group 0") (
    then (codes "clock        0   1   2     3     4") (
    then (codes "entry        0         5         10") (
    then (codes "                 ^") (
    then (codes "A eager          = 0 .|. . . = 0 .|. = 0") (
    then (codes "             ^") (
    then (codes "B steady     = 0 . . . = 0 .|") (
    then (codes "processor 0  B=B A=A   B=B   A=A     A=A") (
    then (codes "  link       B B A A B B B A A A A A A A") (
    then [] key_text)))))))))))
unfolding computed shown charted digits
eager_entries = refl

-- a job ends at 7, right of its deadline 5, which is missed; the task has no name
pub behind_ticks : chart_text Ticks (window 4 8) behind.setup (entries_of behind_lines ∷ []) ≡
    then (codes "GSN-EDF, ticks 4 to 8 of 17") (
    then [] (
    then (codes "group 0") (
    then (codes "tick           5") (
    then (codes "                !") (
    then (codes "A            = = 0 .|") (
    then (codes "processor 0  A=A=A") (
    then (codes "  link       A A A") (
    then [] key_text))))))))
unfolding computed shown charted digits
behind_ticks = refl

-- after the last column there is nothing to show
pub behind_beyond : chart_text Ticks (window 17 20) behind.setup (entries_of behind_lines ∷ []) ≡
    then (codes "GSN-EDF, ticks 17 to 20 of 17") (
    then [] (
    then (codes "group 0") (
    then (codes "tick") (
    then [] (
    then (codes "A") (
    then (codes "processor 0") (
    then (codes "  link") (
    then [] key_text))))))))
unfolding computed shown charted digits
behind_beyond = refl
