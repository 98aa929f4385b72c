-- Worked texts: sections that nest under the priority ceiling protocol. A job waits; it is priority-blocked for a part of that time.
use Rattle.std.specs.Prelude.{◌≡◌, List, [], ◌∷◌, None, Some, codes, refl}
use Rattle.std.specs.Fmt.{digits}
use Rattle.rt_task.specs.declared.PluginKind.TheVariants as plugins
use Rattle.rt_task.specs.declared.Protocol.TheVariants.{Pcp}
use Rattle.rt_rules.specs.declared.history.Reply.TheVariants.{Done, Granted, Queued, Quiet}
use Rattle.rt_model.specs.worked.Computed.{computed}
use Rattle.rt_model.specs.Group.{Group}
use Rattle.rt_model.specs.worked.Samples.{Line, line, entries_of, IsTrace, group_of, cluster_with, periodic, sem_under, with_phase}
use Rattle.rt_model.specs.worked.Samples.{end, irq, lock, runs_task, tick, to, unlock, using, with_prio, work}
use Rattle.trace_views.specs.worked.Computed.{shown}
use Rattle.chart_texts.specs.declared.window.Axis.TheVariants.{Ticks}
use Rattle.chart_texts.specs.ChartText.{key_text, whole_text}
use Rattle.chart_texts.specs.worked.Computed.{charted}
use Rattle.chart_texts.specs.Named.{named, named_sem, then}

abbrev pub nested : Group
nested =
    group_of plugins.PFp (cluster_with 1 0 ∷ []) (
    named_sem (codes "S1") (sem_under Pcp) ∷ named_sem (codes "S2") (sem_under Pcp) ∷ named_sem (codes "S3") (sem_under Pcp) ∷ []) [] (
    named (codes "J1") (using (1 ∷ 2 ∷ []) (with_prio 1 (with_phase 7 (periodic 1 6 100 100)))) ∷
    named (codes "J2") (using (3 ∷ []) (with_prio 2 (with_phase 4 (periodic 2 4 100 100)))) ∷
    named (codes "J3") (using (2 ∷ 3 ∷ []) (with_prio 3 (periodic 3 7 100 100))) ∷
    [])

abbrev pub nested_lines : List Line
nested_lines =
    line 0 0 tick Done [] ∷
    line 0 0 irq (runs_task 3) [] ∷
    line 0 0 work Done [] ∷
    line 0 0 (lock 3) Granted [] ∷
    line 0 1 tick Done [] ∷
    line 0 1 irq Quiet [] ∷
    line 0 1 work Done [] ∷
    line 0 1 (lock 2) Granted [] ∷
    line 0 2 tick Done [] ∷
    line 0 2 irq Quiet [] ∷
    line 0 2 work Done [] ∷
    line 0 3 tick Done [] ∷
    line 0 3 irq Quiet [] ∷
    line 0 3 work Done [] ∷
    line 0 4 tick Done (to 0 (Some 2) ∷ []) ∷
    line 0 4 irq (runs_task 2) [] ∷
    line 0 4 work Done [] ∷
    line 0 5 tick Done [] ∷
    line 0 5 irq Quiet [] ∷
    line 0 5 work Done [] ∷
    line 0 5 (lock 3) Queued (to 0 (Some 3) ∷ []) ∷
    line 0 5 irq (runs_task 3) [] ∷
    line 0 6 tick Done [] ∷
    line 0 6 irq Quiet [] ∷
    line 0 6 work Done [] ∷
    line 0 6 (unlock 2) Done [] ∷
    line 0 7 tick Done (to 0 (Some 1) ∷ []) ∷
    line 0 7 irq (runs_task 1) [] ∷
    line 0 7 work Done [] ∷
    line 0 7 (lock 1) Granted [] ∷
    line 0 8 tick Done [] ∷
    line 0 8 irq Quiet [] ∷
    line 0 8 work Done [] ∷
    line 0 8 (unlock 1) Done [] ∷
    line 0 9 tick Done [] ∷
    line 0 9 irq Quiet [] ∷
    line 0 9 work Done [] ∷
    line 0 9 (lock 2) Granted [] ∷
    line 0 10 tick Done [] ∷
    line 0 10 irq Quiet [] ∷
    line 0 10 work Done [] ∷
    line 0 10 (unlock 2) Done [] ∷
    line 0 11 tick Done [] ∷
    line 0 11 irq Quiet [] ∷
    line 0 11 work Done [] ∷
    line 0 11 end Done (to 0 (Some 3) ∷ []) ∷
    line 0 11 irq (runs_task 3) [] ∷
    line 0 12 tick Done [] ∷
    line 0 12 irq Quiet [] ∷
    line 0 12 work Done [] ∷
    line 0 12 (unlock 3) Done (to 0 (Some 2) ∷ []) ∷
    line 0 12 irq (runs_task 2) [] ∷
    line 0 13 tick Done [] ∷
    line 0 13 irq Quiet [] ∷
    line 0 13 work Done [] ∷
    line 0 13 (unlock 3) Done [] ∷
    line 0 14 tick Done [] ∷
    line 0 14 irq Quiet [] ∷
    line 0 14 work Done [] ∷
    line 0 14 end Done (to 0 (Some 3) ∷ []) ∷
    line 0 14 irq (runs_task 3) [] ∷
    line 0 15 tick Done [] ∷
    line 0 15 irq Quiet [] ∷
    line 0 15 work Done [] ∷
    line 0 15 end Done (to 0 None ∷ []) ∷
    line 0 16 tick Done [] ∷
    line 0 16 irq Quiet [] ∷
    line 0 17 tick Done [] ∷
    line 0 17 irq Quiet [] ∷
    []

pub nested_played : IsTrace nested (to 0 (Some 3) ∷ []) nested_lines
unfolding computed
nested_played = (refl, refl)

pub nested_ticks : whole_text Ticks nested.setup (entries_of nested_lines ∷ []) ≡
    then (codes "P-FP, ticks 0 to 18 of 18") (
    then [] (
    then (codes "group 0") (
    then (codes "tick         0         5         10        15") (
    then (codes "                           ^") (
    then (codes "A J1                       0 0 0 0 0|") (
    then (codes "  holds                      a   b") (
    then (codes "                     ^") (
    then (codes "B J2                 0 0 W w w w w w W 0 0|") (
    then (codes "  holds                                c") (
    then (codes "             ^") (
    then (codes "C J3         0 0 0 0 . . 0 . . . . . 0 . . 0|") (
    then (codes "  holds        c + + + + + c c c c c c") (
    then (codes "processor 0  C C C C B B C A A A A A C B B C") (
    then (codes "  link       C C C C B B C A A A A A C B B C") (
    then [] (
    then (codes "a semaphore S1 PCP") (
    then (codes "b semaphore S2 PCP") (
    then (codes "c semaphore S3 PCP") (
    then [] key_text)))))))))))))))))))
unfolding computed shown charted digits
nested_ticks = refl
