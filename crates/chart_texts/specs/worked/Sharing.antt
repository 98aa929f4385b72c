-- Worked texts: a task that waits for a semaphore of another processor, and one that a ceiling keeps from a free semaphore.
use Rattle.std.specs.Prelude.{◌≡◌, List, [], ◌∷◌, Some, codes, refl}
use Rattle.std.specs.Fmt.{digits}
use Rattle.rt_task.specs.declared.PluginKind.TheVariants as plugins
use Rattle.rt_task.specs.declared.Protocol.TheVariants.{Mpcp, Pcp}
use Rattle.rt_rules.specs.declared.history.Reply.TheVariants.{Done, Granted, NotLast, Queued}
use Rattle.rt_model.specs.worked.Computed.{computed}
use Rattle.rt_model.specs.Group.{Group}
use Rattle.rt_model.specs.worked.Samples.{Line, line, entries_of, IsTrace, group_of, cluster_with, periodic, sporadic, sem_under}
use Rattle.rt_model.specs.worked.Samples.{arrive, end, in_cluster, irq, lock, runs_task, to, unlock, using, with_prio}
use Rattle.trace_views.specs.worked.Computed.{shown}
use Rattle.trace_views.specs.worked.Sharing.{remote_lines}
use Rattle.chart_texts.specs.declared.window.Axis.TheVariants.{Entries, Ticks}
use Rattle.chart_texts.specs.ChartText.{chart_text, key_text, whole_text}
use Rattle.chart_texts.specs.worked.Computed.{charted}
use Rattle.chart_texts.specs.Named.{named, named_sem, then, window}

-- the set of the history `remote`, with names
abbrev pub remote : Group
remote =
    group_of plugins.PFp (cluster_with 1 0 ∷ cluster_with 1 0 ∷ []) (named_sem (codes "buffer") (sem_under Mpcp) ∷ []) [] (
    named (codes "pulse") (with_prio 1 (sporadic 1 1 1000 1000)) ∷
    named (codes "driver") (using (1 ∷ []) (with_prio 5 (periodic 2 2 1000 1000))) ∷
    named (codes "filter") (in_cluster 1 (using (1 ∷ []) (with_prio 3 (periodic 3 2 1000 1000)))) ∷
    [])

pub remote_ticks : whole_text Ticks remote.setup (entries_of remote_lines ∷ []) ≡
    then (codes "P-FP, ticks 0 to 4 of 4") (
    then [] (
    then (codes "group 0") (
    then (codes "tick         0") (
    then (codes "               ^") (
    then (codes "A pulse        . 0 .|") (
    then (codes "             ^") (
    then (codes "B driver     = 0 . .|") (
    then (codes "  holds        a") (
    then (codes "             ^") (
    then (codes "C filter     W W = .|") (
    then (codes "  holds          a a") (
    then (codes "processor 0  B=B A") (
    then (codes "  link       B B A") (
    then (codes "processor 1    C=C=") (
    then (codes "  link         C C") (
    then [] (
    then (codes "a semaphore buffer MPCP") (
    then [] key_text))))))))))))))))))
unfolding computed shown charted digits
remote_ticks = refl

-- by entries it is seen that the unlock comes before the wait ends
pub remote_entries : whole_text Entries remote.setup (entries_of remote_lines ∷ []) ≡
    then (codes "P-FP, entries 0 to 16 of 16") (
    then [] (
    then (codes "group 0") (
    then (codes "clock        0       1           2 3") (
    then (codes "entry        0         5         10        15") (
    then (codes "                     ^") (
    then (codes "A pulse              . . . . . = 0 .|") (
    then (codes "             ^") (
    then (codes "B driver     = = = = = = 0 = = . . . . . = .|") (
    then (codes "  holds            a a a a a") (
    then (codes "             ^") (
    then (codes "C filter     . = = W W W W W = = = = = .|") (
    then (codes "  holds                      a a a a a") (
    then (codes "processor 0  B=B=B=B=B=B=B B=B=A=A       B=") (
    then (codes "  link       B B B B B B B A A A A B B B B") (
    then (codes "processor 1    C=C=          C=C=C=C=C=") (
    then (codes "  link       C C C         C C C C C C") (
    then [] (
    then (codes "a semaphore buffer MPCP") (
    then [] key_text)))))))))))))))))))
unfolding computed shown charted digits
remote_entries = refl

-- in a window the columns keep their labels, and the title says how many there are; the clock of the first stands in any case
pub remote_cut : chart_text Entries (window 5 11) remote.setup (entries_of remote_lines ∷ []) ≡
    then (codes "P-FP, entries 5 to 11 of 16") (
    then [] (
    then (codes "group 0") (
    then (codes "clock        1         2") (
    then (codes "entry        5         10") (
    then [] (
    then (codes "A pulse      . . . . = 0") (
    then [] (
    then (codes "B driver     = 0 = = . .") (
    then (codes "  holds      a a a") (
    then [] (
    then (codes "C filter     W W W = = =") (
    then (codes "  holds            a a a") (
    then (codes "processor 0  B=B B=B=A=A") (
    then (codes "  link       B B A A A A") (
    then (codes "processor 1        C=C=C=") (
    then (codes "  link           C C C C") (
    then [] (
    then (codes "a semaphore buffer MPCP") (
    then [] key_text)))))))))))))))))))
unfolding computed shown charted digits
remote_cut = refl

-- a free semaphore is not granted, since another one is held whose ceiling the task is not above
abbrev pub ceiling : Group
ceiling =
    group_of plugins.PFp (cluster_with 1 0 ∷ []) (
    named_sem (codes "sensor") (sem_under Pcp) ∷ named_sem (codes "motor") (sem_under Pcp) ∷ []) [] (
    named (codes "control") (using (1 ∷ 2 ∷ []) (with_prio 1 (sporadic 1 1 1000 1000))) ∷
    named (codes "monitor") (using (1 ∷ 2 ∷ []) (with_prio 5 (periodic 2 2 1000 1000))) ∷
    [])

abbrev pub ceiling_lines : List Line
ceiling_lines =
    line 0 0 irq (runs_task 2) [] ∷
    line 0 0 (lock 1) Granted [] ∷
    line 0 1 (arrive 1) Done (to 0 (Some 1) ∷ []) ∷
    line 0 1 irq (runs_task 1) [] ∷
    line 0 1 (lock 2) Queued (to 0 (Some 2) ∷ []) ∷
    line 0 1 irq (runs_task 2) [] ∷
    line 0 1 (lock 2) Granted [] ∷
    line 0 1 (unlock 1) NotLast [] ∷
    line 0 1 (unlock 2) Done [] ∷
    line 0 1 (unlock 1) Done (to 0 (Some 1) ∷ []) ∷
    line 0 1 irq (runs_task 1) [] ∷
    line 0 1 (unlock 2) Done [] ∷
    line 0 1 end Done (to 0 (Some 2) ∷ []) ∷
    []

pub ceiling_played : IsTrace ceiling (to 0 (Some 2) ∷ []) ceiling_lines
unfolding computed
ceiling_played = (refl, refl)

pub ceiling_ticks : whole_text Ticks ceiling.setup (entries_of ceiling_lines ∷ []) ≡
    then (codes "P-FP, ticks 0 to 2 of 2") (
    then [] (
    then (codes "group 0") (
    then (codes "tick         0") (
    then (codes "               ^") (
    then (codes "A control      W|") (
    then (codes "  holds") (
    then (codes "             ^") (
    then (codes "B monitor    = .") (
    then (codes "  holds        a") (
    then (codes "processor 0  B=") (
    then (codes "  link       B B") (
    then [] (
    then (codes "a semaphore sensor PCP") (
    then (codes "b semaphore motor PCP") (
    then [] key_text)))))))))))))))
unfolding computed shown charted digits
ceiling_ticks = refl

pub ceiling_entries : whole_text Entries ceiling.setup (entries_of ceiling_lines ∷ []) ≡
    then (codes "P-FP, entries 0 to 13 of 13") (
    then [] (
    then (codes "group 0") (
    then (codes "clock        0   1") (
    then (codes "entry        0         5         10") (
    then (codes "                 ^") (
    then (codes "A control        . = W W W W W W = = .|") (
    then (codes "  holds                          b b") (
    then (codes "             ^") (
    then (codes "B monitor    = = = . . = = = = = . . .") (
    then (codes "  holds          a a a a a + + a") (
    then (codes "processor 0  B=B=B=A=  B=B=B=B=B=A=A=") (
    then (codes "  link       B B A A B B B B B A A A B") (
    then [] (
    then (codes "a semaphore sensor PCP") (
    then (codes "b semaphore motor PCP") (
    then [] key_text))))))))))))))))
unfolding computed shown charted digits
ceiling_entries = refl
