-- Worked texts: a job that is there early, an interrupt that a non-preemptive section defers, and one that finds nothing to do.
use Rattle.std.specs.Prelude.{◌≡◌, List, [], ◌∷◌, Some, codes, refl}
use Rattle.std.specs.Fmt.{digits}
use Rattle.rt_task.specs.declared.PluginKind.TheVariants as plugins
use Rattle.rt_rules.specs.declared.history.Reply.TheVariants.{Deferred, Done, NotInNp, Quiet}
use Rattle.rt_model.specs.worked.Computed.{computed}
use Rattle.rt_model.specs.Group.{Group}
use Rattle.rt_model.specs.worked.Samples.{IsTrace, Line, cluster_with, end, entries_of, group_of, irq, line, np_off, np_on, periodic}
use Rattle.rt_model.specs.worked.Samples.{runs_task, to}
use Rattle.rt_model.specs.worked.Samples.{with_phase, work}
use Rattle.chart_texts.specs.Named.{named, then}
use Rattle.chart_texts.specs.worked.Jobs.{eager, eager_lines}
use Rattle.why_texts.specs.worked.Computed.{written}
use Rattle.why_texts.specs.WhyText.{why_text}

-- the act ends a job; the next job of the other task is there before its release
pub eager_end : why_text eager.setup (entries_of eager_lines ∷ []) 0 7 ≡ Some (
    then (codes "7 3 0 end done 0:@eager") (
    then (codes "processor 0 ran steady") (
    then (codes "accepted") (
    then (codes "ended job 1 of steady") (
    then (codes "links before") (
    then (codes "  processor 0 linked steady") (
    then (codes "before the act") (
    then (codes "  clock 3") (
    then (codes "  cluster 0 ranks steady | eager") (
    then (codes "  processor 0 runs steady linked steady") (
    then (codes "  task eager job 2 eligible, base 2/21/1 key 2/21/1, release 11 deadline 21, used 0 of 1, early") (
    then (codes "  task steady job 1 eligible, base 2/15/2 key 2/15/2, release 0 deadline 15, used 2 of 2") (
    then (codes "after the act") (
    then (codes "  clock 3") (
    then (codes "  cluster 0 ranks eager |") (
    then (codes "  processor 0 runs - linked eager pending") (
    then (codes "  task eager job 2 eligible, base 2/21/1 key 2/21/1, release 11 deadline 21, used 0 of 1, early") (
    then (codes "  task steady job 2 not there, released at 20") [])))))))))))))))))
    )
unfolding computed written digits
eager_end = refl

-- the move of the clock changed a link, which the lines before it do not show
abbrev pub deferring : Group
deferring =
    group_of plugins.GsnEdf (cluster_with 2 0 ∷ []) [] [] (
    named (codes "alarm") (with_phase 2 (periodic 1 1 50 5)) ∷
    named (codes "control") (periodic 2 4 50 10) ∷
    named (codes "logger") (periodic 3 4 50 40) ∷
    [])

abbrev pub deferring_lines : List Line
deferring_lines =
    line 0 0 irq (runs_task 2) [] ∷
    line 1 0 irq (runs_task 3) [] ∷
    line 1 0 np_off NotInNp [] ∷
    line 1 0 np_on Done [] ∷
    line 1 2 irq Deferred (to 1 (Some 1) ∷ []) ∷
    line 0 2 irq Quiet [] ∷
    []

pub deferring_played : IsTrace deferring (to 0 (Some 2) ∷ to 1 (Some 3) ∷ []) deferring_lines
unfolding computed
deferring_played = (refl, refl)

pub deferring_irq : why_text deferring.setup (entries_of deferring_lines ∷ []) 0 4 ≡ Some (
    then (codes "4 2 1 irq deferred 1:@alarm") (
    then (codes "processor 1 ran logger") (
    then (codes "refused: what the processor runs is non-preemptive") (
    then (codes "links before") (
    then (codes "  processor 0 linked control") (
    then (codes "  processor 1 linked logger") (
    then (codes "before the act") (
    then (codes "  clock 2") (
    then (codes "  cluster 0 ranks alarm control | logger") (
    then (codes "  processor 0 runs control linked control") (
    then (codes "  processor 1 runs logger linked alarm pending") (
    then (codes "  task alarm job 1 eligible, base 2/7/1 key 2/7/1, release 2 deadline 7, used 0 of 1") (
    then (codes "  task control job 1 eligible, base 2/10/2 key 2/10/2, release 0 deadline 10, used 0 of 4") (
    then (codes "  task logger job 1 eligible, base 2/40/3 key 2/40/3, release 0 deadline 40, used 0 of 4, non-preemptive") (
    then (codes "after the act") (
    then (codes "  clock 2") (
    then (codes "  cluster 0 ranks alarm control | logger") (
    then (codes "  processor 0 runs control linked control") (
    then (codes "  processor 1 runs logger linked alarm pending") (
    then (codes "  task alarm job 1 eligible, base 2/7/1 key 2/7/1, release 2 deadline 7, used 0 of 1") (
    then (codes "  task control job 1 eligible, base 2/10/2 key 2/10/2, release 0 deadline 10, used 0 of 4") (
    then (codes "  task logger job 1 eligible, base 2/40/3 key 2/40/3, release 0 deadline 40, used 0 of 4, non-preemptive") [])))))))))))))))))))))
    )
unfolding computed written digits
deferring_irq = refl

-- a link that was lost is regained at the end of another job, so that the interrupt finds nothing to do
abbrev pub regained : Group
regained =
    group_of plugins.GsnEdf (cluster_with 2 0 ∷ []) [] [] (
    named (codes "first") (periodic 1 3 50 6) ∷
    named (codes "newcomer") (with_phase 2 (periodic 2 2 50 7)) ∷
    named (codes "steady") (periodic 3 6 50 20) ∷
    [])

abbrev pub regained_lines : List Line
regained_lines =
    line 0 0 irq (runs_task 1) [] ∷
    line 1 0 irq (runs_task 3) [] ∷
    line 0 0 work Done [] ∷
    line 1 1 work Done [] ∷
    line 0 2 work Done (to 1 (Some 2) ∷ []) ∷
    line 0 3 end Done (to 0 (Some 2) ∷ to 1 (Some 3) ∷ []) ∷
    line 1 3 irq Quiet [] ∷
    line 1 3 work Done [] ∷
    []

pub regained_played : IsTrace regained (to 0 (Some 1) ∷ to 1 (Some 3) ∷ []) regained_lines
unfolding computed
regained_played = (refl, refl)

pub regained_irq : why_text regained.setup (entries_of regained_lines ∷ []) 0 6 ≡ Some (
    then (codes "6 3 1 irq quiet") (
    then (codes "processor 1 ran steady") (
    then (codes "refused: what the processor runs is its link") (
    then (codes "links before") (
    then (codes "  processor 0 linked newcomer") (
    then (codes "  processor 1 linked steady") (
    then (codes "before the act") (
    then (codes "  clock 3") (
    then (codes "  cluster 0 ranks newcomer steady |") (
    then (codes "  processor 0 runs - linked newcomer pending") (
    then (codes "  processor 1 runs steady linked steady") (
    then (codes "  task first job 2 not there, released at 50") (
    then (codes "  task newcomer job 1 eligible, base 2/9/2 key 2/9/2, release 2 deadline 9, used 0 of 2") (
    then (codes "  task steady job 1 eligible, base 2/20/3 key 2/20/3, release 0 deadline 20, used 1 of 6") (
    then (codes "after the act") (
    then (codes "  clock 3") (
    then (codes "  cluster 0 ranks newcomer steady |") (
    then (codes "  processor 0 runs - linked newcomer pending") (
    then (codes "  processor 1 runs steady linked steady") (
    then (codes "  task first job 2 not there, released at 50") (
    then (codes "  task newcomer job 1 eligible, base 2/9/2 key 2/9/2, release 2 deadline 9, used 0 of 2") (
    then (codes "  task steady job 1 eligible, base 2/20/3 key 2/20/3, release 0 deadline 20, used 1 of 6") [])))))))))))))))))))))
    )
unfolding computed written digits
regained_irq = refl
