-- Worked lines: two tasks that wait for a semaphore, a job that sleeps, a client behind another, a reservation that was never refilled,
-- and a job that SRP keeps from starting.
use Rattle.std.specs.Prelude.{◌≡◌, List, [], ◌∷◌, None, Some, codes, refl, take}
use Rattle.std.specs.Fmt.{digits}
use Rattle.rt_task.specs.declared.PluginKind.TheVariants as plugins
use Rattle.rt_task.specs.declared.Protocol.TheVariants.{Fmlp, Srp}
use Rattle.rt_rules.specs.declared.history.Reply.TheVariants.{Done, Granted, Queued}
use Rattle.rt_model.specs.worked.Computed.{computed}
use Rattle.rt_model.specs.Group.{Group}
use Rattle.rt_model.specs.Histories.{past_by}
use Rattle.rt_model.specs.worked.Samples.{IsTrace, Line, cluster_with, entries_of, group_of, irq, line, lock, periodic, runs_task}
use Rattle.rt_model.specs.worked.Samples.{sem_under}
use Rattle.rt_model.specs.worked.Samples.{sleep, steps_of, tick, to, using, with_phase}
use Rattle.chart_texts.specs.Named.{named, named_sem, then}
use Rattle.chart_texts.specs.worked.Groups.{served, served_lines}
use Rattle.why_texts.specs.worked.Computed.{written}
use Rattle.why_texts.specs.ResvLines.{resv_line}
use Rattle.why_texts.specs.SemLines.{sem_line}
use Rattle.why_texts.specs.TaskLines.{task_line}
use Rattle.why_texts.specs.WhyText.{why_text}

-- tasks wait in their order of asking, and stand by number; the lower is not priority-blocked while the higher is there. Nobody
-- declares the other semaphore, which is not shown
abbrev pub lined_up : Group
lined_up =
    group_of plugins.GsnEdf (cluster_with 1 0 ∷ []) (named_sem (codes "S") (sem_under Fmlp) ∷ named_sem (codes "other") (sem_under Fmlp) ∷ []) [] (
    named (codes "hi") (using (1 ∷ []) (with_phase 2 (periodic 1 1 100 10))) ∷
    named (codes "mid") (using (1 ∷ []) (with_phase 1 (periodic 2 2 100 20))) ∷
    named (codes "low") (using (1 ∷ []) (periodic 3 3 100 30)) ∷
    [])

abbrev pub lined_up_lines : List Line
lined_up_lines =
    line 0 0 irq (runs_task 3) [] ∷
    line 0 0 (lock 1) Granted [] ∷
    line 0 1 irq (runs_task 2) (to 0 (Some 2) ∷ []) ∷
    line 0 1 (lock 1) Queued (to 0 (Some 3) ∷ []) ∷
    line 0 1 irq (runs_task 3) [] ∷
    line 0 2 irq (runs_task 1) (to 0 (Some 1) ∷ []) ∷
    line 0 2 (lock 1) Queued (to 0 (Some 3) ∷ []) ∷
    []

pub lined_up_played : IsTrace lined_up (to 0 (Some 3) ∷ []) lined_up_lines
unfolding computed
lined_up_played = (refl, refl)

pub lined_up_queued : why_text lined_up.setup (entries_of lined_up_lines ∷ []) 0 6 ≡ Some (
    then (codes "6 2 0 lock 1 queued 0:@low") (
    then (codes "processor 0 ran hi") (
    then (codes "accepted: it waits for the semaphore, and the processor runs nothing") (
    then (codes "links before") (
    then (codes "  processor 0 linked hi") (
    then (codes "before the act") (
    then (codes "  clock 2") (
    then (codes "  cluster 0 ranks hi | low") (
    then (codes "  processor 0 runs hi linked hi") (
    then (codes "  sem S FMLP held by low waiting mid") (
    then (codes "  task hi job 1 eligible, base 2/12/1 key 2/12/1, release 2 deadline 12, used 0 of 1") (
    then (codes "  task mid job 1 waits for S, kept by low, base 2/21/2 key 2/21/2, release 1 deadline 21, used 0 of 2") (
    then (codes "  task low job 1 eligible, base 2/30/3 key 2/21/2, release 0 deadline 30, used 0 of 3, holds S") (
    then (codes "after the act") (
    then (codes "  clock 2") (
    then (codes "  cluster 0 ranks low |") (
    then (codes "  processor 0 runs - linked low pending") (
    then (codes "  sem S FMLP held by low waiting hi waiting mid") (
    then (codes "  task hi job 1 blocked at S, kept by low, base 2/12/1 key 2/12/1, release 2 deadline 12, used 0 of 1") (
    then (codes "  task mid job 1 waits for S, kept by low, base 2/21/2 key 2/21/2, release 1 deadline 21, used 0 of 2") (
    then (codes "  task low job 1 eligible, base 2/30/3 key 2/12/1, release 0 deadline 30, used 0 of 3, holds S") []))))))))))))))))))))
    )
unfolding computed written digits
lined_up_queued = refl

-- a sleep from clock 1 on, of five ticks
abbrev pub asleep : Group
asleep = group_of plugins.GsnEdf (cluster_with 1 0 ∷ []) [] [] (named (codes "nap") (periodic 1 1 50 10) ∷ [])

abbrev pub asleep_lines : List Line
asleep_lines =
    line 0 0 irq (runs_task 1) [] ∷
    line 0 1 (sleep 5) Done (to 0 None ∷ []) ∷
    []

pub asleep_played : IsTrace asleep (to 0 (Some 1) ∷ []) asleep_lines
unfolding computed
asleep_played = (refl, refl)

pub asleep_task : task_line asleep 1 (past_by asleep [] (steps_of asleep_lines)) ≡
    then (codes "  task nap job 1 sleeps until 6, base 2/10/1 key 2/10/1, release 0 deadline 10, used 0 of 1") []
unfolding computed written digits
asleep_task = refl

-- the client of the earlier release is served first
pub behind_task : task_line served 1 (past_by served [] (take 14 (steps_of served_lines))) ≡
    then (codes "  task mail job 2 behind print, base 2/1/1 key 2/1/1, release 7 deadline 17, used 0 of 1") []
unfolding computed written digits
behind_task = refl

-- no client was ready yet
pub unfilled_resv : resv_line served 1 [] ≡ then (codes "  resv server sporadic left 0 of 2 refilled - front -") []
unfolding computed written digits
unfilled_resv = refl

-- the relative deadline of the task is not below the ceiling of what another task holds
abbrev pub kept_back : Group
kept_back =
    group_of plugins.PsnEdf (cluster_with 1 0 ∷ []) (named_sem (codes "S") (sem_under Srp) ∷ []) [] (
    named (codes "A") (using (1 ∷ []) (with_phase 1 (periodic 1 1 50 5))) ∷
    named (codes "B") (using (1 ∷ []) (periodic 2 2 50 10)) ∷
    [])

abbrev pub kept_back_lines : List Line
kept_back_lines =
    line 0 0 irq (runs_task 2) [] ∷
    line 0 0 (lock 1) Granted [] ∷
    line 0 1 tick Done [] ∷
    []

pub kept_back_played : IsTrace kept_back (to 0 (Some 2) ∷ []) kept_back_lines
unfolding computed
kept_back_played = (refl, refl)

pub kept_back_task : task_line kept_back 1 (past_by kept_back [] (steps_of kept_back_lines)) ≡
    then (codes "  task A job 1 kept from starting by SRP, base 2/6/1 key 2/6/1, release 1 deadline 6, used 0 of 1") []
unfolding computed written digits
kept_back_task = refl

pub kept_back_sem : sem_line kept_back 1 (past_by kept_back [] (steps_of kept_back_lines)) ≡ then (codes "  sem S SRP held by B") []
unfolding computed written digits
kept_back_sem = refl
