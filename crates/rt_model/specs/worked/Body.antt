-- Worked examples: the next acts of processor 0 in body runs.
use Rattle.std.specs.Prelude.{◌≡◌, ℕ, true, false, List, [], ◌∷◌, ◌++◌, Option, None, Some, refl}
use Rattle.rt_task.specs.declared.Drive.TheVariants.{Horizon}
use Rattle.rt_task.specs.declared.PluginKind.TheVariants as plugins
use Rattle.rt_task.specs.declared.Protocol.TheVariants.{Fmlp}
use Rattle.rt_task.specs.declared.ResvKind.TheVariants as resv_kinds
use Rattle.rt_task.specs.declared.Step.{Step}
use Rattle.rt_task.specs.declared.Act.{Act}
use Rattle.rt_task.specs.declared.Op.TheVariants as ops
use Rattle.rt_rules.specs.declared.history.Reply.TheVariants.{Done, Quiet}
use Rattle.rt_rules.specs.declared.history.Situation.{Situation}
use Rattle.rt_model.specs.worked.Computed.{computed}
use Rattle.rt_model.specs.Group.{Group}
use Rattle.rt_model.specs.Histories.{after, past_by}
use Rattle.rt_model.specs.Past.{Past}
use Rattle.rt_model.specs.worked.Samples.{Line, line, steps_of, IsTrace, step_of, group_of, cluster_with, sem_under, reservation, sem_no}
use Rattle.rt_model.specs.worked.Samples.{periodic, using, client_of, with_body, tick, irq, work, lock, unlock, np_on, np_off, end}
use Rattle.rt_model.specs.worked.Samples.{runs_task, to}
use Rattle.rt_model.specs.Situations.{situation, next_act}

-- the next act before the first step, and after each
abbrev pub nexts : Group → Past → List Step → List (Option Act)
nexts g past [] = next_act g (situation g 0 past) ∷ []
nexts g past (step ∷ steps) = next_act g (situation g 0 past) ∷ nexts g (after g step past) steps

-- two units of work a job: the second waits for the next tick
abbrev pub body_run_of : ℕ → Group
body_run_of horizon =
    let g = group_of plugins.GsnEdf (cluster_with 1 0 ∷ []) [] [] (
    with_body (ops.Work ∷ ops.Work ∷ ops.End ∷ []) (periodic 1 2 3 3) ∷
    []) in
    record g { setup = record g.setup { drive = Horizon horizon } }

abbrev pub body_run : Group
body_run = body_run_of 3

abbrev pub body_run_lines : List Line
body_run_lines =
    line 0 0 tick Done [] ∷
    line 0 0 irq (runs_task 1) [] ∷
    line 0 0 work Done [] ∷
    line 0 1 tick Done [] ∷
    line 0 1 irq Quiet [] ∷
    line 0 1 work Done [] ∷
    line 0 1 end Done (to 0 None ∷ []) ∷
    line 0 2 tick Done [] ∷
    line 0 2 irq Quiet [] ∷
    []

pub body_run_played : IsTrace body_run (to 0 (Some 1) ∷ []) body_run_lines
unfolding computed
body_run_played = (refl, refl)

pub body_run_nexts : nexts body_run [] (steps_of body_run_lines) ≡
    Some irq ∷
    Some irq ∷
    Some work ∷
    None ∷
    Some work ∷
    Some work ∷
    Some end ∷
    None ∷
    None ∷
    None ∷
    []
unfolding computed
body_run_nexts = refl

-- the second job begins the body anew
abbrev pub second_job : Group
second_job = body_run_of 4

abbrev pub second_job_lines : List Line
second_job_lines = body_run_lines ++
    line 0 3 tick Done (to 0 (Some 1) ∷ []) ∷
    line 0 3 irq (runs_task 1) [] ∷
    []

pub second_job_played : IsTrace second_job (to 0 (Some 1) ∷ []) second_job_lines
unfolding computed
second_job_played = (refl, refl)

pub second_job_next : next_act second_job (situation second_job 0 (past_by second_job [] (steps_of second_job_lines))) ≡ Some work
unfolding computed
second_job_next = refl

-- no budget is left: an interrupt is pending and deferred, NpOff goes on, and Work waits for the replenishment
abbrev pub without_budget : Group
without_budget =
    group_of plugins.PRes (cluster_with 1 0 ∷ []) [] (reservation resv_kinds.Polling 1 10 1 ∷ []) (
    client_of 1 (with_body (ops.NpOn ∷ ops.Work ∷ ops.NpOff ∷ ops.NpOn ∷ ops.Work ∷ ops.NpOff ∷ ops.End ∷ []) (periodic 1 5 100 100)) ∷
    [])

abbrev pub without_budget_steps : List Step
without_budget_steps =
    step_of 0 0 irq ∷
    step_of 0 0 np_on ∷
    step_of 0 0 work ∷
    step_of 0 0 np_off ∷
    step_of 0 0 np_on ∷
    step_of 0 1 tick ∷
    step_of 0 10 tick ∷
    []

pub without_budget_nexts : nexts without_budget [] without_budget_steps ≡
    Some irq ∷
    Some np_on ∷
    Some work ∷
    Some np_off ∷
    Some irq ∷
    None ∷
    None ∷
    Some work ∷
    []
unfolding computed
without_budget_nexts = refl

-- a queued Lock counts as done: once it is granted, the job goes on after it
abbrev pub queued_lock : Group
queued_lock =
    group_of plugins.GsnEdf (cluster_with 2 0 ∷ []) (sem_under Fmlp ∷ []) [] (
    using (1 ∷ []) (with_body (ops.Lock (sem_no 1) ∷ ops.Work ∷ ops.Unlock (sem_no 1) ∷ ops.End ∷ []) (periodic 1 5 100 10)) ∷
    using (1 ∷ []) (with_body (ops.Lock (sem_no 1) ∷ ops.Unlock (sem_no 1) ∷ ops.End ∷ []) (periodic 2 5 100 20)) ∷
    [])

abbrev pub queued_lock_steps : List Step
queued_lock_steps =
    step_of 0 0 irq ∷
    step_of 1 0 irq ∷
    step_of 1 0 (lock 1) ∷
    step_of 0 0 (lock 1) ∷
    step_of 0 0 irq ∷
    step_of 1 0 (unlock 1) ∷
    step_of 0 0 irq ∷
    step_of 0 0 work ∷
    []

pub queued_lock_nexts : nexts queued_lock [] queued_lock_steps ≡
    Some irq ∷
    Some (lock 1) ∷
    Some (lock 1) ∷
    Some (lock 1) ∷
    None ∷
    None ∷
    Some irq ∷
    Some work ∷
    Some (unlock 1) ∷
    []
unfolding computed
queued_lock_nexts = refl

-- a processor that runs nothing takes its interrupt, whatever is said of a section
abbrev pub idle_situation : Situation
idle_situation = record { runs = None; at = 0; np = true; pending = true; worked = false; budget = true }

pub idle_next : next_act body_run idle_situation ≡ Some irq
unfolding computed
idle_next = refl
