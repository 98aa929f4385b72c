-- Worked corners of body runs: the steps that may come next.
use Rattle.std.specs.Prelude.{◌≡◌, ℕ, true, false, List, [], ◌∷◌, ◌++◌, None, Some, refl}
use Rattle.rt_task.specs.declared.Act.TheVariants as acts
use Rattle.rt_task.specs.declared.Drive.TheVariants.{Horizon}
use Rattle.rt_task.specs.declared.Kind.TheVariants.{Periodic}
use Rattle.rt_task.specs.declared.Op.TheVariants as ops
use Rattle.rt_task.specs.declared.PluginKind.TheVariants as plugins
use Rattle.rt_task.specs.declared.Protocol.TheVariants.{Fmlp}
use Rattle.rt_task.specs.declared.ResvKind.TheVariants.{Polling}
use Rattle.rt_task.specs.declared.Step.{Step}
use Rattle.rt_rules.specs.declared.history.Reply.TheVariants as replies
use Rattle.rt_model.specs.Group.{Group}
use Rattle.rt_model.specs.Histories.{past_by}
use Rattle.rt_model.specs.worked.Samples.{task_with, with_body, sem_under, sem_no}
use Rattle.rt_model.specs.Situations.{situation, next_act}
use Rattle.rt_plays.specs.BodyPlays.{has_ended}
use Rattle.rt_plays.specs.worked.Computed.{computed_plays}
use Rattle.rt_plays.specs.NextSteps.{step_at, next_steps}
use Rattle.rt_plays.specs.Order.{history, order}
use Rattle.rt_plays.specs.worked.Samples.{told, runs_task, work, lock, unlock, np_on, np_off, end, ops_of}

-- the steps that the processor may take after these steps of the group
abbrev pub nexts_after : Group → ℕ → List Step → List Step
nexts_after g q steps = next_steps g q (past_by g [] steps)

-- ---- a turn that was over and goes on

-- two processors, and one task whose first job is released at 1
abbrev pub late_task : Group
late_task = record {
  setup = record {
    plugin = plugins.GsnEdf;
    clusters = record { cpus = 2; group = record { 0 = 0 } } ∷ [];
    sems = [];
    resvs = [];
    tasks = with_body (ops_of (work 1 ∷ end ∷ [])) (task_with 1 0 1 10 10 1 Periodic 511 false [] None) ∷ [];
    drive = Horizon 2;
  };
  number = 0;
}

-- both processors have played turn 0, in which nothing ran
abbrev pub late_task_steps : List Step
late_task_steps = step_at 0 0 acts.Tick ∷ step_at 0 0 acts.Irq ∷ step_at 1 0 acts.Tick ∷ step_at 1 0 acts.Irq ∷ []

-- turn 0 of processor 0 is over: it may begin turn 1
pub late_task_is_over : nexts_after late_task 0 late_task_steps ≡ step_at 0 1 acts.Tick ∷ []
unfolding computed_plays
late_task_is_over = refl

-- the Tick of processor 1 releases the job, and processor 0 may also go on in turn 0
pub late_task_goes_on :
    nexts_after late_task 0 (late_task_steps ++ step_at 1 1 acts.Tick ∷ [])
    ≡ step_at 0 0 acts.Irq ∷ step_at 0 1 acts.Tick ∷ []
unfolding computed_plays
late_task_goes_on = refl

-- once it does, its turn is not over, until its next act is none again
pub late_task_asks_anew :
    nexts_after late_task 0 (late_task_steps ++ step_at 1 1 acts.Tick ∷ step_at 0 0 acts.Irq ∷ [])
    ≡ step_at 0 0 (acts.Do ops.Work) ∷ []
unfolding computed_plays
late_task_asks_anew = refl

abbrev pub late_task_turn : List Step
late_task_turn = step_at 0 0 acts.Irq ∷ step_at 0 0 (acts.Do ops.Work) ∷ step_at 0 0 (acts.Do ops.End) ∷ []

pub late_task_is_over_again :
    nexts_after late_task 0 (late_task_steps ++ step_at 1 1 acts.Tick ∷ late_task_turn)
    ≡ step_at 0 1 acts.Tick ∷ []
unfolding computed_plays
late_task_is_over_again = refl

-- ---- a turn that ends at sixteen acts

-- one job that becomes non-preemptive and preemptive again nine times
abbrev pub many_acts : Group
many_acts = record {
  setup = record {
    plugin = plugins.GsnEdf;
    clusters = record { cpus = 1; group = record { 0 = 0 } } ∷ [];
    sems = [];
    resvs = [];
    tasks = with_body
        (ops_of (np_on ∷ np_off ∷ np_on ∷ np_off ∷ np_on ∷ np_off ∷ np_on ∷ np_off ∷ np_on ∷ np_off ∷ np_on ∷ np_off ∷
        np_on ∷ np_off ∷ np_on ∷ np_off ∷ np_on ∷ np_off ∷ end ∷ []))
        (task_with 1 0 1 10 10 0 Periodic 511 false [] None) ∷ [];
    drive = Horizon 2;
  };
  number = 0;
}

-- a Tick, an Irq and sixteen acts
abbrev pub sixteen_acts : List Step
sixteen_acts = step_at 0 0 acts.Tick ∷ step_at 0 0 acts.Irq ∷ eight
  where
    twice : List Step → List Step
    twice steps = steps ++ steps

    eight : List Step
    eight = twice (twice (twice (step_at 0 0 (acts.Do ops.NpOn) ∷ step_at 0 0 (acts.Do ops.NpOff) ∷ [])))

-- the next act of the processor is there, but the turn is over
pub many_acts_are_over : nexts_after many_acts 0 sixteen_acts ≡ step_at 0 1 acts.Tick ∷ []
unfolding computed_plays
many_acts_are_over = refl

pub many_acts_next : next_act many_acts (situation many_acts 0 (past_by many_acts [] sixteen_acts)) ≡ Some (acts.Do ops.NpOn)
unfolding computed_plays
many_acts_next = refl

-- turn 1 plays the other three
pub many_acts_order :
    order many_acts
    ≡ sixteen_acts ++ step_at 0 1 acts.Tick ∷ step_at 0 1 acts.Irq ∷
    step_at 0 1 (acts.Do ops.NpOn) ∷ step_at 0 1 (acts.Do ops.NpOff) ∷ step_at 0 1 (acts.Do ops.End) ∷ []
unfolding computed_plays
many_acts_order = refl

-- ---- a non-preemptive job without budget goes on

-- one reservation with a budget of 1, and a task whose job works once in a non-preemptive section
abbrev pub no_budget_left : Group
no_budget_left = record {
  setup = record {
    plugin = plugins.PRes;
    clusters = record { cpus = 1; group = record { 0 = 0 } } ∷ [];
    sems = [];
    resvs = record { name = []; cluster = record { 0 = 0 }; kind = Polling; budget = 1; period = 10; prio = 1; slots = [] } ∷ [];
    tasks = with_body (ops_of (np_on ∷ work 1 ∷ np_off ∷ work 1 ∷ end ∷ []))
        (task_with 1 0 5 20 20 0 Periodic 511 false [] (Some 1)) ∷ [];
    drive = Horizon 2;
  };
  number = 0;
}

abbrev pub no_budget_steps : List Step
no_budget_steps =
    step_at 0 0 acts.Tick ∷ step_at 0 0 acts.Irq ∷ step_at 0 0 (acts.Do ops.NpOn) ∷ step_at 0 0 (acts.Do ops.Work) ∷ []

-- the budget is used, an interrupt is pending, and the operation that comes next is no Work
pub no_budget_situation :
    situation no_budget_left 0 (past_by no_budget_left [] no_budget_steps)
    ≡ record { runs = Some (record { 0 = 1 }); at = 2; np = true; pending = true; worked = true; budget = false }
unfolding computed_plays
no_budget_situation = refl

pub no_budget_goes_on : nexts_after no_budget_left 0 no_budget_steps ≡ step_at 0 0 (acts.Do ops.NpOff) ∷ []
unfolding computed_plays
no_budget_goes_on = refl

-- then the interrupt is taken, and nothing runs
pub no_budget_played :
    history no_budget_left [] (order no_budget_left)
    ≡ told 0 0 acts.Tick replies.Done ∷ told 0 0 acts.Irq (runs_task 1) ∷ told 0 0 (acts.Do ops.NpOn) replies.Done ∷
    told 0 0 (acts.Do ops.Work) replies.Done ∷ told 0 0 (acts.Do ops.NpOff) replies.Done ∷ told 0 0 acts.Irq replies.Idles ∷
    told 0 1 acts.Tick replies.Done ∷ told 0 1 acts.Irq replies.Quiet ∷ []
unfolding computed_plays
no_budget_played = refl

-- and both turns were played
pub no_budget_ended : has_ended no_budget_left 0 (past_by no_budget_left [] (order no_budget_left)) ≡ true
unfolding computed_plays
no_budget_ended = refl

-- ---- a turn that is over by a later entry of another processor

-- two processors; task 1 waits for the semaphore that task 2 holds, and task 3 is non-preemptive in places
abbrev pub over_later : Group
over_later = record {
  setup = record {
    plugin = plugins.GsnEdf;
    clusters = record { cpus = 2; group = record { 0 = 0 } } ∷ [];
    sems = sem_under Fmlp ∷ [];
    resvs = [];
    tasks =
        with_body (ops_of (lock 1 ∷ unlock 1 ∷ end ∷ [])) (task_with 1 0 9 100 10 0 Periodic 511 false (1 ∷ []) None) ∷
        with_body (ops_of (lock 1 ∷ unlock 1 ∷ end ∷ [])) (task_with 2 0 9 100 20 0 Periodic 511 false (1 ∷ []) None) ∷
        with_body (ops_of (np_on ∷ work 1 ∷ np_off ∷ work 1 ∷ end ∷ [])) (task_with 3 0 9 100 30 0 Periodic 511 false [] None) ∷
        [];
    drive = Horizon 2;
  };
  number = 0;
}

-- at the end task 1 has taken processor 0's link, and task 3, which runs there, may be interrupted
abbrev pub over_later_steps : List Step
over_later_steps =
    step_at 1 0 acts.Tick ∷ step_at 1 0 acts.Irq ∷ step_at 1 0 (acts.Do (ops.Lock (sem_no 1))) ∷
    step_at 0 0 acts.Tick ∷ step_at 0 0 acts.Irq ∷ step_at 0 0 (acts.Do (ops.Lock (sem_no 1))) ∷
    step_at 0 0 acts.Irq ∷ step_at 0 0 (acts.Do ops.NpOn) ∷
    step_at 1 0 (acts.Do (ops.Unlock (sem_no 1))) ∷
    step_at 0 0 (acts.Do ops.Work) ∷ step_at 0 0 (acts.Do ops.NpOff) ∷
    []

-- so the turn of processor 0 is not over
pub over_later_goes_on : nexts_after over_later 0 over_later_steps ≡ step_at 0 0 acts.Irq ∷ []
unfolding computed_plays
over_later_goes_on = refl

-- task 2 ends, and task 3 has the link again: its next act is none, since its processor has worked at this clock, and the turn is over
pub over_later_is_over :
    nexts_after over_later 0 (over_later_steps ++ step_at 1 0 (acts.Do ops.End) ∷ []) ≡ step_at 0 1 acts.Tick ∷ []
unfolding computed_plays
over_later_is_over = refl
