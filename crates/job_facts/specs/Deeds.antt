-- What an act makes of what is kept of a job and of a task's jobs.
use Rattle.std.specs.Prelude.{ℕ, ◌+◌, Bool, true, false, ◌&&◌, [], ◌∷◌, ◌++◌, Option, None, Some, if◌then◌else◌}
use Rattle.rt_task.specs.declared.Act.{Act}
use Rattle.rt_task.specs.declared.Act.TheVariants.{Arrive, Do}
use Rattle.rt_task.specs.declared.Op.TheVariants.{Lock}
use Rattle.rt_rules.specs.declared.history.Reply.{Reply}
use Rattle.rt_rules.specs.Numbers.{is}
use Rattle.rt_model.specs.Past.{PastAct, accepted, is_work, operation}
use Rattle.trace_views.specs.JobCounts.{is_elsewhere, is_queued_reply, is_switch_reply, takes_up}
use Rattle.trace_views.specs.JobMoves.{or_else}
use Rattle.job_facts.specs.Tallies.{Jobs, Tally, nothing}

-- where an act is told: the clock, how many requests there were, and the task that worked on its processor since that switched last
pub record Scene : Type 0 where
  pub clock : ℕ
  pub asked : ℕ
  pub worker : Option ℕ

-- a job is taken up by another processor; it does a unit; it is preempted; it asks; it ends
abbrev pub moved : Bool → Tally → Tally
moved b x = record x { moves = if b then x.moves + 1 else x.moves }

abbrev pub worked : Bool → ℕ → ℕ → Tally → Tally
worked b clock cpu x = record x {
  start = if b then or_else x.start (Some clock) else x.start;
  unit = if b then Some clock else x.unit;
  last_cpu = if b then Some cpu else x.last_cpu;
  units = if b then x.units + 1 else x.units;
  migrations = if b && is_elsewhere cpu x.last_cpu then x.migrations + 1 else x.migrations;
}

abbrev pub preempted : Bool → Tally → Tally
preempted b x = record x { preemptions = if b then x.preemptions + 1 else x.preemptions }

abbrev pub asked : Bool → Bool → ℕ → Tally → Tally
asked b queued position x = record x {
  requests = if b then (x.requests ++ position ∷ []) else x.requests;
  queued = if b && queued then x.queued + 1 else x.queued;
}

abbrev pub ended : Bool → ℕ → Tally → Tally
ended b clock x = record x { end = if b then Some clock else x.end }

-- an accepted Work, and an accepted Lock
abbrev pub works : Act → Reply → Bool
works act reply = accepted reply && is_work (operation act)

abbrev pub is_lock : Act → Bool
is_lock (Do (Lock s)) = true
is_lock _ = false

abbrev pub locks : Act → Reply → Bool
locks act reply = accepted reply && is_lock act

-- the task of which a job arrives
abbrev pub arrived_by : Act → Option ℕ
arrived_by (Arrive t) = Some t.0
arrived_by _ = None

abbrev pub arrived_task : Act → Reply → Option ℕ
arrived_task act reply = if accepted reply then arrived_by act else None

-- the task that has worked on a processor since that switched last: a switch leaves none, and a unit its task
abbrev pub worker_after : Act → Reply → Option ℕ → Option ℕ → Option ℕ
worker_after act reply task before = if is_switch_reply reply then None else (if works act reply then or_else task before else before)

-- the job of a task, where its processor ran that, and whether it is the one that worked there
abbrev pub ran : Bool → Bool → ℕ → ℕ → PastAct → Tally → Tally
ran b is_worker clock position d x =
    asked (b && locks d.act d.reply) (is_queued_reply d.reply) position (
    preempted (b && (is_switch_reply d.reply && is_worker)) (
    worked (b && works d.act d.reply) clock d.cpu x))

-- the jobs of a task: a processor takes it up, it ran, a job of it arrives, one ends
abbrev pub taken : Bool → ℕ → Jobs → Jobs
taken b cpu r = record r { current = moved (b && is_elsewhere cpu r.last_cpu) r.current; last_cpu = if b then Some cpu else r.last_cpu }

abbrev pub run : Bool → Bool → ℕ → ℕ → PastAct → Jobs → Jobs
run b is_worker clock position d r = record r { current = ran b is_worker clock position d r.current }

abbrev pub arrived : Bool → ℕ → Jobs → Jobs
arrived b clock r = record r { arrivals = if b then (r.arrivals ++ clock ∷ []) else r.arrivals }

abbrev pub closed : ℕ → Jobs → Jobs
closed clock r = record r { ended = r.ended ++ ended true clock r.current ∷ []; current = nothing }

abbrev pub closed_if : Bool → ℕ → Jobs → Jobs
closed_if b clock r = if b then closed clock r else r

-- the same of a task by its number, at an act
abbrev pub jobs_taken : ℕ → PastAct → Jobs → Jobs
jobs_taken t d r = taken (takes_up t d.reply) d.cpu r

abbrev pub jobs_run : Scene → ℕ → PastAct → Jobs → Jobs
jobs_run at t d r = run (is t d.task) (is t at.worker) at.clock at.asked d r

abbrev pub jobs_arrived : ℕ → ℕ → PastAct → Jobs → Jobs
jobs_arrived clock t d r = arrived (is t (arrived_task d.act d.reply)) clock r

abbrev pub jobs_ended : ℕ → ℕ → PastAct → Jobs → Jobs
jobs_ended clock t d r = closed_if (is t d.ended) clock r

-- all of it
abbrev pub jobs_fed : Scene → ℕ → PastAct → Jobs → Jobs
jobs_fed at t d r = jobs_ended at.clock t d (jobs_arrived at.clock t d (jobs_run at t d (jobs_taken t d r)))
