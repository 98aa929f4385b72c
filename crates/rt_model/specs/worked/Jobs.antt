-- Worked examples: releases, arrivals, early releasing, sleeping, and enforcement.
use Rattle.std.specs.Prelude.{◌≡◌, List, [], ◌∷◌, None, Some, refl}
use Rattle.rt_task.specs.declared.PluginKind.TheVariants as plugins
use Rattle.rt_rules.specs.declared.history.Reply.TheVariants.{Done, Idle, Spent, TooEarly, NotSporadic}
use Rattle.rt_model.specs.worked.Computed.{computed}
use Rattle.rt_model.specs.Group.{Group}
use Rattle.rt_model.specs.Histories.{raises}
use Rattle.rt_model.specs.worked.Samples.{Line, line, entries_of, IsTrace, group_of, cluster_with, periodic, sporadic, with_phase, enforced}
use Rattle.rt_model.specs.worked.Samples.{early, tick, irq, arrive, work, sleep, np_on, np_off, end, runs_task, to}

-- a job that ends is followed by that of the next deadline
abbrev pub next_job : Group
next_job =
    group_of plugins.GsnEdf (cluster_with 1 0 ∷ []) [] [] (
    periodic 1 1 10 10 ∷
    periodic 2 1 10 10 ∷
    [])

abbrev pub next_job_lines : List Line
next_job_lines =
    line 0 0 irq (runs_task 1) [] ∷
    line 0 0 end Done (to 0 (Some 2) ∷ []) ∷
    []

pub next_job_played : IsTrace next_job (to 0 (Some 1) ∷ []) next_job_lines
unfolding computed
next_job_played = (refl, refl)

-- a job that ends after its deadline changes nothing for the next one
abbrev pub late_jobs : Group
late_jobs =
    group_of plugins.GsnEdf (cluster_with 1 0 ∷ []) [] [] (
    periodic 1 1 10 5 ∷
    [])

abbrev pub late_jobs_lines : List Line
late_jobs_lines =
    line 0 0 irq (runs_task 1) [] ∷
    line 0 6 end Done (to 0 None ∷ []) ∷
    line 0 10 irq (runs_task 1) (to 0 (Some 1) ∷ []) ∷
    line 0 20 end Done [] ∷
    []

pub late_jobs_played : IsTrace late_jobs (to 0 (Some 1) ∷ []) late_jobs_lines
unfolding computed
late_jobs_played = (refl, refl)

-- a step with an earlier tick leaves the clock
abbrev pub earlier_tick : Group
earlier_tick =
    group_of plugins.GsnEdf (cluster_with 1 0 ∷ []) [] [] (
    with_phase 5 (periodic 1 1 1000 30) ∷
    [])

abbrev pub earlier_tick_lines : List Line
earlier_tick_lines =
    line 0 5 tick Done (to 0 (Some 1) ∷ []) ∷
    line 0 3 irq (runs_task 1) [] ∷
    line 0 3 work Done [] ∷
    line 0 5 work Spent [] ∷
    []

pub earlier_tick_played : IsTrace earlier_tick (to 0 None ∷ []) earlier_tick_lines
unfolding computed
earlier_tick_played = (refl, refl)

-- arrivals come a period apart, and to sporadic tasks alone
abbrev pub sporadic_arrivals : Group
sporadic_arrivals =
    group_of plugins.GsnEdf (cluster_with 1 0 ∷ []) [] [] (
    sporadic 1 1 10 10 ∷
    periodic 2 1 1000 100 ∷
    [])

abbrev pub sporadic_arrivals_lines : List Line
sporadic_arrivals_lines =
    line 0 0 (arrive 1) Done (to 0 (Some 1) ∷ []) ∷
    line 0 9 (arrive 1) TooEarly [] ∷
    line 0 10 (arrive 1) Done [] ∷
    line 0 10 (arrive 2) NotSporadic [] ∷
    []

pub sporadic_arrivals_played : IsTrace sporadic_arrivals (to 0 (Some 2) ∷ []) sporadic_arrivals_lines
unfolding computed
sporadic_arrivals_played = (refl, refl)

-- the first arrival is accepted from the phase on; an arrival while a job goes on is the release of the next one
abbrev pub first_arrival : Group
first_arrival =
    group_of plugins.GsnEdf (cluster_with 1 0 ∷ []) [] [] (
    with_phase 5 (sporadic 1 1 10 10) ∷
    [])

abbrev pub first_arrival_lines : List Line
first_arrival_lines =
    line 0 3 (arrive 1) TooEarly [] ∷
    line 0 5 (arrive 1) Done (to 0 (Some 1) ∷ []) ∷
    line 0 5 irq (runs_task 1) [] ∷
    line 0 14 (arrive 1) TooEarly [] ∷
    line 0 15 (arrive 1) Done [] ∷
    line 0 15 end Done [] ∷
    line 0 15 irq (runs_task 1) [] ∷
    line 0 20 (arrive 1) TooEarly [] ∷
    line 0 25 (arrive 1) Done [] ∷
    line 0 25 end Done [] ∷
    []

pub first_arrival_played : IsTrace first_arrival (to 0 None ∷ []) first_arrival_lines
unfolding computed
first_arrival_played = (refl, refl)

-- task 1 is early: its next job is there as soon as the last one ended, with the deadline of its number
abbrev pub early_releasing : Group
early_releasing =
    group_of plugins.GsnEdf (cluster_with 1 0 ∷ []) [] [] (
    early (periodic 1 1 10 10) ∷
    periodic 2 1 1000 15 ∷
    [])

abbrev pub early_releasing_lines : List Line
early_releasing_lines =
    line 0 0 irq (runs_task 1) [] ∷
    line 0 0 end Done (to 0 (Some 2) ∷ []) ∷
    line 0 0 irq (runs_task 2) [] ∷
    line 0 0 end Done (to 0 (Some 1) ∷ []) ∷
    line 0 0 irq (runs_task 1) [] ∷
    line 0 0 end Done [] ∷
    line 0 0 irq (runs_task 1) [] ∷
    []

pub early_releasing_played : IsTrace early_releasing (to 0 (Some 1) ∷ []) early_releasing_lines
unfolding computed
early_releasing_played = (refl, refl)

-- each end raises an interrupt, also the last, after which the link is the same
pub early_releasing_raises : raises early_releasing 0 (entries_of early_releasing_lines) ≡ 3
unfolding computed
early_releasing_raises = refl

-- the first job of an early task is not early
abbrev pub early_from_phase : Group
early_from_phase =
    group_of plugins.GsnEdf (cluster_with 1 0 ∷ []) [] [] (
    early (with_phase 5 (periodic 1 1 10 10)) ∷
    [])

abbrev pub early_from_phase_lines : List Line
early_from_phase_lines =
    line 0 4 tick Done [] ∷
    line 0 5 tick Done (to 0 (Some 1) ∷ []) ∷
    line 0 5 irq (runs_task 1) [] ∷
    line 0 5 end Done [] ∷
    line 0 5 irq (runs_task 1) [] ∷
    []

pub early_from_phase_played : IsTrace early_from_phase (to 0 None ∷ []) early_from_phase_lines
unfolding computed
early_from_phase_played = (refl, refl)

-- a job sleeps until the clock is the moment of its sleep and the time that it asked for
abbrev pub sleeping : Group
sleeping =
    group_of plugins.GsnEdf (cluster_with 1 0 ∷ []) [] [] (
    periodic 1 1 1000 10 ∷
    periodic 2 1 1000 20 ∷
    [])

abbrev pub sleeping_lines : List Line
sleeping_lines =
    line 0 1 irq (runs_task 1) [] ∷
    line 0 1 (sleep 3) Done (to 0 (Some 2) ∷ []) ∷
    line 0 3 tick Done [] ∷
    line 0 4 tick Done (to 0 (Some 1) ∷ []) ∷
    line 0 4 irq (runs_task 1) [] ∷
    line 0 4 end Done (to 0 (Some 2) ∷ []) ∷
    line 0 4 irq (runs_task 2) [] ∷
    line 0 4 (sleep 2) Done (to 0 None ∷ []) ∷
    line 0 6 irq (runs_task 2) (to 0 (Some 2) ∷ []) ∷
    []

pub sleeping_played : IsTrace sleeping (to 0 (Some 1) ∷ []) sleeping_lines
unfolding computed
sleeping_played = (refl, refl)

-- a forced end is put off to the end of the non-preemptive section
abbrev pub put_off : Group
put_off =
    group_of plugins.GsnEdf (cluster_with 1 0 ∷ []) [] [] (
    enforced (periodic 1 1 10 10) ∷
    [])

abbrev pub put_off_lines : List Line
put_off_lines =
    line 0 0 irq (runs_task 1) [] ∷
    line 0 0 np_on Done [] ∷
    line 0 0 work Done [] ∷
    line 0 0 np_off Done (to 0 None ∷ []) ∷
    line 0 0 work Idle [] ∷
    []

pub put_off_played : IsTrace put_off (to 0 (Some 1) ∷ []) put_off_lines
unfolding computed
put_off_played = (refl, refl)

-- each job of an enforced task ends at the work that uses up its cost
abbrev pub enforced_jobs : Group
enforced_jobs =
    group_of plugins.GsnEdf (cluster_with 1 0 ∷ []) [] [] (
    enforced (periodic 1 2 10 10) ∷
    [])

abbrev pub enforced_jobs_lines : List Line
enforced_jobs_lines =
    line 0 0 irq (runs_task 1) [] ∷
    line 0 0 work Done [] ∷
    line 0 1 work Done (to 0 None ∷ []) ∷
    line 0 10 irq (runs_task 1) (to 0 (Some 1) ∷ []) ∷
    line 0 10 work Done [] ∷
    line 0 11 work Done (to 0 None ∷ []) ∷
    line 0 11 work Idle [] ∷
    []

pub enforced_jobs_played : IsTrace enforced_jobs (to 0 (Some 1) ∷ []) enforced_jobs_lines
unfolding computed
enforced_jobs_played = (refl, refl)

-- two arrivals wait: the current job has the release and the deadline of its own, the first one
abbrev pub two_arrivals_wait : Group
two_arrivals_wait =
    group_of plugins.GsnEdf (cluster_with 1 0 ∷ []) [] [] (
    sporadic 1 1 5 10 ∷
    periodic 2 1 1000 12 ∷
    [])

abbrev pub two_arrivals_wait_lines : List Line
two_arrivals_wait_lines =
    line 0 0 (arrive 1) Done (to 0 (Some 1) ∷ []) ∷
    line 0 0 irq (runs_task 1) [] ∷
    line 0 5 (arrive 1) Done [] ∷
    line 0 5 end Done (to 0 (Some 2) ∷ []) ∷
    line 0 6 irq (runs_task 2) [] ∷
    line 0 6 end Done (to 0 (Some 1) ∷ []) ∷
    []

pub two_arrivals_wait_played : IsTrace two_arrivals_wait (to 0 (Some 2) ∷ []) two_arrivals_wait_lines
unfolding computed
two_arrivals_wait_played = (refl, refl)
