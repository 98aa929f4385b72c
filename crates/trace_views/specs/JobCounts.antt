-- What is counted of a job: units, preemptions, migrations, moves, requests and the critical sections that these saw end.
use Rattle.std.specs.Prelude.{ℕ, ◌+◌, Bool, true, false, not, ◌&&◌, ◌==◌, nat_lt, List, [], ◌∷◌, sum_by, Option, None, Some}
use Rattle.std.specs.Prelude.{if◌then◌else◌}
use Rattle.rt_rules.specs.declared.history.Reply.{Reply}
use Rattle.rt_rules.specs.declared.history.Reply.TheVariants as replies
use Rattle.rt_rules.specs.Numbers.{is}
use Rattle.rt_model.specs.Blocking.{Asked, asks, asked_by, ends, ends_all}
use Rattle.rt_model.specs.Group.{Group}
use Rattle.rt_model.specs.Past.{Event, Past, Clock, Acted, did, is_work, entries_in, number_of, sem_act, since}
use Rattle.trace_views.specs.JobMoves.{Test, count_moves, in_job}
use Rattle.trace_views.specs.JobTimes.{works}

-- how many moves of a job pass
abbrev pub count_in_job : ℕ → ℕ → Test → Past → ℕ
count_in_job t k test past = count_moves (in_job t k test) past

unfoldable pub units : ℕ → ℕ → Past → ℕ
units t k past = count_in_job t k (works t) past

-- the processor of an act
abbrev pub is_on : ℕ → Event → Bool
is_on q (Clock tick) = false
is_on q (Acted d) = d.cpu == q

-- an accepted interrupt, after which the processor runs something else or nothing
abbrev pub is_switch_reply : Reply → Bool
is_switch_reply (replies.Runs t) = true
is_switch_reply replies.Idles = true
is_switch_reply _ = false

abbrev pub switches : ℕ → Event → Bool
switches q (Clock tick) = false
switches q (Acted d) = d.cpu == q && is_switch_reply d.reply

-- the task did a unit on the processor since that took it up
abbrev pub has_worked : ℕ → ℕ → Past → Bool
has_worked t q past = nat_lt 0 (number_of (λ e. is_on q e && is_work (did t e)) (since (switches q) past))

-- a preemption: by an accepted interrupt a processor leaves the task, which has done a unit there
abbrev pub preempts : ℕ → Test
preempts t (Clock tick) past = false
preempts t (Acted d) past = is t d.task && (is_switch_reply d.reply && has_worked t d.cpu past)

unfoldable pub preemptions : ℕ → ℕ → Past → ℕ
preemptions t k past = count_in_job t k (preempts t) past

-- a migration: a unit on another processor than the job's unit before it
unfoldable pub unit_cpus : ℕ → ℕ → Past → List ℕ
unit_cpus t k [] = []
unit_cpus t k (Clock tick ∷ past) = unit_cpus t k past
unit_cpus t k (Acted d ∷ past) = if in_job t k (works t) (Acted d) past then (d.cpu ∷ unit_cpus t k past) else unit_cpus t k past

abbrev pub changes : List ℕ → ℕ
changes [] = 0
changes (p ∷ []) = 0
changes (p ∷ q ∷ ps) = (if p == q then 0 else 1) + changes (q ∷ ps)

unfoldable pub migrations : ℕ → ℕ → Past → ℕ
migrations t k past = changes (unit_cpus t k past)

-- a move: a processor takes the task up, and it was another that did so last
abbrev pub taken_up : Reply → Option ℕ
taken_up (replies.Runs t) = Some t.0
taken_up _ = None

abbrev pub takes_up : ℕ → Reply → Bool
takes_up t reply = is t (taken_up reply)

unfoldable pub last_cpu : ℕ → Past → Option ℕ
last_cpu t [] = None
last_cpu t (Clock tick ∷ past) = last_cpu t past
last_cpu t (Acted d ∷ past) = if takes_up t d.reply then Some d.cpu else last_cpu t past

abbrev pub is_elsewhere : ℕ → Option ℕ → Bool
is_elsewhere q None = false
is_elsewhere q (Some p) = not (p == q)

abbrev pub moves_now : ℕ → Test
moves_now t (Clock tick) past = false
moves_now t (Acted d) past = takes_up t d.reply && is_elsewhere d.cpu (last_cpu t past)

unfoldable pub moves : ℕ → ℕ → Past → ℕ
moves t k past = count_in_job t k (moves_now t) past

-- a request, which is an accepted Lock; and whether it was queued
abbrev pub asks_now : ℕ → Test
asks_now t e past = asks t (sem_act e)

abbrev pub is_queued_reply : Reply → Bool
is_queued_reply replies.Queued = true
is_queued_reply _ = false

abbrev pub is_queued : Event → Bool
is_queued (Clock tick) = false
is_queued (Acted d) = is_queued_reply d.reply

abbrev pub queues_now : ℕ → Test
queues_now t e past = asks t (sem_act e) && is_queued e

unfoldable pub requests_made : ℕ → ℕ → Past → ℕ
requests_made t k past = count_in_job t k (asks_now t) past

unfoldable pub queued : ℕ → ℕ → Past → ℕ
queued t k past = count_in_job t k (queues_now t) past

-- the requests themselves, in order of asking
unfoldable pub requests_of : ℕ → ℕ → Past → List Asked
requests_of t k [] = []
requests_of t k (e ∷ past) =
    if in_job t k (asks_now t) e past then asked_by (sem_act e) (entries_in past) (requests_of t k past) else requests_of t k past

module _ (g : Group) where
  -- how many critical sections its requests saw end while its task was priority-blocked, and how many in all
  unfoldable pub ends_seen : ℕ → ℕ → Past → ℕ
  ends_seen t k past = sum_by (λ (r : Asked). ends g r.no r.task r.sem past) (requests_of t k past)

  unfoldable pub ends_all_seen : ℕ → ℕ → Past → ℕ
  ends_all_seen t k past = sum_by (λ (r : Asked). ends_all g r.no r.task r.sem past) (requests_of t k past)
