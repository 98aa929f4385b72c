-- The totals of the table of tasks are what the tools count of the entries.
use Rattle.std.proofs.Common.{◌≡◌, ◌∙◌, ℕ, ◌+◌, Bool, true, false, [], ◌&&◌, refl, sym, ap, arith, eqb-true}
use Rattle.std.specs.Prelude.{Option, None, Some, if◌then◌else◌, is_some, nat_lt, count_by, ◌==◌}
use Rattle.rt_task.specs.declared.Act.{Act}
use Rattle.rt_task.specs.declared.Act.TheVariants as acts
use Rattle.rt_task.specs.declared.Op.TheVariants as ops
use Rattle.rt_rules.specs.declared.history.Reply.{Reply}
use Rattle.rt_rules.specs.declared.history.Reply.TheVariants as replies
use Rattle.rt_rules.specs.Distinct.{IsDistinct}
use Rattle.rt_rules.specs.Numbers.{has, is}
use Rattle.rt_rules.proofs.BoolLaws.{both, and_false}
use Rattle.rt_rules.proofs.MemberLaws.{is-some}
use Rattle.rt_rules.proofs.NumberLaws.{distinct-numbers_from}
use Rattle.rt_rules.proofs.PlacingLaws.{distinct-filter}
use Rattle.rt_model.specs.Answers.{answer, do_answer, op_answer, work_answer}
use Rattle.rt_model.specs.Group.{Group, home, in_group, tasks}
use Rattle.rt_model.specs.Histories.{after, clock_moved, past_of, reply_to}
use Rattle.rt_model.specs.Outcomes.{past_act}
use Rattle.rt_model.specs.Past.{Acted, Clock, Event, Past, PastAct, accepted, did, ends_job, now, operation}
use Rattle.rt_model.specs.Past as pasts
use Rattle.rt_model.specs.Reachable.{IsReachable}
use Rattle.rt_model.specs.Releases.{deadline}
use Rattle.rt_model.specs.Runs.{runs}
use Rattle.rt_plays.specs.Endings.{ended_in}
use Rattle.rt_model.proofs.Steps.{past_act-task}
use Rattle.rt_laws.proofs.Moves.{IsMove, clock_moves, cpu_acts}
use Rattle.rt_laws.proofs.Rules.{MeetsRules}
use Rattle.rt_laws.proofs.jobs.Running.{IsRunning, ended-runs, running}
use Rattle.rt_laws.proofs.semaphores.SemaphoreLaws.{histories_are_made}
use Rattle.rt_laws.proofs.ValidSets.{rules_of}
use Rattle.trace_text.specs.CountLines.{ended_late, ended_task, shown_entries}
use Rattle.trace_tools.specs.Entries as tools
use Rattle.trace_views.specs.JobMoves.{count_moves}
use Rattle.trace_views.specs.JobTimes.{works}
use Rattle.trace_views.specs.TableLaws.{ends_late}
use Rattle.trace_views.specs.TaskRows.{TaskRow, task_row, task_rows}
use Rattle.trace_views.proofs.Lateness.{late_ended_late}
use Rattle.trace_views.proofs.RowSums.{did-task, rows_count_all}
use Rattle.trace_views.proofs.Sums.{sum-map}
use Rattle.view_laws.specs.Totals.{TotalsAreCounts, is_unit}
use Rattle.view_laws.proofs.Sums.{IsOfOne, sum-equal, tasks_have_all}
use Rattle.view_laws.proofs.Shown.{IsSameTest, moves_are_shown}

-- ---- late ends

-- the task of which a move ended a job late
abbrev late_of : Group → Option ℕ → Past → Option ℕ
late_of g None past = None
late_of g (Some u) past = if nat_lt (deadline g u past) (now past) then Some u else None

abbrev ends_late_of : Group → Event → Past → Option ℕ
ends_late_of g (Clock tick) past = None
ends_late_of g (Acted d) past = late_of g d.ended past

late-tells : (g : Group) (t : ℕ) (o : Option ℕ) (past : Past) → is t o && nat_lt (deadline g t past) (now past) ≡ is t (late_of g o past)
late-tells g t None past = refl
late-tells g t (Some u) past = by_case (t == u) refl
  where
    same : (b : Bool) → t == u ≡ true → b ≡ is t (if b then Some u else None)
    same true e = sym e
    same false e = refl

    other : (b : Bool) → t == u ≡ false → false ≡ is t (if b then Some u else None)
    other true e = sym e
    other false e = refl

    by_case : (x : Bool) → t == u ≡ x → x && nat_lt (deadline g t past) (now past) ≡ is t (if nat_lt (deadline g u past) (now past) then Some u else None)
    by_case true e = ap (λ v. nat_lt (deadline g v past) (now past)) (eqb-true t u e) ∙ same (nat_lt (deadline g u past) (now past)) e
    by_case false e = other (nat_lt (deadline g u past) (now past)) e

late-of_one : (g : Group) → MeetsRules g → IsOfOne g (ends_late g) (ends_late_of g)
late-of_one g rules = record { tells = tells; member = member }
  where
    tells : (t : ℕ) (e : Event) (past : Past) → ends_late g t e past ≡ is t (ends_late_of g e past)
    tells t (Clock tick) past = refl
    tells t (Acted d) past = late-tells g t d.ended past

    member : (t : ℕ) (past : Past) (e : Event) → IsReachable g past → IsMove g past e → ends_late g t e past ≡ true → has t (tasks g) ≡ true
    member t past e made (clock_moves tick) h = cc
    member t past e made (cpu_acts q a) h =
        let r : IsRunning g q t past = running g rules made q t (ended-runs g q t a past (both _ _ h).0) in
        r.member

late-shown : (g : Group) (o : Option ℕ) (past : Past) (d : PastAct) → d.ended ≡ o → is_some (late_of g d.ended past) ≡ (is_some (ended_task (ended_in g d past)) && ended_late (ended_in g d past))
late-shown g None past d h = rw h refl
late-shown g (Some u) past d h = rw h (by_case (nat_lt (deadline g u past) (now past)))
  where
    by_case : (b : Bool) → is_some (if b then Some u else None) ≡ b
    by_case true = refl
    by_case false = refl

late-same : (g : Group) → IsSameTest g (λ e past. is_some (ends_late_of g e past)) tools.ends_late
unfolding after
late-same g = record {
  clocks = λ tick past. refl;
  acts = λ i e past legal. late-shown g _ (clock_moved e.step past) (past_act g e.step.cpu.0 e.step.act (clock_moved e.step past)) refl;
}

-- ---- units

-- the task that did a unit in a move
abbrev works_of : Event → Past → Option ℕ
works_of (Clock tick) past = None
works_of (Acted d) past = if accepted d.reply && pasts.is_work (operation d.act) then d.task else None

works-of_one : (g : Group) → MeetsRules g → IsOfOne g works works_of
works-of_one g rules = record { tells = tells; member = member }
  where
    by_case : (t : ℕ) (d : PastAct) (x y z : Bool) → is t d.task ≡ x → pasts.is_work (operation d.act) ≡ z
        → pasts.is_work (if x && y then operation d.act else None) ≡ is t (if y && z then d.task else None)
    by_case t d true true true h k = k ∙ sym h
    by_case t d true true false h k = k
    by_case t d true false z h k = refl
    by_case t d false true true h k = sym h
    by_case t d false true false h k = refl
    by_case t d false false z h k = refl

    tells : (t : ℕ) (e : Event) (past : Past) → works t e past ≡ is t (works_of e past)
    tells t (Clock tick) past = refl
    tells t (Acted d) past = by_case t d (is t d.task) (accepted d.reply) (pasts.is_work (operation d.act)) refl refl

    member : (t : ℕ) (past : Past) (e : Event) → IsReachable g past → IsMove g past e → works t e past ≡ true → has t (tasks g) ≡ true
    member t past e made (clock_moves tick) h = cc
    member t past e made (cpu_acts q a) h =
        let done_by : is t (past_act g q a past).task ≡ true = did-task t (past_act g q a past) h in
        let task_is : is t (runs q past) ≡ true = rw (past_act-task g q a past) at done_by in
        let r : IsRunning g q t past = running g rules made q t (is-some t (runs q past) task_is) in
        r.member

no_unit : (r : Reply) (o : Option ℕ) → is_some (if accepted r && false then o else None) ≡ false
no_unit r o = rw (and_false (accepted r)) refl

-- the reply to a Work is Done where it is accepted, and then something runs
unit-of : (g : Group) (q : ℕ) (act : Act) (past : Past) → is_some (if accepted (answer g q act past) && pasts.is_work (operation act) then runs q past else None) ≡ tools.is_work act (answer g q act past)
unfolding answer do_answer op_answer work_answer
unit-of g q acts.Tick past = no_unit (answer g q acts.Tick past) (runs q past)
unit-of g q acts.Irq past = no_unit (answer g q acts.Irq past) (runs q past)
unit-of g q (acts.Arrive t) past = no_unit (answer g q (acts.Arrive t) past) (runs q past)
unit-of g q (acts.Do ops.Work) past = by_runs (runs q past)
  where
    by_cases : (t : ℕ) (a b : Bool) → is_some (if accepted (if a then replies.Spent else (if b then replies.NoBudget else replies.Done)) && true then Some t else None) ≡ tools.is_work (acts.Do ops.Work) (if a then replies.Spent else (if b then replies.NoBudget else replies.Done))
    by_cases t true b = refl
    by_cases t false true = refl
    by_cases t false false = refl

    by_runs : (o : Option ℕ) → is_some (if accepted (do_answer g ops.Work q o past) && true then o else None) ≡ tools.is_work (acts.Do ops.Work) (do_answer g ops.Work q o past)
    by_runs None = refl
    by_runs (Some t) = by_cases t _ _
unit-of g q (acts.Do (ops.Lock s)) past = no_unit (answer g q (acts.Do (ops.Lock s)) past) (runs q past)
unit-of g q (acts.Do (ops.Unlock s)) past = no_unit (answer g q (acts.Do (ops.Unlock s)) past) (runs q past)
unit-of g q (acts.Do (ops.Sleep n)) past = no_unit (answer g q (acts.Do (ops.Sleep n)) past) (runs q past)
unit-of g q (acts.Do ops.NpOn) past = no_unit (answer g q (acts.Do ops.NpOn) past) (runs q past)
unit-of g q (acts.Do ops.NpOff) past = no_unit (answer g q (acts.Do ops.NpOff) past) (runs q past)
unit-of g q (acts.Do ops.End) past = no_unit (answer g q (acts.Do ops.End) past) (runs q past)

units-same : (g : Group) → IsSameTest g (λ e past. is_some (works_of e past)) is_unit
unfolding past_act reply_to
units-same g = record {
  clocks = λ tick past. refl;
  acts = λ i e past legal. unit-of g e.step.cpu.0 e.step.act (clock_moved e.step past) ∙ ap (λ r. tools.is_work e.step.act r) (sym legal);
}

-- ---- so the totals are the counts

pub distinct-tasks : (g : Group) → IsDistinct (tasks g)
unfolding tasks
distinct-tasks g = distinct-filter (λ t. in_group g (home g t)) _ (distinct-numbers_from 1 _)

from_zero : (n : ℕ) → 0 + n ≡ n
from_zero n = omega arith

pub totals_are_counts : TotalsAreCounts
unfolding task_rows past_of count_moves
totals_are_counts g es valid legal =
    let rules : MeetsRules g = rules_of g valid in
    let made : IsReachable g (past_of g es) = histories_are_made g es in
    record {
      late =
          sum-map (λ (r : TaskRow). r.late) (task_row g (past_of g es)) (tasks g)
          ∙ sum-equal _ (λ t. count_moves (ends_late g t) (past_of g es)) (tasks g) (λ t. late_ended_late g (past_of g es) valid made t)
          ∙ tasks_have_all g (ends_late g) (ends_late_of g) (distinct-tasks g) (late-of_one g rules) made
          ∙ moves_are_shown g (λ e past. is_some (ends_late_of g e past)) tools.ends_late (late-same g) 0 [] es legal
          ∙ from_zero (count_by tools.ends_late (shown_entries g 0 [] es));
      units =
          sum-map (λ (r : TaskRow). r.units) (task_row g (past_of g es)) (tasks g)
          ∙ sum-equal _ (λ t. count_moves (works t) (past_of g es)) (tasks g) (λ t. (rows_count_all g (past_of g es) valid made t).all_units)
          ∙ tasks_have_all g works works_of (distinct-tasks g) (works-of_one g rules) made
          ∙ moves_are_shown g (λ e past. is_some (works_of e past)) is_unit (units-same g) 0 [] es legal
          ∙ from_zero (count_by is_unit (shown_entries g 0 [] es));
    }
