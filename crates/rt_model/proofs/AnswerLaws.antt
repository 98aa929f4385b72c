-- Only an interrupt is answered with a task to run, and that is the link of its processor.
use Rattle.std.proofs.Common.{◌≡◌, ℕ, Bool, true, false, cond, refl}
use Rattle.std.specs.Prelude.{Option, None, Some, if◌then◌else◌}
use Rattle.rt_task.specs.declared.Act.{Act}
use Rattle.rt_task.specs.declared.Act.TheVariants as acts
use Rattle.rt_task.specs.declared.Op.{Op}
use Rattle.rt_task.specs.declared.Op.TheVariants as ops
use Rattle.rt_task.specs.declared.Kind.{Kind}
use Rattle.rt_task.specs.declared.Kind.TheVariants.{Periodic, Sporadic}
use Rattle.rt_rules.specs.declared.history.Reply.{Reply}
use Rattle.rt_rules.specs.declared.history.Reply.TheVariants as replies
use Rattle.rt_rules.specs.Numbers.{is}
use Rattle.rt_model.specs.Answers.{answer, irq_answer, link_reply, np_on, arrival_answer, work_answer, lock_answer, unlock_answer, unless_holding, op_answer, do_answer}
use Rattle.rt_model.specs.Group.{Group, task}
use Rattle.rt_model.specs.Links.{linked, pending}
use Rattle.rt_model.specs.NonPreemptive.{non_preemptive}
use Rattle.rt_model.specs.Past.{Past}
use Rattle.rt_model.specs.Runs.{runs}

-- the task that a reply says to run
abbrev pub to_run : Reply → Option ℕ
to_run (replies.Runs t) = Some t.0
to_run _ = None

to_run-if : (b : Bool) (r s : Reply) → to_run (if b then r else s) ≡ (if b then to_run r else to_run s)
to_run-if true r s = refl
to_run-if false r s = refl

if_same : (b : Bool) (o : Option ℕ) → (if b then o else o) ≡ o
if_same true o = refl
if_same false o = refl

op-runs_none : (g : Group) (op : Op) (q t : ℕ) (np : Bool) (past : Past) → to_run (op_answer g op q t np past) ≡ None
unfolding op_answer work_answer lock_answer unlock_answer unless_holding
op-runs_none g ops.Work q t np past = simp (to_run-if, if_same)
op-runs_none g (ops.Lock s) q t np past = simp (to_run-if, if_same)
op-runs_none g (ops.Unlock s) q t np past = simp (to_run-if, if_same)
op-runs_none g (ops.Sleep n) q t np past = simp (to_run-if, if_same)
op-runs_none g ops.NpOn q t np past = simp (to_run-if, if_same)
op-runs_none g ops.NpOff q t np past = simp (to_run-if, if_same)
op-runs_none g ops.End q t np past = simp (to_run-if, if_same)

do-runs_none : (g : Group) (op : Op) (q : ℕ) (o : Option ℕ) (past : Past) → to_run (do_answer g op q o past) ≡ None
unfolding do_answer
do-runs_none g op q None past = refl
do-runs_none g op q (Some t) past = op-runs_none g op q t (non_preemptive t past) past

arrival-runs_none : (g : Group) (k : Kind) (t : ℕ) (past : Past) → to_run (arrival_answer g k t past) ≡ None
unfolding arrival_answer
arrival-runs_none g Periodic t past = refl
arrival-runs_none g Sporadic t past = simp (to_run-if, if_same)

irq-runs_link : (g : Group) (q t : ℕ) (past : Past) → is t (to_run (irq_answer g q past)) ≡ true → is t (linked g q past) ≡ true
unfolding irq_answer link_reply
irq-runs_link g q t past h = by_cases (pending g q past) (np_on g (runs q past) past) h
  where
    of_link : (o : Option ℕ) → is t (to_run (link_reply g o)) ≡ true → is t o ≡ true
    of_link None k = cc
    of_link (Some u) k = k

    by_cases : (a b : Bool) → is t (to_run (cond a (cond b replies.Deferred (link_reply g (linked g q past))) replies.Quiet)) ≡ true → is t (linked g q past) ≡ true
    by_cases true true k = cc
    by_cases true false k = of_link (linked g q past) k
    by_cases false b k = cc

pub answer-runs_link : (g : Group) (q t : ℕ) (act : Act) (past : Past) → is t (to_run (answer g q act past)) ≡ true → is t (linked g q past) ≡ true
unfolding answer
answer-runs_link g q t acts.Tick past h = cc
answer-runs_link g q t acts.Irq past h = irq-runs_link g q t past h
answer-runs_link g q t (acts.Arrive u) past h = let n = arrival-runs_none g (task g u.0).kind u.0 past in let m : false ≡ true = rw n at h in cc
answer-runs_link g q t (acts.Do op) past h = let n = do-runs_none g op q (runs q past) past in let m : false ≡ true = rw n at h in cc

-- it is an interrupt that is answered so
pub answer-runs_irq : (g : Group) (q t : ℕ) (act : Act) (past : Past) → is t (to_run (answer g q act past)) ≡ true → act ≡ acts.Irq
unfolding answer
answer-runs_irq g q t acts.Tick past h = cc
answer-runs_irq g q t acts.Irq past h = refl
answer-runs_irq g q t (acts.Arrive u) past h = let n = arrival-runs_none g (task g u.0).kind u.0 past in let m : false ≡ true = rw n at h in cc
answer-runs_irq g q t (acts.Do op) past h = let n = do-runs_none g op q (runs q past) past in let m : false ≡ true = rw n at h in cc
