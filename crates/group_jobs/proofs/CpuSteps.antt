-- The facts of processors after a move, and that refused acts and the clock change nothing.
use Rattle.std.proofs.Common.{◌≡◌, ℕ, false, ◌∷◌, refl}
use Rattle.std.specs.Prelude.{◌==◌, is_some}
use Rattle.rt_task.specs.declared.Act.{Act}
use Rattle.rt_task.specs.declared.Act.TheVariants as acts
use Rattle.rt_task.specs.declared.Op.{Op}
use Rattle.rt_task.specs.declared.Op.TheVariants as ops
use Rattle.rt_rules.proofs.BoolLaws.{and_false}
use Rattle.rt_rules.proofs.MemberLaws.{equal_self}
use Rattle.rt_model.specs.Answers.{last_work, works_at}
use Rattle.rt_model.specs.Outcomes.{past_act}
use Rattle.rt_model.specs.Past.{PastAct, Clock, Acted, Past, now}
use Rattle.rt_model.specs.Runs.{runs}
use Rattle.rt_model.proofs.Steps.{runs-acted}
use Rattle.rt_changes.proofs.rankings.TouchedTasks.{acts_touch_few}
use Rattle.rt_laws.proofs.jobs.RefusedJobs.{IsRefused, is_refused, last_work-refused, runs-refused}
use Rattle.rt_changes.proofs.rankings.TouchedTasks.{clock_keeps_jobs}
use Rattle.group_jobs.specs.Facts.{cpu_facts}
use Rattle.group_jobs.specs.Moves.{works, cpu_after}
use Rattle.group_jobs.specs.FactMoves.{CpuIsCounted, RefusedStays, ClockStays}
use Rattle.group_jobs.proofs.JobSteps.{facts-same}

works-here : (q : ℕ) (d : PastAct) → d.cpu ≡ q → works_at q (Acted d) ≡ works d.act d.reply
works-here q d c = by_act d.act refl
  where
    by_op : (o : Op) → d.act ≡ acts.Do o → works_at q (Acted d) ≡ works (acts.Do o) d.reply
    by_op ops.Work e = rw (e, c, equal_self q)
    by_op (ops.Lock n) e = rw e (and_false (d.cpu == q))
    by_op (ops.Unlock n) e = rw e (and_false (d.cpu == q))
    by_op (ops.Sleep n) e = rw e (and_false (d.cpu == q))
    by_op ops.NpOn e = rw e (and_false (d.cpu == q))
    by_op ops.NpOff e = rw e (and_false (d.cpu == q))
    by_op ops.End e = rw e (and_false (d.cpu == q))

    by_act : (a : Act) → d.act ≡ a → works_at q (Acted d) ≡ works a d.reply
    by_act (acts.Do o) e = by_op o e
    by_act acts.Tick e = rw e (and_false (d.cpu == q))
    by_act acts.Irq e = rw e (and_false (d.cpu == q))
    by_act (acts.Arrive t) e = rw e (and_false (d.cpu == q))

pub cpu-here : (q : ℕ) (d : PastAct) (past : Past) → d.cpu ≡ q
    → cpu_facts q (Acted d ∷ past) ≡ cpu_after (now past) d.act d.reply (is_some d.ended) (cpu_facts q past)
unfolding last_work
cpu-here q d past c = rw (runs-acted q d past, works-here q d c, c, equal_self q)

pub cpu-there : (p : ℕ) (d : PastAct) (past : Past) → d.cpu == p ≡ false → cpu_facts p (Acted d ∷ past) ≡ cpu_facts p past
unfolding last_work
cpu-there p d past c = rw (runs-acted p d past, c)

pub cpu_is_counted : CpuIsCounted
unfolding past_act
cpu_is_counted g q act past = record {
  own = cpu-here q (past_act g q act past) past refl;
  others = λ p h. cpu-there p (past_act g q act past) past h;
}

pub refused_stays : RefusedStays
refused_stays g past valid made q act h =
    let d : PastAct = past_act g q act past in
    let refused : IsRefused d = is_refused g q act past h in
    record {
      jobs = λ t. facts-same g t past (Acted d ∷ past) (acts_touch_few g past valid made q act t (rw h)).same_job;
      cpus = λ p. rw (runs-refused d past refused p, last_work-refused d past refused p);
    }

pub clock_stays : ClockStays
unfolding runs last_work
clock_stays g past valid made tick = record {
  jobs = λ t. facts-same g t past (Clock tick ∷ past) (clock_keeps_jobs g past valid made tick t);
  cpus = λ q. refl;
}
