-- The situation of a processor is read off what is kept.
use Rattle.std.proofs.Common.{◌≡◌, ℕ, true, not, refl, sym, ap}
use Rattle.std.specs.Prelude.{Option, None, Some, option_map}
use Rattle.rt_task.specs.RuleWords.{is_p_res}
use Rattle.rt_rules.specs.Numbers.{has, same}
use Rattle.rt_model.specs.Answers.{np_on, last_work}
use Rattle.rt_model.specs.Group.{Group, served_by, tasks}
use Rattle.rt_model.specs.Links.{linked, pending}
use Rattle.rt_model.specs.Past.{Past, now}
use Rattle.rt_model.specs.Reservations.{left}
use Rattle.rt_model.specs.Runs.{runs}
use Rattle.rt_model.specs.Situations.{task_no, ops_done_of, lacks_budget, situation}
use Rattle.group_jobs.specs.Facts.{JobFacts, CpuFacts}
use Rattle.group_jobs.specs.Kept.{Kept, IsKept, cpu_of}
use Rattle.group_jobs.specs.Situations.{lacks_of, situation_of, SituationIsRead}
use Rattle.group_jobs.specs.Situations as kept
use Rattle.group_jobs.proofs.ReadReplies.{lacks-same, np-read, member, runs-kept}

lacks-read : (g : Group) (o : Option ℕ) (budget : ℕ) (past : Past)
    → ((t : ℕ) → o ≡ Some t → is_p_res g.setup.plugin ≡ true → budget ≡ left g (served_by g t) past)
    → lacks_of g o budget ≡ lacks_budget g o past
unfolding lacks_budget
lacks-read g None budget past h = refl
lacks-read g (Some t) budget past h = lacks-same g t budget past (h t refl)

opened : (g : Group) (q : ℕ) (past : Past)
    → situation g q past ≡ record {
      runs = option_map task_no (runs q past);
      at = ops_done_of g (runs q past) past;
      np =
          np_on g (runs q past) past;
      pending = not (same (linked g q past) (runs q past));
      worked = same (last_work q past) (Some (now past));
      budget = not (lacks_budget g (runs q past) past);
    }
unfolding situation pending
opened g q past = refl

ops-read : (g : Group) (past : Past) (k : Kept) → IsKept g past k → (o : Option ℕ) → ((t : ℕ) → o ≡ Some t → has t (tasks g) ≡ true)
    → kept.ops_done_of k o ≡ ops_done_of g o past
unfolding ops_done_of
ops-read g past k kept None inside = refl
ops-read g past k kept (Some t) inside = ap (λ (j : JobFacts). j.ops_done) (kept.jobs_are t (inside t refl))

pub situation_is_read : SituationIsRead
situation_is_read g past valid made q budget k inside budget_is kept =
    let running : (cpu_of k q).runs ≡ runs q past = runs-kept g past valid made q k kept inside in
    let worked : (cpu_of k q).worked ≡ last_work q past = ap (λ (c : CpuFacts). c.worked) (kept.cpus_are q inside) in
    rw (
      running,
      worked,
      kept.clock_is,
      ops-read g past k kept (runs q past) (member g past valid made q k kept),
      np-read g past valid made q k kept (runs q past) refl,
      lacks-read g (runs q past) budget past budget_is,
    ) (sym (opened g q past))
