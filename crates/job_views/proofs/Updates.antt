-- The jobs of one task of a list are changed.
use Rattle.std.proofs.Common.{◌≡◌, ◌∙◌, ℕ, ◌<◌, ◌≢◌, Bool, true, false, List, length, get_or, refl, sym, ap, arith, eqb-true}
use Rattle.std.specs.Prelude.{Option, ◌==◌}
use Rattle.std.proofs.Math.ListN.{set}
use Rattle.std.proofs.lemmas.Bool.{false≢true}
use Rattle.std.proofs.lemmas.List.{get_or-map, get_or-set_other, get_or-set_same, length-set}
use Rattle.rt_rules.specs.Numbers.{is}
use Rattle.rt_rules.proofs.MemberLaws.{equal_self}
use Rattle.rt_model.specs.Past.{PastAct}
use Rattle.job_facts.specs.Deeds.{run}
use Rattle.job_facts.specs.Tallies.{Jobs, no_jobs}
use Rattle.job_views.specs.declared.task_jobs.TaskJobs.{TaskJobs}
use Rattle.job_views.specs.Told.{jobs_in, jobs_of}

pub jobs_in-at : (xs : List TaskJobs) (t : ℕ) (x : TaskJobs) → t < length xs → jobs_in xs t ≡ jobs_of (get_or xs t x)
jobs_in-at xs t x low = get_or-map jobs_of xs t x no_jobs low

module _ (f : Bool → Jobs → Jobs) (none : (r : Jobs) → f false r ≡ r) (xs : List TaskJobs) (u : ℕ) (x v : TaskJobs) (low : u < length xs) (made : jobs_of v ≡ f true (jobs_of (get_or xs u x))) where
  pub updated : (t : ℕ) → t < length xs → jobs_in (set xs u v) t ≡ f (t == u) (jobs_in xs t)
  updated t within = by_case (t == u) refl
    where
      long : t < length (set xs u v)
      long = omega (arith, within, length-set xs u v)

      by_case : (b : Bool) → t == u ≡ b → jobs_in (set xs u v) t ≡ f b (jobs_in xs t)
      by_case true m =
          let same : t ≡ u = eqb-true t u m in
          get_or-map jobs_of (set xs u v) t v no_jobs long ∙ ap (λ i. jobs_of (get_or (set xs u v) i v)) same ∙ ap jobs_of (get_or-set_same xs u v v low) ∙ made
          ∙ ap (f true) (sym (ap (jobs_in xs) same ∙ jobs_in-at xs u x low))
      by_case false m =
          let other : t ≢ u = λ e. false≢true (sym m ∙ ap (λ i. i == u) e ∙ equal_self u) in
          get_or-map jobs_of (set xs u v) t v no_jobs long ∙ ap jobs_of (get_or-set_other xs u t v v other) ∙ sym (get_or-map jobs_of xs t v no_jobs within) ∙ sym (none (jobs_in xs t))

-- whether a task is the worker matters where it is the one that ran
pub run-worker : (t u : ℕ) (o : Option ℕ) (clock position : ℕ) (d : PastAct) (r : Jobs) → run (t == u) (is u o) clock position d r ≡ run (t == u) (is t o) clock position d r
run-worker t u o clock position d r = by_case (t == u) refl
  where
    by_case : (b : Bool) → t == u ≡ b → run b (is u o) clock position d r ≡ run b (is t o) clock position d r
    by_case true m = ap (λ i. run true (is i o) clock position d r) (sym (eqb-true t u m))
    by_case false m = refl
