-- The times of one task of a list are changed.
use Rattle.std.proofs.Common.{◌≡◌, ◌∙◌, ℕ, ◌<◌, ◌≢◌, Bool, true, false, List, length, get_or, refl, sym, ap, arith, eqb-true}
use Rattle.std.specs.Prelude.{◌==◌}
use Rattle.std.proofs.Math.ListN.{set}
use Rattle.std.proofs.lemmas.Bool.{false≢true}
use Rattle.std.proofs.lemmas.List.{get_or-map, get_or-set_other, get_or-set_same, length-set}
use Rattle.rt_rules.proofs.MemberLaws.{equal_self}
use Rattle.job_marks.specs.declared.task_times.TaskTimes.{TaskTimes}
use Rattle.job_marks.specs.JobTimes.{times_in, times_of}
use Rattle.job_marks.specs.Times.{Times, no_times}

pub times_in-at : (xs : List TaskTimes) (t : ℕ) (x : TaskTimes) → t < length xs → times_in xs t ≡ times_of (get_or xs t x)
times_in-at xs t x low = get_or-map times_of xs t x no_times low

module _ (f : Bool → Times → Times) (none : (r : Times) → f false r ≡ r) (xs : List TaskTimes) (u : ℕ) (x v : TaskTimes) (low : u < length xs) (made : times_of v ≡ f true (times_of (get_or xs u x))) where
  pub updated : (t : ℕ) → t < length xs → times_in (set xs u v) t ≡ f (t == u) (times_in xs t)
  updated t within = by_case (t == u) refl
    where
      long : t < length (set xs u v)
      long = omega (arith, within, length-set xs u v)

      by_case : (b : Bool) → t == u ≡ b → times_in (set xs u v) t ≡ f b (times_in xs t)
      by_case true m =
          let same : t ≡ u = eqb-true t u m in
          times_in-at (set xs u v) t v long ∙ ap (λ i. times_of (get_or (set xs u v) i v)) same ∙ ap times_of (get_or-set_same xs u v v low) ∙ made
          ∙ ap (f true) (sym (ap (times_in xs) same ∙ times_in-at xs u x low))
      by_case false m =
          let other : t ≢ u = λ e. false≢true (sym m ∙ ap (λ i. i == u) e ∙ equal_self u) in
          times_in-at (set xs u v) t v long ∙ ap times_of (get_or-set_other xs u t v v other) ∙ sym (times_in-at xs t v within) ∙ sym (none (times_in xs t))
