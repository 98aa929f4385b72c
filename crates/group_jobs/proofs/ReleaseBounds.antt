-- How late the release of a job can be.
use Rattle.std.proofs.Common.{◌≡◌, ℕ, ◌+◌, ◌*◌, ◌^◌, ◌<◌, ◌≤◌, true, List, [], ◌∷◌, refl, sym, ap, ◌∙◌, subst, arith}
use Rattle.std.specs.Prelude.{unwrap_or}
use Rattle.std.proofs.Math.Nat.{mul-le-mul_left, mul-le-mul_right}
use Rattle.rt_base.specs.declared.TheConstants.{MOST_STEPS, TICK_END}
use Rattle.rt_task.specs.declared.Kind.{Kind}
use Rattle.rt_task.specs.declared.Kind.TheVariants.{Periodic, Sporadic}
use Rattle.rt_task.specs.declared.Task.{Task}
use Rattle.rt_rules.specs.Numbers.{first, has}
use Rattle.rt_rules.proofs.MemberLaws.{equal_self}
use Rattle.group_jobs.specs.Kept.{Kept, job_of}
use Rattle.group_jobs.specs.Words.{release_by_kind, release_of}
use Rattle.group_jobs.specs.GroupJobs.{IsTaskOf, task_in}

pub periodic-low : (phase done period : ℕ) → phase < TICK_END → period < TICK_END → done ≤ MOST_STEPS → phase + done * period < 2 ^ 62
periodic-low phase done period p q d =
    let most : done * period ≤ MOST_STEPS * period = mul-le-mul_right period d in
    omega (arith, most)

pub release-low : (k : Kept) (tasks : List Task) (t : ℕ) → IsTaskOf k tasks t → unwrap_or (release_of (task_in tasks t) (job_of k t)) 0 < 2 ^ 62
release-low k tasks t of = by_kind (task_in tasks t).kind
  where
    first-low : (ns : List ℕ) → ((n : ℕ) → has n ns ≡ true → n ≤ k.clock) → unwrap_or (first ns) 0 < 2 ^ 62
    first-low [] low = omega arith
    first-low (n ∷ ns) low = let come : n ≤ k.clock = low n (rw (equal_self n)) in let now : k.clock < TICK_END = of.clock_low in omega (arith, come, now)

    by_kind : (kind : Kind) → unwrap_or (release_by_kind kind (task_in tasks t) (job_of k t)) 0 < 2 ^ 62
    by_kind Periodic = periodic-low (task_in tasks t).phase (job_of k t).done (task_in tasks t).period of.phase_low of.period_low (omega (arith, of.bounded.counts))
    by_kind Sporadic = first-low (job_of k t).to_come of.bounded.all_come
