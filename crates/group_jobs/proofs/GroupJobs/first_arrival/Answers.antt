use Rattle.std.proofs.Common.{◌≡◌, ℕ, ◌≤◌, List, [], ◌∷◌, false, None, length, refl, sym, ap, ◌∙◌, arith}
use Rattle.arrival_queue.specs.Waiting.{first_of, queue_at}
use Rattle.group_jobs.specs.Facts.{JobFacts}
use Rattle.rt_rules.specs.Numbers.{first}
use Rattle.group_jobs.specs.declared.states.TaskState.{TaskState}
use Rattle.group_jobs.proofs.JobLists.{high-kept, job-at}
use Rattle.group_jobs.proofs.GroupJobs.first_arrival.Goals as goal

pub first-requires : goal.first-requires
first-requires c =
    let high : c.args.task.0 ≤ length c.self.inside.states.items = high-kept c.self.inside.states.items c.self.inside.arrivals.queues c.args.task.0 (rw (← c.self.view_is) at c.requires.high) in
    omega (arith, high, c.self.invariant)

pub returns : goal.returns
returns c =
    let high : c.args.task.0 ≤ length c.self.inside.states.items = high-kept c.self.inside.states.items c.self.inside.arrivals.queues c.args.task.0 (rw (← c.self.view_is) at c.requires.high) in
    rw (← c.self.view_is) (c.first.ensures ∙ first-same (queue_at c.self.inside.arrivals.queues c.args.task.0) ∙ sym (ap (λ (j : JobFacts). first j.to_come) (job-at c.self.inside.states.items c.self.inside.arrivals.queues c.args.task.0 none c.requires.low high)))
  where
    none : TaskState
    none = record { done = 0; used = 0; ops_done = 0; wakes = 0; non_preemptive = false; arrived = 0; newest = None }

    first-same : (q : List ℕ) → first_of q ≡ first q
    first-same [] = refl
    first-same (x ∷ q) = refl
