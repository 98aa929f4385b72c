use Rattle.std.proofs.Common.{◌≡◌, ℕ, ◌≤◌, List, [], ◌∷◌, ◌++◌, ◌-◌, drop, length, refl, set, sym, ap, ◌∙◌, arith}
use Rattle.std.specs.Prelude.{map}
use Rattle.arrival_queue.specs.Waiting.{queue_at, rest_of}
use Rattle.rt_rules.specs.Numbers.{rest}
use Rattle.group_jobs.specs.States.{cpu_seen, jobs_with}
use Rattle.group_jobs.specs.GroupJobs.{GroupJobs}
use Rattle.group_jobs.proofs.JobLists.{both-set, high-kept}
use Rattle.group_jobs.proofs.GroupJobs.put_arrival.Goals as goal

pub index_mut-requires : goal.index_mut-requires
index_mut-requires c =
    let high : c.args.task.0 ≤ length c.self.inside.states.items = high-kept c.self.inside.states.items c.self.inside.arrivals.queues c.args.task.0 (rw (← c.self.view_is) at c.requires.high) in
    omega (arith, high, c.requires.low, c.self.inside.states.ok.0)

pub push-requires-clause-task : goal.push-requires-clause-task
push-requires-clause-task c =
    let high : c.args.task.0 ≤ length c.self.inside.states.items = high-kept c.self.inside.states.items c.self.inside.arrivals.queues c.args.task.0 (rw (← c.self.view_is) at c.requires.high) in
    omega (arith, high, c.self.invariant)

pub returns : goal.returns
returns c =
    let high : c.args.task.0 ≤ length c.self.inside.states.items = high-kept c.self.inside.states.items c.self.inside.arrivals.queues c.args.task.0 (rw (← c.self.view_is) at c.requires.high) in
    let more : List ℕ → List ℕ = λ q. q ++ c.self.inside.clock ∷ [] in
    let room : c.push.new.self.room ≡ c.self.inside.arrivals.room - 1 = c.push.ensures.room in
    rw (← c.self.view_is, room)
    (ap (λ js. let g : GroupJobs = record { kept = record { clock = c.self.inside.clock; jobs = js; cpus = map cpu_seen c.self.inside.cpus.items }; room = c.self.inside.arrivals.room - 1 } in g)
    (ap (λ qs. jobs_with (set c.self.inside.states.items (c.args.task.0 - 1) c.args.state) (drop 1 qs)) c.push.ensures.queues
    ∙ both-set c.self.inside.states.items c.self.inside.arrivals.queues c.args.task.0 c.args.state more c.requires.low high c.self.invariant))
