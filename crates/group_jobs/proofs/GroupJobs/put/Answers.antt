use Rattle.std.proofs.Common.{◌≡◌, ℕ, ◌≤◌, List, [], ◌∷◌, ◌++◌, ◌-◌, drop, length, refl, sym, ap, ◌∙◌, arith}
use Rattle.std.specs.Prelude.{map}
use Rattle.group_jobs.specs.States.{cpu_seen, jobs_with}
use Rattle.group_jobs.specs.GroupJobs.{GroupJobs}
use Rattle.group_jobs.proofs.JobLists.{high-kept, state-set}
use Rattle.group_jobs.proofs.GroupJobs.put.Goals as goal

pub index_mut-requires : goal.index_mut-requires
index_mut-requires c =
    let high : c.args.task.0 ≤ length c.self.inside.states.items = high-kept c.self.inside.states.items c.self.inside.arrivals.queues c.args.task.0 (rw (← c.self.view_is) at c.requires.high) in
    omega (arith, high, c.requires.low, c.self.inside.states.ok.0)

pub returns : goal.returns
returns c =
    let high : c.args.task.0 ≤ length c.self.inside.states.items = high-kept c.self.inside.states.items c.self.inside.arrivals.queues c.args.task.0 (rw (← c.self.view_is) at c.requires.high) in
    rw (← c.self.view_is)
    (ap (λ js. let g : GroupJobs = record { kept = record { clock = c.self.inside.clock; jobs = js; cpus = map cpu_seen c.self.inside.cpus.items }; room = c.self.inside.arrivals.room } in g)
    (state-set c.self.inside.states.items c.self.inside.arrivals.queues c.args.task.0 c.args.state c.requires.low high c.self.invariant))
