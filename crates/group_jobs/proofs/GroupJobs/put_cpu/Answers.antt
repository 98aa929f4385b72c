use Rattle.std.proofs.Common.{drop, ap}
use Rattle.std.proofs.lemmas.List.{map-set}
use Rattle.group_jobs.specs.States.{cpu_seen, jobs_with}
use Rattle.group_jobs.specs.GroupJobs.{GroupJobs}
use Rattle.group_jobs.proofs.GroupJobs.put_cpu.Goals as goal

pub returns : goal.returns
returns c =
    rw (← c.self.view_is)
    (ap (λ cs. let g : GroupJobs = record { kept = record { clock = c.self.inside.clock; jobs = jobs_with c.self.inside.states.items (drop 1 c.self.inside.arrivals.queues); cpus = cs }; room = c.self.inside.arrivals.room } in g)
    (map-set cpu_seen c.self.inside.cpus.items c.args.cpu.0 c.args.state))
