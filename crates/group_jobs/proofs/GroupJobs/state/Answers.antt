use Rattle.std.proofs.Common.{◌≤◌, length, arith}
use Rattle.group_jobs.proofs.JobLists.{high-kept, state-at}
use Rattle.group_jobs.proofs.GroupJobs.state.Goals as goal

pub index-requires : goal.index-requires
index-requires c =
    let high : c.args.task.0 ≤ length c.self.inside.states.items = high-kept c.self.inside.states.items c.self.inside.arrivals.queues c.args.task.0 (rw (← c.self.view_is) at c.requires.high) in
    omega (arith, high, c.requires.low, c.self.inside.states.ok.0)

pub returns : goal.returns
returns c =
    let high : c.args.task.0 ≤ length c.self.inside.states.items = high-kept c.self.inside.states.items c.self.inside.arrivals.queues c.args.task.0 (rw (← c.self.view_is) at c.requires.high) in
    rw (← c.self.view_is) (state-at c.self.inside.states.items c.self.inside.arrivals.queues c.args.task.0 c.index.result.now c.requires.low high c.index.ensures)
