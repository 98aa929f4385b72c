use Rattle.std.proofs.Common.{ap}
use Rattle.rt_base.specs.TaskNos.{number_of_task}
use Rattle.group_sems.proofs.GroupSems.serve.Goals as goal

pub boost-requires-clause-task : goal.boost-requires-clause-task
boost-requires-clause-task c =
    let can = rw (← c.self.view_is) at c.requires.task in
    rw c.stops.ensures (can c.in-Some.task.0 (ap number_of_task c.in-Some.is))
