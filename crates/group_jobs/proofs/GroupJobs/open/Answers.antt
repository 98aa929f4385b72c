use Rattle.std.proofs.Common.{refl, rules}
use Rattle.group_jobs.proofs.JobLists.{cpus-idle, jobs-new}
use Rattle.group_jobs.proofs.GroupJobs.open.Goals as goal

pub returns : goal.returns
returns c =
    rw (c.in_ok-arrivals.ensures, c.in_ok-states.ensures.items_if_clones_equal (search rules), c.in_ok-cpus.ensures.items_if_clones_equal (search rules), jobs-new c.args.tasks, cpus-idle c.args.cpus)
