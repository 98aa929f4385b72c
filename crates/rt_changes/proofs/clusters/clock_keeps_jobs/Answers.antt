use Rattle.rt_changes.proofs.rankings.TouchedTasks as laws
use Rattle.rt_changes.proofs.clusters.clock_keeps_jobs.Goals as goal

pub returns : goal.returns
returns c = laws.clock_keeps_jobs
