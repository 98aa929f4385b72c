use Rattle.rt_laws.proofs.jobs.RefusedKeys as laws
use Rattle.rt_laws.proofs.refused_changes_nothing.Goals as goal

pub returns : goal.returns
returns c = laws.refused_changes_nothing
