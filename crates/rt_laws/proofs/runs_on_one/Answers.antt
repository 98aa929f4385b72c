use Rattle.rt_laws.proofs.links.Links as laws
use Rattle.rt_laws.proofs.runs_on_one.Goals as goal

pub returns : goal.returns
returns c = laws.runs_on_one
