use Rattle.rt_laws.proofs.links.Links as laws
use Rattle.rt_laws.proofs.runs_at_home.Goals as goal

pub returns : goal.returns
returns c = laws.runs_at_home
