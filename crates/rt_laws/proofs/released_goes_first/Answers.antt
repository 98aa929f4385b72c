use Rattle.rt_laws.proofs.jobs.FrontClients as laws
use Rattle.rt_laws.proofs.released_goes_first.Goals as goal

pub returns : goal.returns
returns c = laws.released_goes_first
