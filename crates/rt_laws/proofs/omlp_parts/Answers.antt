use Rattle.rt_laws.proofs.omlp.OmlpParts as laws
use Rattle.rt_laws.proofs.omlp_parts.Goals as goal

pub returns : goal.returns
returns c = laws.omlp_parts
