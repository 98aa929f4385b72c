use Rattle.srp_laws.proofs.Stretches as laws
use Rattle.srp_laws.proofs.delayed_once.Goals as goal

pub returns : goal.returns
returns c = laws.delayed_once
