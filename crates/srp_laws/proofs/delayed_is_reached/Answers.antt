use Rattle.srp_laws.proofs.Reached as laws
use Rattle.srp_laws.proofs.delayed_is_reached.Goals as goal

pub returns : goal.returns
returns c = laws.delayed_is_reached
