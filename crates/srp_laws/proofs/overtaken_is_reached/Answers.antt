use Rattle.srp_laws.proofs.Reached as laws
use Rattle.srp_laws.proofs.overtaken_is_reached.Goals as goal

pub returns : goal.returns
returns c = laws.overtaken_is_reached
