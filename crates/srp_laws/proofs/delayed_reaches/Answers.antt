use Rattle.srp_laws.proofs.AtMoments as laws
use Rattle.srp_laws.proofs.delayed_reaches.Goals as goal

pub returns : goal.returns
returns c = laws.delayed_reaches
