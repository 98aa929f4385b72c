use Rattle.srp_laws.proofs.AtMoments as laws
use Rattle.srp_laws.proofs.one_reaches.Goals as goal

pub returns : goal.returns
returns c = laws.one_reaches
