use Rattle.srp_laws.proofs.AtMoments as laws
use Rattle.srp_laws.proofs.begun_is_eligible.Goals as goal

pub returns : goal.returns
returns c = laws.begun_is_eligible
