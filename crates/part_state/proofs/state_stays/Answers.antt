use Rattle.part_state.proofs.KeptLaws as laws
use Rattle.part_state.proofs.state_stays.Goals as goal

pub returns : goal.returns
returns c = laws.state_stays
