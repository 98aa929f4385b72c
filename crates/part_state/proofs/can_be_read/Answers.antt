use Rattle.part_state.proofs.CanReadLaws as laws
use Rattle.part_state.proofs.can_be_read.Goals as goal

pub returns : goal.returns
returns c = laws.can_be_read
