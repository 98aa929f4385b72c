use Rattle.part_state.proofs.ReadLaws as laws
use Rattle.part_state.proofs.link_is_read.Goals as goal

pub returns : goal.returns
returns c = laws.link_is_read
