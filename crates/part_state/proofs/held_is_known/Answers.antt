use Rattle.part_state.proofs.EntryLaws as laws
use Rattle.part_state.proofs.held_is_known.Goals as goal

pub returns : goal.returns
returns c = laws.held_is_known
