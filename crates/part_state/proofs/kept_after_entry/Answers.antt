use Rattle.part_state.proofs.EntryLaws as laws
use Rattle.part_state.proofs.kept_after_entry.Goals as goal

pub returns : goal.returns
returns c = laws.kept_after_entry
