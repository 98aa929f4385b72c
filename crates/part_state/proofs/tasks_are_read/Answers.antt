use Rattle.part_state.proofs.ReadLaws as laws
use Rattle.part_state.proofs.tasks_are_read.Goals as goal

pub returns : goal.returns
returns c = laws.tasks_are_read
