use Rattle.split_turns.proofs.SetLaws as laws
use Rattle.split_turns.proofs.histories_are_of_set.Goals as goal

pub returns : goal.returns
returns c = laws.histories_are_of_set
