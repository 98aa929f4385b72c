use Rattle.part_state.proofs.KeptLaws as laws
use Rattle.part_state.proofs.kept_after_act.Goals as goal

pub returns : goal.returns
returns c = laws.kept_after_act
