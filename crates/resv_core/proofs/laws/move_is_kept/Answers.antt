use Rattle.resv_core.proofs.KeptLaws as laws
use Rattle.resv_core.proofs.laws.move_is_kept.Goals as goal

pub returns : goal.returns
returns c = laws.move_is_kept
