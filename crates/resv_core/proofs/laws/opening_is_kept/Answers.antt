use Rattle.resv_core.proofs.KeptLaws as laws
use Rattle.resv_core.proofs.laws.opening_is_kept.Goals as goal

pub returns : goal.returns
returns c = laws.opening_is_kept
