use Rattle.resv_core.proofs.TellingLaws as laws
use Rattle.resv_core.proofs.laws.each_is_told.Goals as goal

pub returns : goal.returns
returns c = laws.each_is_told
