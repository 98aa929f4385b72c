use Rattle.resv_core.proofs.TellingLaws as laws
use Rattle.resv_core.proofs.laws.nobody_is_listed.Goals as goal

pub returns : goal.returns
returns c = laws.nobody_is_listed
