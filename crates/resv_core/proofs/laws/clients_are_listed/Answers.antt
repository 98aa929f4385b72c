use Rattle.resv_core.proofs.TellingLaws as laws
use Rattle.resv_core.proofs.laws.clients_are_listed.Goals as goal

pub returns : goal.returns
returns c = laws.clients_are_listed
