use Rattle.resv_core.proofs.ServingLaws as laws
use Rattle.resv_core.proofs.laws.all_opened_are_serving.Goals as goal

pub returns : goal.returns
returns c = laws.all_opened_are_serving
