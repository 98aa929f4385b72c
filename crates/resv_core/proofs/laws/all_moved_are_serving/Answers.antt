use Rattle.resv_core.proofs.ServingLaws as laws
use Rattle.resv_core.proofs.laws.all_moved_are_serving.Goals as goal

pub returns : goal.returns
returns c = laws.all_moved_are_serving
