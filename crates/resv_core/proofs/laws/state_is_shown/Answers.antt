use Rattle.resv_core.proofs.ShownLaws as laws
use Rattle.resv_core.proofs.laws.state_is_shown.Goals as goal

pub returns : goal.returns
returns c = laws.state_is_shown
