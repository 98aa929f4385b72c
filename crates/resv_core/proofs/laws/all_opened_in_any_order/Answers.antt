use Rattle.resv_core.proofs.TellingLaws as laws
use Rattle.resv_core.proofs.laws.all_opened_in_any_order.Goals as goal

pub returns : goal.returns
returns c = laws.all_opened_in_any_order
