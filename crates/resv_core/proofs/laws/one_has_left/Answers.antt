use Rattle.resv_core.proofs.TableLaws as laws
use Rattle.resv_core.proofs.laws.one_has_left.Goals as goal

pub returns : goal.returns
returns c = laws.one_has_left
