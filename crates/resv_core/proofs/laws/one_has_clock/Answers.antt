use Rattle.resv_core.proofs.TableLaws as laws
use Rattle.resv_core.proofs.laws.one_has_clock.Goals as goal

pub returns : goal.returns
returns c = laws.one_has_clock
