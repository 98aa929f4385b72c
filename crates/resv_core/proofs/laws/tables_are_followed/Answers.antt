use Rattle.resv_core.proofs.TableLaws as laws
use Rattle.resv_core.proofs.laws.tables_are_followed.Goals as goal

pub returns : goal.returns
returns c = laws.tables_are_followed
