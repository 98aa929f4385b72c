use Rattle.resv_core.proofs.TableLaws as laws
use Rattle.resv_core.proofs.laws.linked_in_slot.Goals as goal

pub returns : goal.returns
returns c = laws.linked_in_slot
