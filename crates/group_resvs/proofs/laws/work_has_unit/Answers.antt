use Rattle.group_resvs.proofs.KeptLaws as laws
use Rattle.group_resvs.proofs.laws.work_has_unit.Goals as goal

pub returns : goal.returns
returns c = laws.work_has_unit
