use Rattle.group_resvs.proofs.KeptLaws as laws
use Rattle.group_resvs.proofs.laws.resvs_are_read.Goals as goal

pub returns : goal.returns
returns c = laws.resvs_are_read
