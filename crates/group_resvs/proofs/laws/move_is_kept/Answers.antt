use Rattle.group_resvs.proofs.KeptLaws as laws
use Rattle.group_resvs.proofs.laws.move_is_kept.Goals as goal

pub returns : goal.returns
returns c = laws.move_is_kept
