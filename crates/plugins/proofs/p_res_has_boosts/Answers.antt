use Rattle.plugins.proofs.PartitionedKeyLaws as laws
use Rattle.plugins.proofs.p_res_has_boosts.Goals as goal

pub returns : goal.returns
returns c = laws.p_res_has_boosts
