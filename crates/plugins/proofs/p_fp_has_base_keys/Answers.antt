use Rattle.plugins.proofs.PartitionedKeyLaws as laws
use Rattle.plugins.proofs.p_fp_has_base_keys.Goals as goal

pub returns : goal.returns
returns c = laws.p_fp_has_base_keys
