use Rattle.plugins.proofs.PartitionedKeyLaws as laws
use Rattle.plugins.proofs.psn_edf_has_base_keys.Goals as goal

pub returns : goal.returns
returns c = laws.psn_edf_has_base_keys
