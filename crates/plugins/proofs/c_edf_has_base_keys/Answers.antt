use Rattle.plugins.proofs.GlobalKeyLaws as laws
use Rattle.plugins.proofs.c_edf_has_base_keys.Goals as goal

pub returns : goal.returns
returns c = laws.c_edf_has_base_keys
