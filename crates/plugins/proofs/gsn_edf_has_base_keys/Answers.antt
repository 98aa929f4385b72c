use Rattle.plugins.proofs.GlobalKeyLaws as laws
use Rattle.plugins.proofs.gsn_edf_has_base_keys.Goals as goal

pub returns : goal.returns
returns c = laws.gsn_edf_has_base_keys
