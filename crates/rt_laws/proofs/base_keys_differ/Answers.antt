use Rattle.rt_laws.proofs.jobs.BaseKeyLaws as laws
use Rattle.rt_laws.proofs.base_keys_differ.Goals as goal

pub returns : goal.returns
returns c = laws.base_keys_differ
