use Rattle.set_explain.proofs.SetLaws as laws
use Rattle.set_explain.proofs.refusals_have_rules.Goals as goal

pub returns : goal.returns
returns c = laws.set-named
