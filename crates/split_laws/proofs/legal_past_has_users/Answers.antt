use Rattle.split_laws.proofs.UserLaws as laws
use Rattle.split_laws.proofs.legal_past_has_users.Goals as goal

pub returns : goal.returns
returns c = laws.legal_past_has_users
