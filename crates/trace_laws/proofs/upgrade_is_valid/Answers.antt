use Rattle.trace_laws.proofs.UpgradeLaws.{upgrade-is-valid}
use Rattle.trace_laws.proofs.upgrade_is_valid.Goals as goal

pub returns : goal.returns
returns c = upgrade-is-valid
