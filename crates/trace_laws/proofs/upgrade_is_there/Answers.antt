use Rattle.trace_laws.proofs.UpgradeLaws.{upgrade-is-there}
use Rattle.trace_laws.proofs.upgrade_is_there.Goals as goal

pub returns : goal.returns
returns c = upgrade-is-there
