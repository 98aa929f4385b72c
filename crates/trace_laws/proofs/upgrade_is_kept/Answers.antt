use Rattle.trace_laws.proofs.UpgradeLaws.{upgrade-is-kept}
use Rattle.trace_laws.proofs.upgrade_is_kept.Goals as goal

pub returns : goal.returns
returns c = upgrade-is-kept
