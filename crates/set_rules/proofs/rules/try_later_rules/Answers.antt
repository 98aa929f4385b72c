use Rattle.set_rules.proofs.TableLaws.{range-none}
use Rattle.set_rules.proofs.rules.try_later_rules.Goals as goal

pub check_sharing-requires : goal.check_sharing-requires
check_sharing-requires c = range-none c.args.d.now c.in_ok-check_ranges.ensures
