use Rattle.std.proofs.Common.{rules}
use Rattle.prio_inherit.proofs.keys.is_known.Goals as goal

pub returns : goal.returns
returns c = search rules
