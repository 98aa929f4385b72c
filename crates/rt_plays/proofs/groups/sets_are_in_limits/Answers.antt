use Rattle.rt_plays.proofs.SetLimits as laws
use Rattle.rt_plays.proofs.groups.sets_are_in_limits.Goals as goal

pub returns : goal.returns
returns c = laws.sets_are_in_limits
