use Rattle.rt_plays.proofs.GroupCount as laws
use Rattle.rt_plays.proofs.groups.groups_are_counted.Goals as goal

pub returns : goal.returns
returns c = laws.groups_are_counted
