use Rattle.rt_plays.proofs.AtHomeLaws as laws
use Rattle.rt_plays.proofs.groups.processors_are_at_home.Goals as goal

pub returns : goal.returns
returns c = laws.processors_are_at_home
