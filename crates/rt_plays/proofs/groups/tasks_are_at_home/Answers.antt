use Rattle.rt_plays.proofs.AtHomeLaws as laws
use Rattle.rt_plays.proofs.groups.tasks_are_at_home.Goals as goal

pub returns : goal.returns
returns c = laws.tasks_are_at_home
