use Rattle.rt_laws.proofs.ValidSteps.{steps_are_of_groups}
use Rattle.rt_laws.proofs.steps_are_of_groups.Goals as goal

pub returns : goal.returns
returns c = steps_are_of_groups
