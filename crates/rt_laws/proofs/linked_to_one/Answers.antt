use Rattle.rt_laws.proofs.links.Links as laws
use Rattle.rt_laws.proofs.linked_to_one.Goals as goal

pub returns : goal.returns
returns c = laws.linked_to_one
