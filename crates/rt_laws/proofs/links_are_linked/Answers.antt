use Rattle.rt_laws.proofs.links.Links as laws
use Rattle.rt_laws.proofs.links_are_linked.Goals as goal

pub returns : goal.returns
returns c = laws.links_are_linked
