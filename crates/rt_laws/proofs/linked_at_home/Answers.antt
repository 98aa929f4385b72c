use Rattle.rt_laws.proofs.links.Links as laws
use Rattle.rt_laws.proofs.linked_at_home.Goals as goal

pub returns : goal.returns
returns c = laws.linked_at_home
