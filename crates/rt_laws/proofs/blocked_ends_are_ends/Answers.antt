use Rattle.rt_laws.proofs.semaphores.Bounds as laws
use Rattle.rt_laws.proofs.blocked_ends_are_ends.Goals as goal

pub returns : goal.returns
returns c = laws.blocked_ends_are_ends
