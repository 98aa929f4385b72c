use Rattle.rt_laws.proofs.semaphores.Reached as laws
use Rattle.rt_laws.proofs.requests_stand_in_line.Goals as goal

pub returns : goal.returns
returns c = laws.requests_stand_in_line
