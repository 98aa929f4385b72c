use Rattle.rt_laws.proofs.semaphores.Reached as laws
use Rattle.rt_laws.proofs.one_lower_section_is_reached.Goals as goal

pub returns : goal.returns
returns c = laws.one_lower_section_is_reached
