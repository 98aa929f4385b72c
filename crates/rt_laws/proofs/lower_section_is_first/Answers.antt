use Rattle.rt_laws.proofs.mpcp.LowerSections as laws
use Rattle.rt_laws.proofs.lower_section_is_first.Goals as goal

pub returns : goal.returns
returns c = laws.lower_section_is_first
