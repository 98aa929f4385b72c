use Rattle.rt_laws.proofs.mpcp.LowerSections as laws
use Rattle.rt_laws.proofs.one_lower_section.Goals as goal

pub returns : goal.returns
returns c = laws.one_lower_section
