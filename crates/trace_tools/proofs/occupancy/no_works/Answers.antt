use Rattle.trace_tools.proofs.Zeros.{zeros}
use Rattle.trace_tools.proofs.occupancy.no_works.Goals as goal

pub returns : goal.returns
returns c = zeros 64
