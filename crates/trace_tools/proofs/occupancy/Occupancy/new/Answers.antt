use Rattle.trace_tools.proofs.OccupancyLaws.{occupancy-counted}
use Rattle.trace_tools.proofs.occupancy.Occupancy.new.Goals as goal

pub returns-clause-counts : goal.returns-clause-counts
returns-clause-counts c = occupancy-counted
