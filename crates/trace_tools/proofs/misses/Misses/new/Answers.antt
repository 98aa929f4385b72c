use Rattle.trace_tools.proofs.CountLaws.{misses-counted}
use Rattle.trace_tools.proofs.misses.Misses.new.Goals as goal

pub returns-clause-counts : goal.returns-clause-counts
returns-clause-counts c = misses-counted
