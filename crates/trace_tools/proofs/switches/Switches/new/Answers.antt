use Rattle.trace_tools.proofs.CountLaws.{switches-counted}
use Rattle.trace_tools.proofs.switches.Switches.new.Goals as goal

pub returns-clause-counts : goal.returns-clause-counts
returns-clause-counts c = switches-counted
