use Rattle.trace_tools.proofs.MissLaws.{miss-found}
use Rattle.trace_tools.proofs.first_miss.FirstMiss.new.Goals as goal

pub returns-clause-finds : goal.returns-clause-finds
returns-clause-finds c = miss-found
