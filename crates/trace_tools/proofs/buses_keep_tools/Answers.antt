use Rattle.trace_tools.proofs.BusLaws.{lines-after}
use Rattle.trace_tools.proofs.buses_keep_tools.Goals as goal

pub returns : goal.returns
returns c = λ tools es. lines-after es tools
