use Rattle.trace_laws.proofs.ReadBack.{trace-is-read}
use Rattle.trace_laws.proofs.trace_is_read.Goals as goal

pub returns : goal.returns
returns c = trace-is-read
