use Rattle.trace_laws.proofs.ReadBack.{counted-trace-is-read}
use Rattle.trace_laws.proofs.counted_trace_is_read.Goals as goal

pub returns : goal.returns
returns c = counted-trace-is-read
