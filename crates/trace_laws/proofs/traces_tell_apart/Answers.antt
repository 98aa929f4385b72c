use Rattle.trace_laws.proofs.ReadBack.{traces-tell-apart}
use Rattle.trace_laws.proofs.traces_tell_apart.Goals as goal

pub returns : goal.returns
returns c = traces-tell-apart
