use Rattle.trace_laws.proofs.ReadBack.{versions-tell-apart}
use Rattle.trace_laws.proofs.versions_tell_apart.Goals as goal

pub returns : goal.returns
returns c = versions-tell-apart
