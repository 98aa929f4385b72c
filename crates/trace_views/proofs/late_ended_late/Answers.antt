use Rattle.trace_views.proofs.Lateness as laws
use Rattle.trace_views.proofs.late_ended_late.Goals as goal

pub returns : goal.returns
returns c = laws.late_ended_late
