use Rattle.std.proofs.Common.{length}
use Rattle.trace_read.proofs.plain_steps.steps_in.Given as goal

abbrev pub decreases-loop-step : goal.decreases-loop-step
decreases-loop-step l = length l.left
