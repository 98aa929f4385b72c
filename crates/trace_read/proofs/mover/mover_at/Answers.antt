use Rattle.std.proofs.Common.{◌∙◌}
use Rattle.trace_read.proofs.MoverLaws.{mover-said}
use Rattle.trace_read.proofs.mover.mover_at.Goals as goal

pub returns : goal.returns
returns c = λ k i e links more tell known is. c.mover_said.ensures ∙ mover-said k i e links c.args.text.now more tell known is
