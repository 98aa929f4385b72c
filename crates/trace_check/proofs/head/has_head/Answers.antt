use Rattle.std.proofs.Common.{◌∙◌, refl}
use Rattle.trace_check.proofs.HeadText.{has-head}
use Rattle.trace_check.proofs.head.has_head.Goals as goal

pub returns-then-is_known : goal.returns-then-is_known
returns-then-is_known c = (λ yes. c.requires c.if-is_known.true, λ has. refl)

pub returns : goal.returns
returns c = has-head c.args.version c.args.parts.now c.args.bytes.now c.as_slice.result.now c.starts_with.result (c.as_slice.ensures.value ∙ c.in_ok-head.ensures) c.starts_with.ensures.value
