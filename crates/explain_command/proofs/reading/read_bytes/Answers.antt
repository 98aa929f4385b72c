use Rattle.std.proofs.Common.{◌≤◌, length, arith}
use Rattle.rt_base.specs.declared.TheConstants.{MOST_TRACE_BYTES}
use Rattle.set_input.proofs.EndLaws.{ends-ok, ends-handed, unread-cause}
use Rattle.explain_command.proofs.reading.read_bytes.Goals as goal

pub returns-in_err-read_all-clause-ends : goal.returns-in_err-read_all-clause-ends
returns-in_err-read_all-clause-ends g c =
    let stopped = c.in_err-read_all.ensures in
    ends-handed _ _ _ _ _ c.from_residual.ensures.1
    (unread-cause _ _ _ c.in_err-read_all.field-0.0 stopped.fault stopped.unfailed stopped.too_long stopped.not_too_long)

pub returns-clause-ends : goal.returns-clause-ends
returns-clause-ends g c =
    ends-ok _ _ _ _ (c.in_ok-read_all.ensures.unfailed (λ is. cc)) (c.in_ok-read_all.ensures.not_too_long (λ is. cc))

pub returns-clause-ok : goal.returns-clause-ok
returns-clause-ok g c =
    let within : length c.in_ok-read_all.field-0.items ≤ MOST_TRACE_BYTES = omega (arith, c.in_ok-read_all.ensures.within, c.in_ok-read_all.field-0.ok.0) in
    record { all = c.in_ok-read_all.ensures.ok; within = within }
