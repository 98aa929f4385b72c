use Rattle.std.proofs.Common.{◌≤◌, length, refl, subst, arith}
use Rattle.rt_base.specs.declared.TheConstants.{MOST_TRACE_BYTES}
use Rattle.rt_task.specs.declared.bad_set.SetKind.TheVariants.{NotTrace}
use Rattle.rt_task.specs.declared.bad_set.Part.TheVariants.{Line}
use Rattle.rt_task.specs.Refusals.{bad}
use Rattle.trace_read.specs.Reads.{IsRefused}
use Rattle.sim_commands.specs.Check.{TraceIsRefused}
use Rattle.sim_commands.proofs.CheckLaws.{headless-refused}
use Rattle.set_input.proofs.EndLaws.{ends-ok, ends-with, ends-handed, unread-cause}
use Rattle.sim_commands.proofs.trace_input.read_trace_input.Goals as goal

pub returns-in_err-bytes-clause-ends : goal.returns-in_err-bytes-clause-ends
returns-in_err-bytes-clause-ends g c =
    let stopped = c.in_err-bytes.ensures in
    ends-handed _ _ _ _ _ c.from_residual.ensures.1
    (unread-cause _ _ _ c.in_err-bytes.field-0.0 stopped.fault stopped.unfailed stopped.too_long stopped.not_too_long)

pub returns-in-Err-NotTrace-clause-ends : goal.returns-in-Err-NotTrace-clause-ends
returns-in-Err-NotTrace-clause-ends g c =
    let within : length c.in_ok-bytes.bytes.items ≤ MOST_TRACE_BYTES = omega (arith, c.in_ok-bytes.ensures.within, c.in_ok-bytes.bytes.ok.0) in
    let b = bad NotTrace Line c.in-Err-NotTrace.line in
    ends-with _ _ _ _ _ c.refused.ensures (
      record {
        bytes = c.in_ok-bytes.bytes.items;
        all = c.in_ok-bytes.ensures.ok;
        within = within;
        refused = subst (λ bytes. TraceIsRefused bytes b) c.as_slice.ensures.value (headless-refused c.as_slice.result.now c.in-Err-NotTrace.line b (subst (IsRefused c.as_slice.result.now) c.in-Err-NotTrace.field-0-is c.in-Err-NotTrace.ensures) refl);
      },
      c.in_ok-bytes.ensures.unfailed (λ is. cc),
      c.in_ok-bytes.ensures.not_too_long (λ is. cc),
    )

pub returns-clause-ends : goal.returns-clause-ends
returns-clause-ends g c =
    ends-ok _ _ _ _ (c.in_ok-bytes.ensures.unfailed (λ is. cc)) (c.in_ok-bytes.ensures.not_too_long (λ is. cc))
