use Rattle.std.proofs.Common.{inr, refl, sym, subst}
use Rattle.trace_text.specs.Groups.{AreGroupsOf}
use Rattle.set_runs.specs.Runs.{AreRunsOf}
use Rattle.run_command.proofs.RunAnswerLaws.{run-unread, run-read}
use Rattle.run_command.proofs.play_set.play_set.Goals as goal

pub returns-in-Err-clause-answers : goal.returns-in-Err-clause-answers
returns-in-Err-clause-answers g c = run-unread _ _ _ c.in-Err.status c.in-Err.ensures.ends refl

pub write_trace-requires : goal.write_trace-requires
write_trace-requires g c = record { groups = subst (AreGroupsOf c.in-Ok.setup) (sym c.as_slice.ensures.value) c.in-Ok-run_set.ensures.groups }

pub returns-in-Ok-write_trace-clause-answers : goal.returns-in-Ok-write_trace-clause-answers
returns-in-Ok-write_trace-clause-answers g c =
    run-read g.T.TraceTool.tool c.args.tools.items _ _ _ c.in-Ok.setup c.as_slice.result.now _ c.in-Ok.ensures.ok (c.in-Ok.ensures.ends.not_too_long (λ is. cc))
    (subst (AreRunsOf c.in-Ok.setup) (sym c.as_slice.ensures.value) c.in-Ok-run_set.ensures) c.in-Ok-open.ensures c.in-Ok-write_trace.ensures.ok

pub returns-in-Err-Fault-clause-answers : goal.returns-in-Err-Fault-clause-answers
returns-in-Err-Fault-clause-answers g c =
    run-read g.T.TraceTool.tool c.args.tools.items _ _ _ c.in-Ok.setup c.as_slice.result.now _ c.in-Ok.ensures.ok (c.in-Ok.ensures.ends.not_too_long (λ is. cc))
    (subst (AreRunsOf c.in-Ok.setup) (sym c.as_slice.ensures.value) c.in-Ok-run_set.ensures) c.in-Ok-open.ensures (c.in-Err-Fault.ensures.stopped, c.in-Err-Fault.ensures.fault (cc))

pub returns-clause-answers : goal.returns-clause-answers
returns-clause-answers g c =
    run-read g.T.TraceTool.tool c.args.tools.items _ _ _ c.in-Ok.setup c.as_slice.result.now _ c.in-Ok.ensures.ok (c.in-Ok.ensures.ends.not_too_long (λ is. cc))
    (subst (AreRunsOf c.in-Ok.setup) (sym c.as_slice.ensures.value) c.in-Ok-run_set.ensures) c.in-Ok-open.ensures (inr c.in-Err-NoMemory.ensures.stopped)

pub returns-in-Err-Fault-clause-faults : goal.returns-in-Err-Fault-clause-faults
returns-in-Err-Fault-clause-faults g c = record {
  read_fault = λ is. cc;
  no_read_fault = λ other. c.in-Ok.ensures.ends.no_read_fault (λ is. cc);
  write_fault = λ is. c.in-Err-Fault.ensures.fault (cc);
  no_write_fault = λ other. absurd (other refl);
}
