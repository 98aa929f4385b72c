use Rattle.std.proofs.Common.{ℕ, List, ap, ◌∙◌, subst, inr}
use Rattle.rt_fault.specs.Held.{Extends, ExtendsByPrefix}
use Rattle.trace_tools.specs.BusCounters.{counters}
use Rattle.trace_text.specs.Groups.{histories}
use Rattle.sim_commands.proofs.UpgradeLaws.{shown-text}
use Rattle.sim_commands.proofs.upgrade.write_upgrade.Goals as goal

pub returns-in-Ok-write_shown_trace-clause-written : goal.returns-in-Ok-write_shown_trace-clause-written
returns-in-Ok-write_shown_trace-clause-written g c = λ hs tools says shown.
    let text = shown-text tools c.args.head.now.setup hs (histories c.as_slice.result.now) (counters g.T.TraceTool.tool c.args.bus.now) (ap histories c.as_slice.ensures.value ∙ c.in-Ok.ensures.histories hs says) shown in
    subst (λ (xs : List ℕ). Extends (g.K.Sink.held c.args.out.now) (g.K.Sink.held c.write_shown_trace.new.out) xs) text c.in-Ok-write_shown_trace.ensures.0

pub returns-in-Err-Fault-clause-written : goal.returns-in-Err-Fault-clause-written
returns-in-Err-Fault-clause-written g c = λ hs tools says shown.
    let text = shown-text tools c.args.head.now.setup hs (histories c.as_slice.result.now) (counters g.T.TraceTool.tool c.args.bus.now) (ap histories c.as_slice.ensures.value ∙ c.in-Ok.ensures.histories hs says) shown in
    let came = rw c.in-Err-Fault.field-0-is at c.in-Err-Fault.ensures in
    (subst (λ (xs : List ℕ). ExtendsByPrefix (g.K.Sink.held c.args.out.now) (g.K.Sink.held c.write_shown_trace.new.out) xs) text came.0, came.2)

pub returns-clause-written : goal.returns-clause-written
returns-clause-written g c = λ hs tools says shown.
    let text = shown-text tools c.args.head.now.setup hs (histories c.as_slice.result.now) (counters g.T.TraceTool.tool c.args.bus.now) (ap histories c.as_slice.ensures.value ∙ c.in-Ok.ensures.histories hs says) shown in
    let came = rw c.in-Err-NoMemory.field-0-is at c.in-Err-NoMemory.ensures in
    inr (subst (λ (xs : List ℕ). ExtendsByPrefix (g.K.Sink.held c.args.out.now) (g.K.Sink.held c.write_shown_trace.new.out) xs) text came.0)
