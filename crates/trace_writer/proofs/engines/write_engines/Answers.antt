use Rattle.std.proofs.Common.{ap, sym, ◌∙◌, subst}
use Rattle.set_plays.specs.GroupSteps.{AreGroupSteps, told}
use Rattle.trace_tools.specs.BusCounters.{counters}
use Rattle.trace_text.specs.CountLines.{bus_text}
use Rattle.trace_writer.proofs.CameLaws.{came-by, stopped-before}
use Rattle.trace_writer.proofs.engines.write_engines.Goals as goal

pub write_all-requires : goal.write_all-requires
write_all-requires g c = record { groups = subst (AreGroupSteps c.args.setup.now) (sym c.as_slice.ensures.value) c.in_ok-steps.ensures.steps }

pub returns-in_err-steps-clause-lines : goal.returns-in_err-steps-clause-lines
returns-in_err-steps-clause-lines g c = stopped-before g.K.Sink.held g.K.Sink.faults c.from_residual.result c.args.out.now _ c.from_residual.ensures.1

pub returns-clause-lines : goal.returns-clause-lines
returns-clause-lines g c =
    let same = ap (told c.args.setup.now) c.as_slice.ensures.value ∙ c.in_ok-steps.ensures.told in
    came-by g.K.Sink.held g.K.Sink.faults c.write_all.result c.args.out.now c.write_all.new.out _ _ (ap (bus_text c.args.version (counters g.T.TraceTool.tool c.args.bus.now) c.args.setup.now) same) c.write_all.ensures.lines

pub returns-clause-shown : goal.returns-clause-shown
returns-clause-shown g c = rw (ap (told c.args.setup.now) c.as_slice.ensures.value ∙ c.in_ok-steps.ensures.told) at c.write_all.ensures.shown
