use Rattle.std.proofs.Common.{refl, ap, sym, ◌∙◌, arith}
use Rattle.trace_tools.specs.BusCounters.{counters}
use Rattle.rt_plays.proofs.GroupCount.{groups_are_counted}
use Rattle.set_plays.specs.GroupSteps.{told}
use Rattle.trace_writer.specs.Summaries.{summary_from}
use Rattle.trace_writer.specs.declared.summary.Summary.{Summary}
use Rattle.trace_text.proofs.GroupLaws.{groups-few}
use Rattle.trace_writer.proofs.GroupSequence.{no_steps, shown-end, shown-next}
use Rattle.trace_writer.proofs.SummaryLaws.{nothing-joined, summary-end, summary-next}
use Rattle.trace_writer.proofs.summary.summarize_groups.Goals as goal

pub overflow_cast-i : goal.overflow_cast-i
overflow_cast-i g c = omega (arith, c.loop-i-test.true, c.requires.count, groups-few c.args.setup.now c.parts-parts.ensures.valid)

pub summarize_group-requires-clause-there : goal.summarize_group-requires-clause-there
summarize_group-requires-clause-there g c = (groups_are_counted c.args.setup.now c.loop-i.i c.parts-parts.ensures.valid).1 (omega (arith, c.loop-i-test.true, c.requires.count))

pub summarize_group-requires-clause-steps : goal.summarize_group-requires-clause-steps
summarize_group-requires-clause-steps g c = c.requires.steps c.loop-i.i no_steps c.loop-i-test.true

pub joined-summary-requires-clause-entries : goal.joined-summary-requires-clause-entries
joined-summary-requires-clause-entries g c =
    omega (arith, c.loop-i-test.true, c.requires.count, groups-few c.args.setup.now c.parts-parts.ensures.valid, c.loop-i.invariant.entries, c.in_ok-own.ensures.entries)

pub joined-summary-requires-clause-requests : goal.joined-summary-requires-clause-requests
joined-summary-requires-clause-requests g c =
    omega (arith, c.loop-i-test.true, c.requires.count, groups-few c.args.setup.now c.parts-parts.ensures.valid, c.loop-i.invariant.requests, c.in_ok-own.ensures.requests)

pub loop-i-preserved : goal.loop-i-preserved
loop-i-preserved g c =
    record {
      summed = summary-next c.args.setup.now c.args.groups.now c.loop-i.i no_steps c.loop-i.summary c.in_ok-own.own c.joined-summary.result _ c.loop-i-test.true c.in_ok-own.ensures.summary c.joined-summary.ensures c.loop-i.invariant.summed;
      shown = shown-next c.args.setup.now c.args.groups.now c.loop-i.i no_steps (counters g.T.TraceTool.tool c.loop-i.bus) (counters g.T.TraceTool.tool c.summarize_group.new.bus) c.loop-i-test.true c.in_ok-own.ensures.shown ∙ c.loop-i.invariant.shown;
      entries = omega (arith, ap (λ (s : Summary). s.entries) c.joined-summary.ensures, c.loop-i.invariant.entries, c.in_ok-own.ensures.entries);
      requests = omega (arith, ap (λ (s : Summary). s.requests) c.joined-summary.ensures, c.loop-i.invariant.requests, c.in_ok-own.ensures.requests);
    }

pub returns-clause-summary : goal.returns-clause-summary
returns-clause-summary g c = summary-end c.args.setup.now c.args.groups.now c.loop-i.i c.loop-i.summary _ (omega (arith, c.loop-i-test.false)) c.loop-i.invariant.summed

pub returns-clause-shown : goal.returns-clause-shown
returns-clause-shown g c =
    sym (shown-end c.args.setup.now c.args.groups.now c.loop-i.i (counters g.T.TraceTool.tool c.loop-i.bus) (omega (arith, c.loop-i-test.false))) ∙ c.loop-i.invariant.shown

pub loop-i-init : goal.loop-i-init
loop-i-init g c = record {
  summed = nothing-joined (summary_from c.args.setup.now 0 (told c.args.setup.now c.args.groups.now));
  shown = refl;
  entries = omega arith;
  requests = omega arith;
}
