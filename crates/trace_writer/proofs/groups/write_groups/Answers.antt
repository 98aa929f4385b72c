use Rattle.std.proofs.Common.{sym, ◌∙◌, arith}
use Rattle.rt_plays.proofs.GroupCount.{groups_are_counted}
use Rattle.trace_lines.specs.Known.{known_in}
use Rattle.trace_tools.specs.BusCounters.{counters}
use Rattle.trace_writer.proofs.CameLaws.{comes-last, comes-next, comes-stop, coming-by}
use Rattle.trace_writer.proofs.GroupSequence.{no_steps, groups-end, groups-next, shown-end, shown-next}
use Rattle.trace_writer.proofs.Replays.{on_ok}
use Rattle.trace_writer.proofs.groups.write_groups.Goals as goal

pub write_group-requires-clause-there : goal.write_group-requires-clause-there
write_group-requires-clause-there g c = (groups_are_counted c.args.setup.now c.loop-i.i c.parts-parts.ensures.valid).1 (omega (arith, c.loop-i-test.true, c.requires.groups.count))

pub write_group-requires-clause-steps : goal.write_group-requires-clause-steps
write_group-requires-clause-steps g c = c.requires.groups.steps c.loop-i.i no_steps c.loop-i-test.true

pub returns-in_err-write_group-clause-lines : goal.returns-in_err-write_group-clause-lines
returns-in_err-write_group-clause-lines g c =
    let here = groups-next c.args.setup.now c.args.groups.now c.loop-i.i (known_in c.args.format.now) no_steps c.loop-i-test.true in
    comes-stop g.K.Sink.held g.K.Sink.faults c.args.out.now c.loop-i.out _ c.from_residual.result c.in_err-write_group.field-0.0 c.write_group.new.out _ _ c.from_residual.ensures.1
    (coming-by here c.loop-i.invariant.0) c.in_err-write_group.ensures.lines

pub loop-i-preserved : goal.loop-i-preserved
loop-i-preserved g c =
    let here = groups-next c.args.setup.now c.args.groups.now c.loop-i.i (known_in c.args.format.now) no_steps c.loop-i-test.true in (
      comes-next g.K.Sink.held g.K.Sink.faults c.args.out.now c.loop-i.out _ c.write_group.new.out _ _ (coming-by here c.loop-i.invariant.0) c.in_ok-write_group.ensures.lines,
      shown-next c.args.setup.now c.args.groups.now c.loop-i.i no_steps (counters g.T.TraceTool.tool c.loop-i.bus) (counters g.T.TraceTool.tool c.write_group.new.bus) c.loop-i-test.true c.in_ok-write_group.ensures.shown ∙ c.loop-i.invariant.1,
    )

pub returns-clause-lines : goal.returns-clause-lines
returns-clause-lines g c =
    let last = groups-end c.args.setup.now c.args.groups.now c.loop-i.i (known_in c.args.format.now) (omega (arith, c.loop-i-test.false)) in
    comes-last g.K.Sink.held g.K.Sink.faults c.args.out.now c.loop-i.out _ c.write_end_line.result c.write_end_line.new.out _ (coming-by last c.loop-i.invariant.0) (c.write_end_line.ensures (known_in c.args.format.now))

pub returns-clause-shown : goal.returns-clause-shown
returns-clause-shown g c =
    on_ok c.write_end_line.result (sym (shown-end c.args.setup.now c.args.groups.now c.loop-i.i (counters g.T.TraceTool.tool c.loop-i.bus) (omega (arith, c.loop-i-test.false))) ∙ c.loop-i.invariant.1)
