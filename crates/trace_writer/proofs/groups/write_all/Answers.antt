use Rattle.std.proofs.Common.{refl, arith}
use Rattle.set_plays.specs.GroupSteps.{told}
use Rattle.trace_tools.specs.BusCounters.{counters}
use Rattle.trace_lines.specs.Known.{known_of}
use Rattle.trace_text.proofs.GroupLaws.{groups-few}
use Rattle.trace_writer.proofs.BusText.{bus-parts}
use Rattle.trace_writer.proofs.CameLaws.{came-third, stopped-first, stopped-second}
use Rattle.trace_writer.proofs.Replays.{on_ok}
use Rattle.trace_writer.proofs.groups.write_all.Goals as goal

pub write_groups-requires-clause-few : goal.write_groups-requires-clause-few
write_groups-requires-clause-few g c = omega (arith, c.requires.groups.count, groups-few c.args.setup.now c.parts-parts.ensures.valid)

pub returns-in_err-write_head-clause-lines : goal.returns-in_err-write_head-clause-lines
returns-in_err-write_head-clause-lines g c =
    let parts = bus-parts c.args.version c.args.setup.now c.parts-parts.result.now (told c.args.setup.now c.args.groups.now) (counters g.T.TraceTool.tool c.args.bus.now) _ c.parts-parts.ensures.parts refl in
    stopped-first g.K.Sink.held g.K.Sink.faults parts c.args.out.now c.write_head.new.out c.from_residual.result c.in_err-write_head.field-0.0 c.from_residual.ensures.1 c.in_err-write_head.ensures

pub returns-in_err-write_groups-clause-lines : goal.returns-in_err-write_groups-clause-lines
returns-in_err-write_groups-clause-lines g c =
    let parts = bus-parts c.args.version c.args.setup.now c.parts-parts.result.now (told c.args.setup.now c.args.groups.now) (counters g.T.TraceTool.tool c.args.bus.now) _ c.parts-parts.ensures.parts refl in
    stopped-second g.K.Sink.held g.K.Sink.faults parts c.args.out.now c.write_head.new.out c.from_residual-in_err-write_groups.result c.in_err-write_groups.field-0.0 c.write_groups.new.out
    c.from_residual-in_err-write_groups.ensures.1 c.in_ok-write_head.ensures c.in_err-write_groups.ensures.lines

pub returns-clause-lines : goal.returns-clause-lines
returns-clause-lines g c =
    let parts = bus-parts c.args.version c.args.setup.now c.parts-parts.result.now (told c.args.setup.now c.args.groups.now) (counters g.T.TraceTool.tool c.args.bus.now) (counters g.T.TraceTool.tool c.write_groups.new.bus)
    c.parts-parts.ensures.parts c.in_ok-write_groups.ensures.shown in
    came-third g.K.Sink.held g.K.Sink.faults parts c.args.out.now c.write_head.new.out c.write_counts.result c.write_groups.new.out c.write_counts.new.out c.in_ok-write_head.ensures c.in_ok-write_groups.ensures.lines
    (c.write_counts.ensures (known_of c.args.version c.args.setup.now))

pub returns-clause-shown : goal.returns-clause-shown
returns-clause-shown g c = on_ok c.write_counts.result c.in_ok-write_groups.ensures.shown
