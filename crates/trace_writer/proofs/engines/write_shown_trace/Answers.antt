use Rattle.std.proofs.Common.{Err, Ok, map, ap, ◌∙◌}
use Rattle.trace_lines.specs.Known.{known_of}
use Rattle.trace_tools.specs.BusCounters.{counters}
use Rattle.trace_tools.specs.Counters.{counter_of}
use Rattle.trace_text.specs.Groups.{histories}
use Rattle.trace_writer.proofs.BusText.{text-of_none}
use Rattle.trace_writer.proofs.CameLaws.{came-both, came-by, stopped-front}
use Rattle.trace_writer.proofs.engines.write_shown_trace.Goals as goal

pub returns-in_err-write_engines : goal.returns-in_err-write_engines
returns-in_err-write_engines g c =
    let nobody = c.in_ok-none.ensures ∙ ap (map (λ t. counter_of (g.T.TraceTool.tool t))) c.new.ensures.items in
    let text = text-of_none c.args.version c.args.setup.now (histories c.args.groups.now) (counters g.T.TraceTool.tool c.in_ok-none.none) nobody in
    stopped-front g.K.Sink.held g.K.Sink.faults c.from_residual-in_err-write_engines.result c.in_err-write_engines.field-0.0 c.args.out.now c.write_engines.new.out _ _ c.from_residual-in_err-write_engines.ensures.1
    (came-by g.K.Sink.held g.K.Sink.faults (Err c.in_err-write_engines.field-0.0) c.args.out.now c.write_engines.new.out _ _ text c.in_err-write_engines.ensures.lines)

pub returns : goal.returns
returns g c =
    let nobody = c.in_ok-none.ensures ∙ ap (map (λ t. counter_of (g.T.TraceTool.tool t))) c.new.ensures.items in
    let text = text-of_none c.args.version c.args.setup.now (histories c.args.groups.now) (counters g.T.TraceTool.tool c.in_ok-none.none) nobody in
    came-both g.K.Sink.held g.K.Sink.faults c.write_counts.result c.args.out.now c.write_engines.new.out c.write_counts.new.out _ _
    (came-by g.K.Sink.held g.K.Sink.faults (Ok tt) c.args.out.now c.write_engines.new.out _ _ text c.in_ok-write_engines.ensures.lines)
    (c.write_counts.ensures (known_of c.args.version c.args.setup.now))
