use Rattle.std.proofs.Common.{map}
use Rattle.std.specs.Prelude.{flat_map}
use Rattle.trace_lines.specs.Grammar.{line_text}
use Rattle.trace_tools.specs.BusCounters.{counters}
use Rattle.trace_tools.specs.Counters.{counter_line}
use Rattle.trace_writer.proofs.CameLaws.{came-err}
use Rattle.sim_commands.specs.Load.{summary_text}
use Rattle.sim_commands.proofs.LoadLaws.{came_both, came_first}
use Rattle.sim_commands.proofs.load.write_load.Goals as goal

pub returns-in_err-write_summary : goal.returns-in_err-write_summary
returns-in_err-write_summary g c k =
    came-err c.from_residual.result c.in_err-write_summary.field-0.0 _ _ _ _ _ c.from_residual.ensures.1
    (came_first c.in_err-write_summary.field-0.0 (g.K.Sink.held c.args.out.now) (g.K.Sink.held c.write_summary.new.out) (g.K.Sink.faults c.args.out.now) (g.K.Sink.faults c.write_summary.new.out)
    (summary_text c.args.n c.args.summary) (flat_map (line_text k) (map counter_line (counters g.T.TraceTool.tool c.args.bus.now))) c.in_err-write_summary.ensures)

pub returns : goal.returns
returns g c k =
    came_both c.write_counts.result (g.K.Sink.held c.args.out.now) (g.K.Sink.held c.write_summary.new.out) (g.K.Sink.held c.write_counts.new.out) (g.K.Sink.faults c.args.out.now) (g.K.Sink.faults c.write_summary.new.out) (g.K.Sink.faults c.write_counts.new.out)
    (summary_text c.args.n c.args.summary) (flat_map (line_text k) (map counter_line (counters g.T.TraceTool.tool c.args.bus.now)))
    c.in_ok-write_summary.ensures (c.write_counts.ensures k)
