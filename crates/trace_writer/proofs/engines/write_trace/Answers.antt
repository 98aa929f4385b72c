use Rattle.trace_writer.proofs.CameLaws.{came-ok, came-stopped, came-fault, came-unfailed, came-counted}
use Rattle.trace_writer.proofs.engines.write_trace.Goals as goal

pub returns-clause-ok : goal.returns-clause-ok
returns-clause-ok g c = came-ok c.write_engines.result _ _ (g.K.Sink.faults c.args.out.now) (g.K.Sink.faults c.write_engines.new.out) _ c.write_engines.ensures.lines

pub returns-clause-stopped : goal.returns-clause-stopped
returns-clause-stopped g c = came-stopped c.write_engines.result _ _ (g.K.Sink.faults c.args.out.now) (g.K.Sink.faults c.write_engines.new.out) _ c.write_engines.ensures.lines

pub returns-clause-fault : goal.returns-clause-fault
returns-clause-fault g c = came-fault c.write_engines.result _ _ (g.K.Sink.faults c.args.out.now) (g.K.Sink.faults c.write_engines.new.out) _ c.write_engines.ensures.lines

pub returns-clause-counted : goal.returns-clause-counted
returns-clause-counted g c = came-counted c.write_engines.result _ _ (g.K.Sink.faults c.args.out.now) (g.K.Sink.faults c.write_engines.new.out) _ c.write_engines.ensures.lines

pub returns-clause-unfailed : goal.returns-clause-unfailed
returns-clause-unfailed g c = came-unfailed c.write_engines.result _ _ (g.K.Sink.faults c.args.out.now) (g.K.Sink.faults c.write_engines.new.out) _ c.write_engines.ensures.lines
