use Rattle.std.proofs.Common.{[], ◌++◌, Err}
use Rattle.std.specs.Prelude.{codes}
use Rattle.sim_commands.specs.Load.{number_line, summary_text}
use Rattle.trace_writer.proofs.CameLaws.{came-err}
use Rattle.sim_commands.proofs.LoadLaws.{came_both, came_first}
use Rattle.sim_commands.proofs.load.write_summary.Goals as goal

pub returns-in_err-write_number_line : goal.returns-in_err-write_number_line
unfolding summary_text
returns-in_err-write_number_line g c =
    came-err c.from_residual.result c.in_err-write_number_line.field-0.0 _ _ _ _ _ c.from_residual.ensures.1
    (came_first c.in_err-write_number_line.field-0.0 (g.K.Sink.held c.args.out.now) (g.K.Sink.held c.write_number_line.new.out) (g.K.Sink.faults c.args.out.now) (g.K.Sink.faults c.write_number_line.new.out) (number_line (codes "load ") c.args.n []) ((number_line (codes "entries ") c.args.summary.entries []) ++ ((number_line (codes "requests ") c.args.summary.requests []) ++ (number_line (codes "most ") c.args.summary.most (codes " of 7")))) c.in_err-write_number_line.ensures)

pub returns-in_err-write_number_line-2 : goal.returns-in_err-write_number_line-2
unfolding summary_text
returns-in_err-write_number_line-2 g c =
    came-err c.from_residual-in_err-write_number_line-2.result c.in_err-write_number_line-2.field-0.0 _ _ _ _ _ c.from_residual-in_err-write_number_line-2.ensures.1
    (came_both (Err c.in_err-write_number_line-2.field-0.0) (g.K.Sink.held c.args.out.now) (g.K.Sink.held c.write_number_line.new.out) (g.K.Sink.held c.write_number_line-2.new.out) (g.K.Sink.faults c.args.out.now) (g.K.Sink.faults c.write_number_line.new.out) (g.K.Sink.faults c.write_number_line-2.new.out) (number_line (codes "load ") c.args.n []) ((number_line (codes "entries ") c.args.summary.entries []) ++ ((number_line (codes "requests ") c.args.summary.requests []) ++ (number_line (codes "most ") c.args.summary.most (codes " of 7")))) c.in_ok-write_number_line.ensures
    (came_first c.in_err-write_number_line-2.field-0.0 (g.K.Sink.held c.write_number_line.new.out) (g.K.Sink.held c.write_number_line-2.new.out) (g.K.Sink.faults c.write_number_line.new.out) (g.K.Sink.faults c.write_number_line-2.new.out) (number_line (codes "entries ") c.args.summary.entries []) ((number_line (codes "requests ") c.args.summary.requests []) ++ (number_line (codes "most ") c.args.summary.most (codes " of 7"))) (rw c.from.ensures at c.in_err-write_number_line-2.ensures)))

pub returns-in_err-write_number_line-3 : goal.returns-in_err-write_number_line-3
unfolding summary_text
returns-in_err-write_number_line-3 g c =
    came-err c.from_residual-in_err-write_number_line-3.result c.in_err-write_number_line-3.field-0.0 _ _ _ _ _ c.from_residual-in_err-write_number_line-3.ensures.1
    (came_both (Err c.in_err-write_number_line-3.field-0.0) (g.K.Sink.held c.args.out.now) (g.K.Sink.held c.write_number_line.new.out) (g.K.Sink.held c.write_number_line-3.new.out) (g.K.Sink.faults c.args.out.now) (g.K.Sink.faults c.write_number_line.new.out) (g.K.Sink.faults c.write_number_line-3.new.out) (number_line (codes "load ") c.args.n []) ((number_line (codes "entries ") c.args.summary.entries []) ++ ((number_line (codes "requests ") c.args.summary.requests []) ++ (number_line (codes "most ") c.args.summary.most (codes " of 7")))) c.in_ok-write_number_line.ensures
    (came_both (Err c.in_err-write_number_line-3.field-0.0) (g.K.Sink.held c.write_number_line.new.out) (g.K.Sink.held c.write_number_line-2.new.out) (g.K.Sink.held c.write_number_line-3.new.out) (g.K.Sink.faults c.write_number_line.new.out) (g.K.Sink.faults c.write_number_line-2.new.out) (g.K.Sink.faults c.write_number_line-3.new.out) (number_line (codes "entries ") c.args.summary.entries []) ((number_line (codes "requests ") c.args.summary.requests []) ++ (number_line (codes "most ") c.args.summary.most (codes " of 7"))) (rw c.from.ensures at c.in_ok-write_number_line-2.ensures)
    (came_first c.in_err-write_number_line-3.field-0.0 (g.K.Sink.held c.write_number_line-2.new.out) (g.K.Sink.held c.write_number_line-3.new.out) (g.K.Sink.faults c.write_number_line-2.new.out) (g.K.Sink.faults c.write_number_line-3.new.out) (number_line (codes "requests ") c.args.summary.requests []) (number_line (codes "most ") c.args.summary.most (codes " of 7")) (rw c.from-2.ensures at c.in_err-write_number_line-3.ensures))))

pub returns : goal.returns
unfolding summary_text
returns g c =
    came_both c.write_number_line-4.result (g.K.Sink.held c.args.out.now) (g.K.Sink.held c.write_number_line.new.out) (g.K.Sink.held c.write_number_line-4.new.out) (g.K.Sink.faults c.args.out.now) (g.K.Sink.faults c.write_number_line.new.out) (g.K.Sink.faults c.write_number_line-4.new.out) (number_line (codes "load ") c.args.n []) ((number_line (codes "entries ") c.args.summary.entries []) ++ ((number_line (codes "requests ") c.args.summary.requests []) ++ (number_line (codes "most ") c.args.summary.most (codes " of 7")))) c.in_ok-write_number_line.ensures
    (came_both c.write_number_line-4.result (g.K.Sink.held c.write_number_line.new.out) (g.K.Sink.held c.write_number_line-2.new.out) (g.K.Sink.held c.write_number_line-4.new.out) (g.K.Sink.faults c.write_number_line.new.out) (g.K.Sink.faults c.write_number_line-2.new.out) (g.K.Sink.faults c.write_number_line-4.new.out) (number_line (codes "entries ") c.args.summary.entries []) ((number_line (codes "requests ") c.args.summary.requests []) ++ (number_line (codes "most ") c.args.summary.most (codes " of 7"))) (rw c.from.ensures at c.in_ok-write_number_line-2.ensures)
    (came_both c.write_number_line-4.result (g.K.Sink.held c.write_number_line-2.new.out) (g.K.Sink.held c.write_number_line-3.new.out) (g.K.Sink.held c.write_number_line-4.new.out) (g.K.Sink.faults c.write_number_line-2.new.out) (g.K.Sink.faults c.write_number_line-3.new.out) (g.K.Sink.faults c.write_number_line-4.new.out) (number_line (codes "requests ") c.args.summary.requests []) (number_line (codes "most ") c.args.summary.most (codes " of 7")) (rw c.from-2.ensures at c.in_ok-write_number_line-3.ensures)
    (rw c.from-3.ensures at c.write_number_line-4.ensures)))
