use Rattle.std.proofs.Common.{arith}
use Rattle.trace_tools.specs.BusCounters.{counters}
use Rattle.trace_text.proofs.ShownLaws.{counts-end, counts-next}
use Rattle.trace_writer.proofs.CameLaws.{comes-cut, comes-end, comes-next, comes-stop, coming-by}
use Rattle.trace_writer.proofs.counts.write_counts.Goals as goal

pub returns-in_err-line : goal.returns-in_err-line
returns-in_err-line g c k = comes-cut g.K.Sink.held g.K.Sink.faults c.args.out.now c.loop-i.out _ c.from_residual.result _ c.from_residual.ensures.1 (c.loop-i.invariant k)

pub returns-in_err-write_bytes : goal.returns-in_err-write_bytes
returns-in_err-write_bytes g c k =
    let here = counts-next k (counters g.T.TraceTool.tool c.args.bus.now) c.loop-i.i c.in_ok-line.line.items (omega (arith, c.loop-i-test.true, c.in-Ok.ensures.1, c.count.ensures)) (c.in_ok-line.ensures k) in
    comes-stop g.K.Sink.held g.K.Sink.faults c.args.out.now c.loop-i.out _ c.from_residual-in_err-write_bytes.result c.in_err-write_bytes.field-0.0 c.write_bytes.new.out _ _ c.from_residual-in_err-write_bytes.ensures.1
    (coming-by here (c.loop-i.invariant k)) (rw c.as_slice.ensures.value at c.in_err-write_bytes.ensures)

pub loop-i-preserved : goal.loop-i-preserved
loop-i-preserved g c k =
    let here = counts-next k (counters g.T.TraceTool.tool c.args.bus.now) c.loop-i.i c.in_ok-line.line.items (omega (arith, c.loop-i-test.true, c.in-Ok.ensures.1, c.count.ensures)) (c.in_ok-line.ensures k) in
    comes-next g.K.Sink.held g.K.Sink.faults c.args.out.now c.loop-i.out _ c.write_bytes.new.out _ _ (coming-by here (c.loop-i.invariant k)) (rw c.as_slice.ensures.value at c.in_ok-write_bytes.ensures)

pub returns : goal.returns
returns g c k =
    let none = counts-end k (counters g.T.TraceTool.tool c.args.bus.now) c.loop-i.i (omega (arith, c.loop-i-test.false, c.in-Ok.ensures.1, c.count.ensures)) in
    comes-end g.K.Sink.held g.K.Sink.faults c.args.out.now c.loop-i.out _ (coming-by none (c.loop-i.invariant k))
