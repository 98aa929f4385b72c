use Rattle.std.proofs.Common.{arith}
use Rattle.trace_lines.specs.Known.{known_in}
use Rattle.trace_text.proofs.LineLaws.{request_next, requests_end}
use Rattle.trace_writer.proofs.CameLaws.{comes-cut, comes-last, coming-by, coming-gathered, gathers, gathers-none, sends-next, sends-stop}
use Rattle.trace_writer.proofs.groups.write_blocks.Goals as goal

pub loop-seen-init : goal.loop-seen-init
loop-seen-init g c = coming-gathered (g.K.Sink.held c.args.out.now) (g.K.Sink.faults c.args.out.now) _ _ c.clear.ensures.items

pub returns-in_err-put_request_line : goal.returns-in_err-put_request_line
returns-in_err-put_request_line g c = comes-cut g.K.Sink.held g.K.Sink.faults c.args.out.now c.loop-seen.out _ c.from_residual.result _ c.from_residual.ensures.1 c.loop-seen.invariant

pub returns-in_err-write_when_long : goal.returns-in_err-write_when_long
returns-in_err-write_when_long g c =
    let here = request_next (known_in c.args.format.now) c.args.requests.now c.loop-seen.seen-index _ c.loop-seen-test.true in
    sends-stop g.K.Sink.held g.K.Sink.faults c.args.out.now c.loop-seen.out _ c.from_residual-in_err-write_when_long.result c.in_err-write_when_long.field-0.0 c.write_when_long.new.out _ c.write_when_long.new.lines.items _
    c.from_residual-in_err-write_when_long.ensures.1 (coming-by (gathers _ _ _ _ _ c.in_ok-put_request_line.ensures here) c.loop-seen.invariant) c.in_err-write_when_long.ensures

pub loop-seen-preserved : goal.loop-seen-preserved
loop-seen-preserved g c =
    let here = request_next (known_in c.args.format.now) c.args.requests.now c.loop-seen.seen-index _ c.loop-seen-test.true in
    sends-next g.K.Sink.held g.K.Sink.faults c.args.out.now c.loop-seen.out _ c.write_when_long.new.out _ c.write_when_long.new.lines.items _
    (coming-by (gathers _ _ _ _ _ c.in_ok-put_request_line.ensures here) c.loop-seen.invariant) c.in_ok-write_when_long.ensures

pub returns : goal.returns
returns g c =
    let none = requests_end (known_in c.args.format.now) c.args.requests.now c.loop-seen.seen-index (omega (arith, c.loop-seen-test.false)) in
    comes-last g.K.Sink.held g.K.Sink.faults c.args.out.now c.loop-seen.out _ c.write_bytes.result c.write_bytes.new.out _ (coming-by (gathers-none _ _ _ c.as_slice.ensures.value none) c.loop-seen.invariant) c.write_bytes.ensures
