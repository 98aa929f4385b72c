use Rattle.std.proofs.Common.{arith}
use Rattle.trace_writer.proofs.SummaryLaws.{most-end, most-next}
use Rattle.trace_writer.proofs.summary.most_ends.Goals as goal

pub loop-seen-preserved : goal.loop-seen-preserved
loop-seen-preserved c = most-next c.args.requests.now c.loop-seen.seen-index _ c.loop-seen.most c.max-most.result _ c.loop-seen-test.true c.max-most.ensures c.loop-seen.invariant

pub returns : goal.returns
returns c = most-end c.args.requests.now c.loop-seen.seen-index c.loop-seen.most _ (omega (arith, c.loop-seen-test.false)) c.loop-seen.invariant
