use Rattle.std.proofs.Common.{arith}
use Rattle.ready_queue.proofs.SplitLaws.{split-none}
use Rattle.ready_queue.proofs.ReadyQueue.new.Goals as goal

pub invariant_of-result : goal.invariant_of-result
invariant_of-result c =
    let all = c.in_ok-all.ensures in
    let rest = c.in_ok-rest.ensures in
    let first = c.in_ok-first.ensures in
    (rw (all, rest, first.0) (split-none c.args.most c.args.room), omega (arith, first.1))
