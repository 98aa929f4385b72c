use Rattle.std.proofs.Common.{◌≡◌, ◌-◌, arith, rules}
use Rattle.arrival_queue.proofs.ChainLaws.{waiting-none}
use Rattle.arrival_queue.proofs.ArrivalQueue.new.Goals as goal

pub returns : goal.returns
returns c =
    let same : c.args.room - 0 ≡ c.args.room = omega arith in
    rw (c.in_ok-arrivals.ensures.items, c.in_ok-ends.ensures.items_if_clones_equal (search rules), waiting-none c.args.tasks, same)
