use Rattle.std.proofs.Common.{arith, rules}
use Rattle.rt_changes.specs.Tallies.{Tally}
use Rattle.job_views.proofs.SeenEnds.{none_seen, sum-next}
use Rattle.job_views.proofs.ends.ends_in.Goals as goal

pub loop-position-preserved : goal.loop-position-preserved
loop-position-preserved c =
    let next = sum-next (λ (x : Tally). x.ends) c.args.requests.now none_seen c.args.positions.now c.loop-position.position-index c.loop-position-test.true c.requires.placed in
    (omega (arith, next, c.loop-position.invariant.0, c.from-ends.ensures), search rules)
