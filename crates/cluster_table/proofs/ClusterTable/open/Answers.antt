use Rattle.std.proofs.Common.{arith}
use Rattle.cluster_table.proofs.Seen.{listed-new, seen-as_placed}
use Rattle.cluster_table.proofs.ClusterTable.open.Goals as goal

pub invariant_of-result : goal.invariant_of-result
invariant_of-result c =
    rw (c.in_ok-clusters.ensures, c.in_ok-changed.ensures.items)
    (listed-new c.args.group.0 c.args.room 0 c.args.rows.now _ (omega (arith, c.in_ok-changed.ensures.capacity)))

pub returns : goal.returns
returns c = rw (c.in_ok-clusters.ensures, c.in_ok-homes.ensures, seen-as_placed)
