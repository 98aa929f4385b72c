use Rattle.std.proofs.Common.{◌≡◌, List, get_or, ap}
use Rattle.std.specs.Prelude.{None, Option, Some}
use Rattle.cluster_table.specs.Clusters.{KeptCluster, left_by}
use Rattle.cluster_table.specs.Table.{cluster_numbers}
use Rattle.cluster_table.proofs.Listed.{listed-stays}
use Rattle.cluster_table.proofs.Seen.{read-cluster, seen-set}
use Rattle.cluster_table.proofs.ClusterTable.leave.Goals as goal
use Rattle.cluster_table.proofs.ClusterTable.leave.Goals.{In-Some}

-- the cluster is there
at : (c : In-Some) → get_or c.self.inside.clusters.items c.args.c.0 None ≡ Some c.in-Some.cluster
at c =
    let there = rw (← c.self.view_is) at c.requires in
    read-cluster c.self.inside.clusters.items c.args.c.0 c.index_mut.result.now c.in-Some.cluster there.0 there.1 c.index_mut.ensures.value c.in-Some.is

pub invariant_of-self-2 : goal.invariant_of-self-2
invariant_of-self-2 c =
    let inside = c.self.inside in
    let here = at (goal.at.invariant_of-self-2 c).In-Some in
    listed-stays inside.clusters.items (cluster_numbers inside.changed.items) _ c.self.invariant c.args.c.0 c.in-Some.cluster here c.leave.new.self c.leave.ensures.placed c.leave.ensures.stable

pub returns : goal.returns
returns c =
    let here = at (goal.at.returns c).In-Some in
    rw (← c.self.view_is)
    (ap (λ (ks : List (Option KeptCluster)). record { homes = cluster_numbers c.self.inside.homes.items; clusters = ks })
    (seen-set c.self.inside.clusters.items c.args.c.0 c.in-Some.cluster c.leave.new.self (left_by c.args.q.0) here c.leave.ensures.cluster))
