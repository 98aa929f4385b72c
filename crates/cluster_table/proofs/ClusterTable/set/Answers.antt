use Rattle.std.proofs.Common.{◌≡◌, true, List, get_or, ap, sym, ◌∙◌, arith}
use Rattle.std.proofs.lemmas.List.{length-map}
use Rattle.std.specs.Prelude.{None, Option, Some}
use Rattle.rt_base.specs.declared.ClusterNo.{ClusterNo}
use Rattle.cluster_table.specs.Clusters.{KeptCluster, with_key}
use Rattle.cluster_table.specs.Table.{cluster_numbers}
use Rattle.cluster_table.proofs.Listed.{listed-set, room-listed}
use Rattle.cluster_table.proofs.Seen.{read-cluster, seen-set}
use Rattle.cluster_table.proofs.ClusterTable.set.Goals as goal
use Rattle.cluster_table.proofs.ClusterTable.set.Goals.{In-Some}

-- the cluster is there
at : (c : In-Some) → get_or c.self.inside.clusters.items c.args.c.0 None ≡ Some c.in-Some.cluster
at c =
    let there = rw (← c.self.view_is) at c.requires in
    read-cluster c.self.inside.clusters.items c.args.c.0 c.index_mut.result.now c.in-Some.cluster there.0 there.1 c.index_mut.ensures.value c.in-Some.is

pub list_unplaced-requires : goal.list_unplaced-requires
list_unplaced-requires c =
    λ h.
    let inside = c.self.inside in
    let here = at (goal.at.list_unplaced-requires c).In-Some in
    let placed : c.in-Some.cluster.is_placed ≡ true = sym c.is_placed-was_placed.ensures.flag ∙ h in
    let room = room-listed inside.clusters.items (cluster_numbers inside.changed.items) _ c.self.invariant c.args.c.0 c.in-Some.cluster here placed in
    omega (arith, room, length-map inside.changed.items (λ (c : ClusterNo). c.0), inside.changed.ok.0)

pub invariant_of-self-2 : goal.invariant_of-self-2
invariant_of-self-2 c =
    let inside = c.self.inside in
    let here = at (goal.at.invariant_of-self-2 c).In-Some in
    let now = rw (c.is_placed-was_placed.ensures.flag, c.is_placed-is_placed.ensures.flag) at c.list_unplaced.ensures.numbers in
    rw c.list_unplaced.ensures.room
    (listed-set inside.clusters.items (cluster_numbers inside.changed.items) _ c.self.invariant c.args.c.0 c.in-Some.cluster here c.set.new.self _
    c.set.ensures.placed c.is_placed-is_placed.ensures.stable now)

pub returns : goal.returns
returns c =
    let here = at (goal.at.returns c).In-Some in
    rw (← c.self.view_is)
    (ap (λ (ks : List (Option KeptCluster)). record { homes = cluster_numbers c.self.inside.homes.items; clusters = ks })
    (seen-set c.self.inside.clusters.items c.args.c.0 c.in-Some.cluster c.set.new.self (with_key c.args.task.0 c.args.key) here c.set.ensures.cluster))
