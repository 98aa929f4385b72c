use Rattle.std.proofs.Common.{◌≡◌, List, get_or, ap}
use Rattle.std.specs.Prelude.{None, Option, Some}
use Rattle.cluster_table.specs.Clusters.{KeptCluster, after_take}
use Rattle.cluster_table.specs.Table.{cluster_numbers}
use Rattle.cluster_table.proofs.Listed.{listed-stays}
use Rattle.cluster_table.proofs.Seen.{read-cluster, same-seen, seen-set}
use Rattle.cluster_table.proofs.ClusterTable.take_irq.Goals as goal
use Rattle.cluster_table.proofs.ClusterTable.take_irq.Goals.{In-Some}

-- the cluster is there
at : (c : In-Some) → get_or c.self.inside.clusters.items c.args.c.0 None ≡ Some c.in-Some.cluster
at c =
    let there = rw (← c.self.view_is) at c.requires in
    read-cluster c.self.inside.clusters.items c.args.c.0 c.index_mut.result.now c.in-Some.cluster there.0 there.1 c.index_mut.ensures.value c.in-Some.is

pub invariant_of-self-2 : goal.invariant_of-self-2
invariant_of-self-2 c =
    let inside = c.self.inside in
    let here = at (goal.at.invariant_of-self-2 c).In-Some in
    listed-stays inside.clusters.items (cluster_numbers inside.changed.items) _ c.self.invariant c.args.c.0 c.in-Some.cluster here c.take_irq.new.self c.take_irq.ensures.placed c.take_irq.ensures.stable

pub returns-clause-changed : goal.returns-clause-changed
returns-clause-changed c =
    let here = at (goal.at.returns-clause-changed c).In-Some in
    rw (← c.self.view_is)
    (ap (λ (ks : List (Option KeptCluster)). record { homes = cluster_numbers c.self.inside.homes.items; clusters = ks })
    (seen-set c.self.inside.clusters.items c.args.c.0 c.in-Some.cluster c.take_irq.new.self (after_take c.args.q.0 c.args.np) here c.take_irq.ensures.cluster))

pub returns-clause-reply : goal.returns-clause-reply
returns-clause-reply c =
    λ k there.
    let seen = rw (← c.self.view_is) at there in
    let same = same-seen c.self.inside.clusters.items c.args.c.0 c.in-Some.cluster k (at (goal.at.returns-clause-reply c).In-Some) seen in
    rw (← same) c.take_irq.ensures.reply
