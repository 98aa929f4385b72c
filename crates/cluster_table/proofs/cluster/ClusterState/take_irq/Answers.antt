use Rattle.std.proofs.Common.{◌∙◌, sym}
use Rattle.cluster_table.specs.Clusters.{KeptCluster}
use Rattle.cluster_table.proofs.PendingLaws.{pending-run, stable-pending}
use Rattle.cluster_table.proofs.Stays.{stays-after_take}
use Rattle.cluster_table.proofs.cluster.ClusterState.take_irq.Goals as goal

pub invariant_of-self : goal.invariant_of-self
invariant_of-self c =
    let inside = c.self.inside in
    let k : KeptCluster = record { cpus = inside.queue.most; keys = inside.queue.keys; linked = inside.links } in
    let of_cluster = rw (← c.self.view_is) at c.requires in (
      rw c.take_irq.ensures.runs (c.self.invariant.0 ∙ sym ((stays-after_take c.args.q.0 c.args.np).cpus k)),
      c.self.invariant.1,
      c.take_irq.ensures.sound,
      rw c.take_irq.ensures.runs (pending-run c.self.inside.pending k c.args.q.0 c.args.np c.self.invariant.2 c.self.invariant.0 of_cluster c.self.invariant.3).0,
    )

pub returns-clause-stable : goal.returns-clause-stable
returns-clause-stable c = λ h. stable-pending c.self.inside.pending _ (invariant_of-self c).3 h
