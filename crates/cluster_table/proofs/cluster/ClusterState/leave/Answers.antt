use Rattle.std.proofs.Common.{◌∙◌, sym, false}
use Rattle.cluster_table.specs.Clusters.{KeptCluster}
use Rattle.cluster_table.proofs.PendingLaws.{pending-run, stable-pending}
use Rattle.cluster_table.proofs.Stays.{stays-left_by}
use Rattle.cluster_table.proofs.cluster.ClusterState.leave.Goals as goal

pub invariant_of-self : goal.invariant_of-self
invariant_of-self c =
    let inside = c.self.inside in
    let k : KeptCluster = record { cpus = inside.queue.most; keys = inside.queue.keys; linked = inside.links } in
    let of_cluster = rw (← c.self.view_is) at c.requires in (
      rw c.leave.ensures.runs (c.self.invariant.0 ∙ sym ((stays-left_by c.args.q.0).cpus k)),
      c.self.invariant.1,
      c.leave.ensures.sound,
      rw c.leave.ensures.runs (pending-run c.self.inside.pending k c.args.q.0 false c.self.invariant.2 c.self.invariant.0 of_cluster c.self.invariant.3).1,
    )

pub returns-clause-stable : goal.returns-clause-stable
returns-clause-stable c = λ h. stable-pending c.self.inside.pending _ (invariant_of-self c).3 h
