use Rattle.std.proofs.Common.{◌≡◌, get_or, set, sym, ap, ◌∙◌}
use Rattle.std.proofs.lemmas.List.{set-get_or}
use Rattle.std.specs.Prelude.{None}
use Rattle.cluster_table.specs.Clusters.{KeptCluster}
use Rattle.cluster_table.specs.Placed.{PlacedCluster}
use Rattle.cluster_table.proofs.PendingLaws.{pending-with_key}
use Rattle.cluster_table.proofs.cluster.ClusterState.set.Goals as goal

pub invariant_of-self : goal.invariant_of-self
invariant_of-self c =
    let inside = c.self.inside in
    let k : KeptCluster = record { cpus = inside.queue.most; keys = inside.queue.keys; linked = inside.links } in
    let exchanged = rw c.set-change.ensures.keys at c.set-change.ensures.exchanged in (
      rw c.set-change.ensures.keys c.self.invariant.0,
      rw c.set-change.ensures.keys c.self.invariant.1,
      c.self.invariant.2,
      rw (c.set-change.ensures.keys, c.after-self-inside.ensures) (pending-with_key k c.args.task.0 c.args.key c.set-change.result c.self.invariant.2 c.self.invariant.0 exchanged inside.pending c.self.invariant.3),
    )

pub returns-then-is_same-clause-cluster : goal.returns-then-is_same-clause-cluster
returns-then-is_same-clause-cluster c =
    let k : KeptCluster = c.args.self.now.cluster in
    let keys : c.heap.result.now.keys ≡ k.keys = c.heap.ensures ∙ ap (λ (p : PlacedCluster). p.cluster.keys) c.self.view_is in
    let own : get_or k.keys c.args.task.0 None ≡ c.args.key = ap (λ ks. get_or ks c.args.task.0 None) (sym keys) ∙ sym c.key.ensures ∙ c.is_same.ensures c.if-is_same.true in
    ap (λ ks. let x : KeptCluster = record k { keys = ks } in x) (sym (set-get_or k.keys c.args.task.0 None) ∙ ap (set k.keys c.args.task.0) own)
