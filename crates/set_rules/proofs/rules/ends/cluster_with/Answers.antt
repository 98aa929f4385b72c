use Rattle.std.proofs.Common.{◌≡◌, ℕ, ◌-◌, ◌≤◌, List, true, false, length, nat_le, ap, subst, sym, ◌∙◌, arith, rules}
use Rattle.std.specs.List.Sorted.{IsPartitionPoint, IsPartitionedBy}
use Rattle.std.proofs.lemmas.List.Sorted.{IsPartitionPoint-from_clause}
use Rattle.set_rules.specs.Ends.{ends_from}
use Rattle.rt_task.specs.Lookups.{cluster_with, cluster_among}
use Rattle.set_rules.proofs.EndLaws.{ends_from-partitioned, cluster_among-point}
use Rattle.set_rules.proofs.rules.ends.cluster_with.Goals as goal

pub returns : goal.returns
unfolding cluster_with
returns c =
    let q = c.args.cpu in
    let i = c.partition_point.result in
    let ks = c.args.d.now.clusters in
    let es : List ℕ = c.args.ends.now in
    let parted : IsPartitionedBy (λ e. nat_le e q) es = subst (λ (ys : List ℕ). IsPartitionedBy (λ e. nat_le e q) ys) (sym c.requires) (ends_from-partitioned 0 ks q) in
    let point : IsPartitionPoint (λ e. nat_le e q ≡ true) (λ e. nat_le e q ≡ false) es i =
    IsPartitionPoint-from_clause (λ e. nat_le e q) es i c.partition_point.ensures.partitioned parted (search rules) in
    let bound : i ≤ length (ends_from 0 ks) = subst (λ (ys : List ℕ). i ≤ length ys) c.requires c.partition_point.ensures.bound in
    cluster_among-point 0 ks q i (omega arith) bound (subst (λ (ys : List ℕ). IsPartitionPoint (λ e. nat_le e q ≡ true) (λ e. nat_le e q ≡ false) ys i) c.requires point)
    ∙ ap (cluster_among ks) (let e : q - 0 ≡ q = omega arith in e)
