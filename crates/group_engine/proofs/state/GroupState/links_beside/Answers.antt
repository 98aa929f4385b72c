use Rattle.std.proofs.Common.{◌≡◌, ap, ◌∙◌}
use Rattle.std.proofs.lemmas.Bool.{false≢true}
use Rattle.std.specs.Prelude.{ℕ, Some, slice_index}
use Rattle.rt_model.specs.Group.{cluster_with}
use Rattle.cluster_table.specs.Table.{IsThere, cluster_at}
use Rattle.group_engine.specs.Moments.{CanLook}
use Rattle.group_engine.specs.State.{HasClusterAt}
use Rattle.group_engine.specs.declared.state.GroupState.{GroupState}
use Rattle.group_engine.proofs.Running.{has_processor, links-read, own_cluster}
use Rattle.group_engine.proofs.state.GroupState.links_beside.Goals as goal

own-there : (q : ℕ) (s : GroupState) → CanLook q s → IsThere s.clusters (slice_index s.clusters.homes q)
own-there q s can = let found = has_processor can.0.group q can.2 can.0.past s can.1 in (found.0, found.1)

pub links-requires : goal.links-requires
links-requires c = rw c.home.ensures (own-there c.args.cpu.0 c.args.self.now c.requires)

pub unreachable-requires : goal.unreachable-requires
unreachable-requires c =
    let there : IsThere c.args.self.now.clusters c.home.result.0 = rw c.home.ensures (own-there c.args.cpu.0 c.args.self.now c.requires) in
    false≢true (c.in-None.ensures there.0 there.1).1

pub returns : goal.returns
returns c = λ at kept inside.
    let own : HasClusterAt at.group (cluster_with at.group c.args.cpu.0) at.past c.args.self.now.clusters =
    own_cluster at.group c.args.cpu.0 inside at.past c.args.self.now kept in
    let there : cluster_at c.args.self.now.clusters c.home.result.0 ≡ Some own.cluster =
    ap (cluster_at c.args.self.now.clusters) (c.home.ensures ∙ kept.homes_are.are c.args.cpu.0 inside) ∙ own.there in
    rw (c.in-Some.ensures own.cluster there).0 (links-read at.group c.args.cpu.0 inside at.past c.args.self.now kept own.cluster own.is_at)
