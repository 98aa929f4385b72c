use Rattle.std.proofs.Common.{◌≡◌, ap, ◌∙◌}
use Rattle.std.specs.Prelude.{Some}
use Rattle.rt_model.specs.Group.{cluster_with}
use Rattle.cluster_table.specs.Table.{cluster_at}
use Rattle.group_core.specs.Words.{GroupAt}
use Rattle.group_engine.specs.State.{HasClusterAt}
use Rattle.group_engine.proofs.Running.{has_processor, link-read, own_cluster}
use Rattle.group_engine.proofs.state.GroupState.linked.Goals as goal

pub linked-requires : goal.linked-requires
linked-requires c =
    let at : GroupAt = c.requires.0 in
    rw c.home-home.ensures (has_processor at.group c.args.cpu.0 c.requires.2 at.past c.args.self.now c.requires.1)

pub returns : goal.returns
returns c = λ at kept inside.
    let own : HasClusterAt at.group (cluster_with at.group c.args.cpu.0) at.past c.args.self.now.clusters = own_cluster at.group c.args.cpu.0 inside at.past c.args.self.now kept in
    let there : cluster_at c.args.self.now.clusters c.home-home.result.0 ≡ Some own.cluster = ap (cluster_at c.args.self.now.clusters) (c.home-home.ensures ∙ kept.homes_are.are c.args.cpu.0 inside) ∙ own.there in
    c.linked.ensures own.cluster there ∙ link-read at.group c.args.cpu.0 inside at.past c.args.self.now kept own.cluster own.is_at
