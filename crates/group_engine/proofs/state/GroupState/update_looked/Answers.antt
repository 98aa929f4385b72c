use Rattle.std.proofs.Common.{sym}
use Rattle.std.specs.Prelude.{option_map}
use Rattle.rt_base.specs.declared.ClusterNo.{ClusterNo}
use Rattle.group_core.specs.Facts.{tasks_of_some}
use Rattle.group_core.specs.Looked.{named}
use Rattle.group_engine.proofs.ClusterInTurn.{all-append, can-behind, can-front}
use Rattle.group_engine.proofs.state.GroupState.update_looked.Goals as goal

pub update_named-requires : goal.update_named-requires
update_named-requires c = can-front c.args.parts.now (named c.args.looks) (tasks_of_some c.args.parts.now (option_map (λ (x : ClusterNo). x.0) c.args.looks.cluster)) c.args.self.now c.requires

pub update_cluster-requires : goal.update_cluster-requires
update_cluster-requires c = rw c.update_named.ensures (can-behind c.args.parts.now (named c.args.looks) (tasks_of_some c.args.parts.now (option_map (λ (x : ClusterNo). x.0) c.args.looks.cluster)) c.args.self.now c.requires)

pub returns : goal.returns
returns c = rw (c.update_cluster.ensures, c.update_named.ensures) (sym (all-append c.args.parts.now (named c.args.looks) (tasks_of_some c.args.parts.now (option_map (λ (x : ClusterNo). x.0) c.args.looks.cluster)) c.args.self.now))
