use Rattle.std.proofs.Common.{ap, ◌∙◌}
use Rattle.std.specs.Prelude.{option_map}
use Rattle.cluster_table.specs.Clusters.{KeptCluster}
use Rattle.group_core.specs.Facts.{WithRoom}
use Rattle.group_engine.specs.declared.state.GroupState.{GroupState}
use Rattle.group_engine.proofs.UpdateLaws.{others-requeued}
use Rattle.group_engine.specs.Links.{links_in}
use Rattle.group_engine.proofs.LinksKept.{links-requeued}
use Rattle.group_engine.proofs.Settling.{can-requeue, ended}
use Rattle.group_engine.proofs.state.GroupState.end_move.Goals as goal

pub requeue_changed-requires : goal.requeue_changed-requires
requeue_changed-requires c =
    let can = c.requires.1 in
    rw can.parts_are (can-requeue c.requires.0.group can.played c.requires.0.past c.args.self.now can.ending c.settle.new.self c.settle.ensures.kept c.settle.ensures.sems c.settle.ensures.settled)

pub returns-clause-at : goal.returns-clause-at
returns-clause-at c = λ at can.
    rw (c.place_changed.ensures.clusters, c.requeue_changed.ensures, can.parts_are)
    (ended at.group can.played at.past c.args.self.now can.ending c.settle.new.self c.settle.ensures.kept c.settle.ensures.sems c.settle.ensures.settled)

pub returns-clause-room : goal.returns-clause-room
returns-clause-room c =
    let s : GroupState = record c.args.self.now { core = c.settle.new.self } in
    ap (λ (x : GroupState). x.core.room) c.requeue_changed.ensures ∙ ap (λ (x : WithRoom). x.room) (others-requeued c.args.parts.now c.settle.new.self.facts.resvs.changed s).core_same ∙ c.settle.ensures.room

pub returns-clause-links : goal.returns-clause-links
returns-clause-links c = λ d h.
    let s : GroupState = record c.args.self.now { core = c.settle.new.self } in
    let still = c.place_changed.ensures.others d h in
    (still.0, ap (option_map (λ (k : KeptCluster). k.linked.links)) still.1 ∙ ap (λ (x : GroupState). links_in x.clusters d) c.requeue_changed.ensures ∙ links-requeued c.args.parts.now c.settle.new.self.facts.resvs.changed s d)
