use Rattle.rt_base.specs.TaskNos.{number_of_task}
use Rattle.group_core.proofs.Looking.{can_look, situation-there}
use Rattle.group_engine.proofs.state.GroupState.situation.Goals as goal

pub linked-link-requires : goal.linked-link-requires
linked-link-requires c = (c.requires.0, c.requires.2, c.requires.3)

pub situation-requires : goal.situation-requires
situation-requires c =
    let kept = c.requires.2 in
    can_look c.requires.0.group c.args.self.now.core.facts _ _ kept.core_fit c.args.cpu.0 c.requires.3 c.requires.0.past kept.core_at

pub returns : goal.returns
returns c = λ at played kept inside.
    situation-there at.group c.args.self.now.core.facts _ _ kept.core_fit c.args.cpu.0 inside at.past kept.core_at (number_of_task c.linked-link.result) (c.linked-link.ensures at kept inside)
    c.situation.result c.situation.ensures
