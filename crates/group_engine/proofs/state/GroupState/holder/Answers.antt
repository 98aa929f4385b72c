use Rattle.std.proofs.Common.{◌∙◌}
use Rattle.group_core.proofs.Words.{holder_is_read}
use Rattle.group_engine.proofs.state.GroupState.holder.Goals as goal

pub returns : goal.returns
returns c = λ at played kept declared.
    c.holder.ensures ∙ holder_is_read at.group at.past played.valid kept.core_at.reachable c.args.self.now.core.facts.sems c.args.sem.0 declared.0 kept.core_at.sems_are.locks
