use Rattle.std.proofs.Common.{ap, ◌∙◌}
use Rattle.rt_plays.specs.Endings.{ended_last}
use Rattle.rt_plays.specs.Groups.{GroupHistory, group_of, past}
use Rattle.group_engine.proofs.engine.Engine.ended.Goals as goal

pub returns : goal.returns
returns c = c.self.invariant.ended_is ∙ ap (λ (h : GroupHistory). ended_last (group_of h) (past h)) c.self.view_is
