use Rattle.std.proofs.Common.{ap, ◌∙◌}
use Rattle.rt_model.specs.Situations.{situation}
use Rattle.rt_plays.specs.Groups.{GroupHistory, group_of, past}
use Rattle.group_engine.proofs.Stepping.{at_home, moment}
use Rattle.group_engine.proofs.engine.Engine.situation.Goals as goal

pub situation-requires : goal.situation-requires
situation-requires c = (moment _ _ _ _ c.self.invariant.sound, c.self.invariant.sound.played, c.self.invariant.sound.kept, at_home _ _ c.args.cpu.0 c.self.view_is c.requires)

pub returns : goal.returns
returns c =
    c.situation.ensures (moment _ _ _ _ c.self.invariant.sound) c.self.invariant.sound.played c.self.invariant.sound.kept (at_home _ _ c.args.cpu.0 c.self.view_is c.requires)
    ∙ ap (λ (h : GroupHistory). situation (group_of h) c.args.cpu.0 (past h)) c.self.view_is
