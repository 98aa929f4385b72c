use Rattle.std.proofs.Common.{ap, ◌∙◌}
use Rattle.rt_model.specs.Runs.{runs}
use Rattle.rt_plays.specs.Groups.{GroupHistory, past}
use Rattle.group_engine.proofs.Stepping.{at_home, moment}
use Rattle.group_engine.proofs.engine.Engine.runs.Goals as goal

pub runs-requires : goal.runs-requires
runs-requires c = (moment _ _ _ _ c.self.invariant.sound, c.self.invariant.sound.kept, at_home _ _ c.args.cpu.0 c.self.view_is c.requires)

pub returns : goal.returns
returns c =
    c.runs.ensures (moment _ _ _ _ c.self.invariant.sound) c.self.invariant.sound.kept (at_home _ _ c.args.cpu.0 c.self.view_is c.requires)
    ∙ ap (λ (h : GroupHistory). runs c.args.cpu.0 (past h)) c.self.view_is
