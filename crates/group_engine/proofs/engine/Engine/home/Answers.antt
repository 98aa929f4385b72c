use Rattle.std.proofs.Common.{ap, ◌∙◌}
use Rattle.rt_model.specs.Group.{cluster_with}
use Rattle.rt_plays.specs.Groups.{GroupHistory, group_of}
use Rattle.group_engine.proofs.Stepping.{at_home, moment}
use Rattle.group_engine.proofs.engine.Engine.home.Goals as goal

pub home-requires : goal.home-requires
home-requires c = (moment _ _ _ _ c.self.invariant.sound, c.self.invariant.sound.kept, at_home _ _ c.args.cpu.0 c.self.view_is c.requires)

pub returns : goal.returns
returns c =
    let inside = at_home _ _ c.args.cpu.0 c.self.view_is c.requires in
    c.home.ensures (moment _ _ _ _ c.self.invariant.sound) c.self.invariant.sound.kept inside ∙ ap (λ (v : GroupHistory). cluster_with (group_of v) c.args.cpu.0) c.self.view_is
