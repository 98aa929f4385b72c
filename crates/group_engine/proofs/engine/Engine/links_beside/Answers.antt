use Rattle.std.proofs.Common.{subst}
use Rattle.rt_plays.specs.Groups.{GroupHistory, group_of, past}
use Rattle.group_engine.specs.Links.{AreLinksAt}
use Rattle.group_engine.proofs.Stepping.{at_home, moment}
use Rattle.group_engine.proofs.engine.Engine.links_beside.Goals as goal

pub links_beside-requires : goal.links_beside-requires
links_beside-requires c = (moment _ _ _ _ c.self.invariant.sound, c.self.invariant.sound.kept, at_home _ _ c.args.cpu.0 c.self.view_is c.requires)

pub returns : goal.returns
returns c =
    subst (λ (h : GroupHistory). AreLinksAt (group_of h) (past h) c.links_beside.result.now) c.self.view_is
    (c.links_beside.ensures (moment _ _ _ _ c.self.invariant.sound) c.self.invariant.sound.kept (at_home _ _ c.args.cpu.0 c.self.view_is c.requires))
