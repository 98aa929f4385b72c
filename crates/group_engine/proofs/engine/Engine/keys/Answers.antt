use Rattle.std.proofs.Common.{subst}
use Rattle.rt_plays.specs.Groups.{GroupHistory, group_of, past}
use Rattle.group_engine.specs.Keys.{HoldsKeys}
use Rattle.group_engine.proofs.Settling.{keys-held}
use Rattle.group_engine.proofs.engine.Engine.keys.Goals as goal

pub returns : goal.returns
returns c =
    subst (λ (h : GroupHistory). HoldsKeys (group_of h) (past h) c.keys.result.now) c.self.view_is
    (rw c.keys.ensures (keys-held _ c.self.invariant.sound.played _ c.self.inside.state c.self.invariant.sound.kept))
