use Rattle.std.proofs.Common.{ap, sym, subst, ◌∙◌}
use Rattle.rt_model.specs.Holders.{holder}
use Rattle.rt_plays.specs.Groups.{GroupHistory, group_of, past}
use Rattle.group_engine.specs.Moments.{IsDeclared}
use Rattle.group_engine.proofs.Stepping.{moment}
use Rattle.group_engine.proofs.engine.Engine.holder.Goals as goal

pub returns : goal.returns
returns c =
    c.holder.ensures (moment _ _ _ _ c.self.invariant.sound) c.self.invariant.sound.played c.self.invariant.sound.kept
    (subst (λ (h : GroupHistory). IsDeclared (group_of h) c.args.sem.0) (sym c.self.view_is) c.requires)
    ∙ ap (λ (h : GroupHistory). holder (group_of h) c.args.sem.0 (past h)) c.self.view_is
