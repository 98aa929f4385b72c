use Rattle.std.proofs.Common.{◌≡◌, ℕ, true, subst, sym}
use Rattle.rt_rules.specs.Numbers.{has}
use Rattle.rt_model.specs.Group.{clusters}
use Rattle.rt_changes.specs.Clusters.{HoldsEligible}
use Rattle.rt_plays.specs.Groups.{GroupHistory, group_of, past}
use Rattle.group_engine.proofs.Stepping.{moment}
use Rattle.group_engine.proofs.engine.Engine.ready.Goals as goal

in_group : (h h' : GroupHistory) (c : ℕ) → h ≡ h' → has c (clusters (group_of h')) ≡ true → has c (clusters (group_of h)) ≡ true
in_group h h' c same there = subst (λ (x : GroupHistory). has c (clusters (group_of x)) ≡ true) (sym same) there

pub ready-requires : goal.ready-requires
ready-requires c = (moment _ _ _ _ c.self.invariant.sound, c.self.invariant.sound.kept, in_group _ _ c.args.cluster.0 c.self.view_is c.requires)

pub returns : goal.returns
returns c =
    subst (λ (h : GroupHistory). HoldsEligible (group_of h) c.args.cluster.0 (past h) c.ready.result.now.keys) c.self.view_is
    (c.ready.ensures (moment _ _ _ _ c.self.invariant.sound) c.self.invariant.sound.kept (in_group _ _ c.args.cluster.0 c.self.view_is c.requires))
