use Rattle.std.proofs.Common.{◌≡◌, true, sym, subst}
use Rattle.rt_rules.specs.Numbers.{has}
use Rattle.rt_model.specs.Group.{Group, sems}
use Rattle.why_states.proofs.others.is_held_by_other.Goals as goal

pub holder-requires : goal.holder-requires
holder-requires c = subst (λ (g : Group). has c.args.sem.0 (sems g) ≡ true) (sym c.requires.at.1.group_is) c.requires.sem
