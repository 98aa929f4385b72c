use Rattle.std.proofs.Common.{◌≡◌, ◌∙◌, true, refl, sym, ap, subst}
use Rattle.rt_rules.specs.Numbers.{has, is}
use Rattle.rt_model.specs.Group.{Group, tasks}
use Rattle.rt_model.specs.Holders.{awaits}
use Rattle.why_states.proofs.sems.waits_at.Goals as goal

pub waits-requires : goal.waits-requires
waits-requires c = subst (λ (g : Group). has c.args.task.0 (tasks g) ≡ true) (sym c.requires.at.1.group_is) c.requires.task
