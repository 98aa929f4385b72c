use Rattle.std.proofs.Common.{ap, ◌∙◌}
use Rattle.rt_task.specs.declared.Op.{Op}
use Rattle.rt_task.specs.Bodies.{after_op}
use Rattle.rt_task.specs.Lookups.{is_stacked_sem}
use Rattle.set_rules.proofs.rules.bodies.goes_on_by.Goals as goal

pub returns-in-Unlock : goal.returns-in-Unlock
returns-in-Unlock c = λ ns known. ap (λ (o : Op). after_op ns (is_stacked_sem c.args.d.now) o c.args.h.now) c.in-Unlock.is ∙ c.unlock.ensures ns
