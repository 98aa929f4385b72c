use Rattle.std.proofs.Common.{ap, arith, length}
use Rattle.rt_task.specs.declared.Parts.{Parts}
use Rattle.rt_plays.proofs.SetLimits.{sets_are_in_limits}
use Rattle.rank_afresh.proofs.Shown.{few-sems}
use Rattle.view_why.proofs.members.Members.of.Goals as goal

pub tasks_of-requires : goal.tasks_of-requires
tasks_of-requires c = omega (arith, (sets_are_in_limits c.args.setup.now c.parts.ensures.valid).few_tasks, ap (λ (p : Parts). length p.tasks) c.parts.ensures.parts)

pub sems_of-requires-clause-few : goal.sems_of-requires-clause-few
sems_of-requires-clause-few c = omega (arith, few-sems c.args.setup.now c.parts.ensures.valid, ap (λ (p : Parts). length p.sems) c.parts.ensures.parts)

pub resvs_of-requires : goal.resvs_of-requires
resvs_of-requires c = omega (arith, (sets_are_in_limits c.args.setup.now c.parts.ensures.valid).few_resvs, ap (λ (p : Parts). length p.resvs) c.parts.ensures.parts)
