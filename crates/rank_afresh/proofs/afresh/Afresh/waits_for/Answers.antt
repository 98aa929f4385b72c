use Rattle.std.proofs.Common.{◌≡◌, true, sym, subst}
use Rattle.rt_rules.specs.Numbers.{has}
use Rattle.rt_base.specs.TaskNos.{number_of_task}
use Rattle.rt_model.specs.EffectiveKeys.{waits_for}
use Rattle.rt_model.specs.Group.{tasks}
use Rattle.rt_model.specs.Past.{Past}
use Rattle.rank_afresh.specs.contracts.afresh.Afresh.{the_view}
use Rattle.rank_afresh.specs.Standing.{IsAt, Standing, group_of}
use Rattle.rank_afresh.proofs.Explained.{waits_for-shown}
use Rattle.rank_afresh.proofs.afresh.Afresh.waits_for.Goals as goal

pub returns : goal.returns
returns c =
    let there = subst (λ (v : Standing). has c.args.task.0 (tasks (group_of v)) ≡ true) (sym c.self.view_is) c.requires in
    subst (λ (v : Standing). (past : Past) → IsAt v past → number_of_task c.waits_for.result ≡ waits_for (group_of v) c.args.task.0 past) c.self.view_is
    (λ past at. waits_for-shown (the_view c.self.inside) _ c.self.invariant.0 c.core.result.now.facts c.core.ensures.facts c.args.task.0 there past at (number_of_task c.waits_for.result) c.waits_for.ensures)
