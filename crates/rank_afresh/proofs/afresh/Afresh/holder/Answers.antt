use Rattle.std.proofs.Common.{◌≡◌, true, sym, subst}
use Rattle.rt_base.specs.TaskNos.{number_of_task}
use Rattle.rt_rules.specs.Numbers.{has}
use Rattle.rt_model.specs.Group.{sems}
use Rattle.rt_model.specs.Holders.{holder}
use Rattle.rt_model.specs.Past.{Past}
use Rattle.rank_afresh.specs.contracts.afresh.Afresh.{the_view}
use Rattle.rank_afresh.specs.Standing.{IsAt, Standing, group_of}
use Rattle.rank_afresh.proofs.Explained.{holder-shown}
use Rattle.rank_afresh.proofs.afresh.Afresh.holder.Goals as goal

pub returns : goal.returns
returns c =
    let known = subst (λ (v : Standing). has c.args.sem.0 (sems (group_of v)) ≡ true) (sym c.self.view_is) c.requires in
    subst (λ (v : Standing). (past : Past) → IsAt v past → number_of_task c.holder.result ≡ holder (group_of v) c.args.sem.0 past) c.self.view_is
    (λ past at. holder-shown (the_view c.self.inside) _ c.self.invariant.0 c.core.result.now.facts c.core.ensures.facts c.args.sem.0 known past at (number_of_task c.holder.result) c.holder.ensures)
