use Rattle.std.proofs.Common.{◌≡◌, true, sym, subst}
use Rattle.rt_rules.specs.Numbers.{has}
use Rattle.rt_model.specs.Group.{tasks}
use Rattle.rt_model.specs.Past.{Past}
use Rattle.rt_model.specs.Jobs.{done}
use Rattle.rank_afresh.specs.contracts.afresh.Afresh.{the_view}
use Rattle.rank_afresh.specs.Standing.{IsAt, Standing, group_of}
use Rattle.rank_afresh.proofs.Shown.{done-few, done-shown, in-jobs, low}
use Rattle.rank_afresh.proofs.afresh.Afresh.done.Goals as goal

pub done-requires-clause-low : goal.done-requires-clause-low
done-requires-clause-low c =
    let there = subst (λ (v : Standing). has c.args.task.0 (tasks (group_of v)) ≡ true) (sym c.self.view_is) c.requires in
    low (the_view c.self.inside) _ c.self.invariant.0 c.core.result.now.facts c.core.ensures.facts c.args.task.0 there

pub done-requires-clause-high : goal.done-requires-clause-high
done-requires-clause-high c =
    let there = subst (λ (v : Standing). has c.args.task.0 (tasks (group_of v)) ≡ true) (sym c.self.view_is) c.requires in
    in-jobs (the_view c.self.inside) _ c.self.invariant.0 c.core.result.now.facts c.core.ensures.facts c.args.task.0 there

pub returns-clause-shown : goal.returns-clause-shown
returns-clause-shown c =
    let there = subst (λ (v : Standing). has c.args.task.0 (tasks (group_of v)) ≡ true) (sym c.self.view_is) c.requires in
    subst (λ (v : Standing). (past : Past) → IsAt v past → c.done.result ≡ done c.args.task.0 past) c.self.view_is
    (λ past at. done-shown (the_view c.self.inside) _ c.self.invariant.0 c.core.result.now.facts c.core.ensures.facts c.args.task.0 there past at c.done.result c.done.ensures)

pub returns-clause-few : goal.returns-clause-few
returns-clause-few c =
    let there = subst (λ (v : Standing). has c.args.task.0 (tasks (group_of v)) ≡ true) (sym c.self.view_is) c.requires in
    done-few (the_view c.self.inside) _ c.self.invariant.0 c.core.result.now.facts c.core.ensures.facts c.args.task.0 there c.done.result c.done.ensures
