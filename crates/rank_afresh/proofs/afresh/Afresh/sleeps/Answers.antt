use Rattle.std.proofs.Common.{◌≡◌, true, sym, subst}
use Rattle.rt_rules.specs.Numbers.{has}
use Rattle.rt_model.specs.Group.{tasks}
use Rattle.rt_model.specs.Past.{Past}
use Rattle.rt_model.specs.Sleep.{sleeps}
use Rattle.rank_afresh.specs.contracts.afresh.Afresh.{the_view}
use Rattle.rank_afresh.specs.Standing.{IsAt, Standing, group_of}
use Rattle.rank_afresh.proofs.Shown.{in-jobs, low, sleeps-shown}
use Rattle.rank_afresh.proofs.afresh.Afresh.sleeps.Goals as goal

pub sleeps-requires-clause-low : goal.sleeps-requires-clause-low
sleeps-requires-clause-low c =
    let there = subst (λ (v : Standing). has c.args.task.0 (tasks (group_of v)) ≡ true) (sym c.self.view_is) c.requires in
    low (the_view c.self.inside) _ c.self.invariant.0 c.core.result.now.facts c.core.ensures.facts c.args.task.0 there

pub sleeps-requires-clause-high : goal.sleeps-requires-clause-high
sleeps-requires-clause-high c =
    let there = subst (λ (v : Standing). has c.args.task.0 (tasks (group_of v)) ≡ true) (sym c.self.view_is) c.requires in
    in-jobs (the_view c.self.inside) _ c.self.invariant.0 c.core.result.now.facts c.core.ensures.facts c.args.task.0 there

pub returns : goal.returns
returns c =
    let there = subst (λ (v : Standing). has c.args.task.0 (tasks (group_of v)) ≡ true) (sym c.self.view_is) c.requires in
    subst (λ (v : Standing). (past : Past) → IsAt v past → c.sleeps.result ≡ sleeps c.args.task.0 past) c.self.view_is
    (λ past at. sleeps-shown (the_view c.self.inside) _ c.self.invariant.0 c.core.result.now.facts c.core.ensures.facts c.args.task.0 there past at c.sleeps.result c.sleeps.ensures)
