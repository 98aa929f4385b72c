use Rattle.std.proofs.Common.{◌≡◌, true, sym, subst}
use Rattle.rt_rules.specs.Numbers.{has}
use Rattle.rt_model.specs.Group.{tasks}
use Rattle.rt_model.specs.Past.{Past}
use Rattle.rt_model.specs.NonPreemptive.{non_preemptive}
use Rattle.rank_afresh.specs.contracts.afresh.Afresh.{the_view}
use Rattle.rank_afresh.specs.Standing.{IsAt, Standing, group_of}
use Rattle.rank_afresh.proofs.Shown.{in-jobs, low, np-shown}
use Rattle.rank_afresh.proofs.afresh.Afresh.non_preemptive.Goals as goal

pub is_non_preemptive-requires-clause-low : goal.is_non_preemptive-requires-clause-low
is_non_preemptive-requires-clause-low c =
    let there = subst (λ (v : Standing). has c.args.task.0 (tasks (group_of v)) ≡ true) (sym c.self.view_is) c.requires in
    low (the_view c.self.inside) _ c.self.invariant.0 c.core.result.now.facts c.core.ensures.facts c.args.task.0 there

pub is_non_preemptive-requires-clause-high : goal.is_non_preemptive-requires-clause-high
is_non_preemptive-requires-clause-high c =
    let there = subst (λ (v : Standing). has c.args.task.0 (tasks (group_of v)) ≡ true) (sym c.self.view_is) c.requires in
    in-jobs (the_view c.self.inside) _ c.self.invariant.0 c.core.result.now.facts c.core.ensures.facts c.args.task.0 there

pub returns : goal.returns
returns c =
    let there = subst (λ (v : Standing). has c.args.task.0 (tasks (group_of v)) ≡ true) (sym c.self.view_is) c.requires in
    subst (λ (v : Standing). (past : Past) → IsAt v past → c.is_non_preemptive.result ≡ non_preemptive c.args.task.0 past) c.self.view_is
    (λ past at. np-shown (the_view c.self.inside) _ c.self.invariant.0 c.core.result.now.facts c.core.ensures.facts c.args.task.0 there past at c.is_non_preemptive.result c.is_non_preemptive.ensures)
