use Rattle.std.proofs.Common.{◌≡◌, true, sym, subst}
use Rattle.rt_rules.specs.Numbers.{has}
use Rattle.rt_model.specs.BaseKeys.{base_key}
use Rattle.rt_model.specs.Group.{tasks}
use Rattle.rt_model.specs.Past.{Past}
use Rattle.rank_afresh.specs.contracts.afresh.Afresh.{the_view}
use Rattle.rank_afresh.specs.Standing.{IsAt, Standing, group_of}
use Rattle.rank_afresh.proofs.Shown.{base-shown, high, low, reads}
use Rattle.rank_afresh.proofs.afresh.Afresh.base_key.Goals as goal

pub base_key-requires-clause-read : goal.base_key-requires-clause-read
base_key-requires-clause-read c =
    let there = subst (λ (v : Standing). has c.args.task.0 (tasks (group_of v)) ≡ true) (sym c.self.view_is) c.requires in
    reads (the_view c.self.inside) _ c.self.invariant.0 c.core.result.now.facts c.core.ensures.facts c.args.task.0 there _ c.parts.ensures.parts

pub base_key-requires-clause-low : goal.base_key-requires-clause-low
base_key-requires-clause-low c =
    let there = subst (λ (v : Standing). has c.args.task.0 (tasks (group_of v)) ≡ true) (sym c.self.view_is) c.requires in
    low (the_view c.self.inside) _ c.self.invariant.0 c.core.result.now.facts c.core.ensures.facts c.args.task.0 there

pub base_key-requires-clause-high : goal.base_key-requires-clause-high
base_key-requires-clause-high c =
    let there = subst (λ (v : Standing). has c.args.task.0 (tasks (group_of v)) ≡ true) (sym c.self.view_is) c.requires in
    high (the_view c.self.inside) _ c.self.invariant.0 c.core.result.now.facts c.core.ensures.facts c.args.task.0 there _ c.parts.ensures.parts

pub returns : goal.returns
returns c =
    let there = subst (λ (v : Standing). has c.args.task.0 (tasks (group_of v)) ≡ true) (sym c.self.view_is) c.requires in
    subst (λ (v : Standing). (past : Past) → IsAt v past → c.base_key.result ≡ base_key (group_of v) c.args.task.0 past) c.self.view_is
    (λ past at. base-shown (the_view c.self.inside) _ c.self.invariant.0 c.core.result.now.facts c.core.ensures.facts c.args.task.0 there past at _ c.parts.ensures.parts c.base_key.result c.base_key.ensures)
