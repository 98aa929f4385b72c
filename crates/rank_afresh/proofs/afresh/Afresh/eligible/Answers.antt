use Rattle.std.proofs.Common.{◌≡◌, true, sym, subst}
use Rattle.rt_rules.specs.Numbers.{has}
use Rattle.rt_model.specs.Tops.{eligible}
use Rattle.rt_model.specs.Group.{tasks}
use Rattle.rt_model.specs.Past.{Past}
use Rattle.rank_afresh.specs.contracts.afresh.Afresh.{the_view}
use Rattle.rank_afresh.specs.Standing.{IsAt, Standing, group_of}
use Rattle.rank_afresh.proofs.Explained.{eligible-shown}
use Rattle.rank_afresh.proofs.Shown.{task-of}
use Rattle.rank_afresh.proofs.afresh.Afresh.eligible.Goals as goal

pub is_eligible-requires : goal.is_eligible-requires
is_eligible-requires c =
    let there = subst (λ (v : Standing). has c.args.task.0 (tasks (group_of v)) ≡ true) (sym c.self.view_is) c.requires in
    task-of (the_view c.self.inside) _ c.self.invariant.0 c.core.result.now.facts c.core.ensures.facts c.args.task.0 there _ c.parts.ensures.parts

pub returns : goal.returns
returns c =
    let there = subst (λ (v : Standing). has c.args.task.0 (tasks (group_of v)) ≡ true) (sym c.self.view_is) c.requires in
    subst (λ (v : Standing). (past : Past) → IsAt v past → c.is_eligible.result ≡ eligible (group_of v) c.args.task.0 past) c.self.view_is
    (λ past at. eligible-shown (the_view c.self.inside) _ c.self.invariant.0 c.core.result.now.facts c.core.ensures.facts c.args.task.0 there past at _ c.parts.ensures.parts c.is_eligible.result c.is_eligible.ensures)
