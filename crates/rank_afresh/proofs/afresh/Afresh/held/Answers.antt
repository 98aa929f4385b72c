use Rattle.std.proofs.Common.{◌≡◌, ◌∙◌, length, true, map, sym, ap, subst, arith}
use Rattle.rt_base.specs.declared.SemNo.{SemNo}
use Rattle.rt_task.specs.declared.Parts.{Parts}
use Rattle.rt_rules.specs.Numbers.{has}
use Rattle.rt_model.specs.Group.{tasks}
use Rattle.rt_model.specs.Holders.{holds}
use Rattle.rt_model.specs.Past.{Past}
use Rattle.rank_afresh.specs.contracts.afresh.Afresh.{the_view}
use Rattle.rank_afresh.specs.Standing.{IsAt, Standing, group_of}
use Rattle.rank_afresh.proofs.Shown.{few-sems, held-shown, none-held}
use Rattle.rank_afresh.proofs.afresh.Afresh.held.Goals as goal

pub overflow_cast-count : goal.overflow_cast-count
overflow_cast-count c = let few = few-sems c.self.inside.setup c.parts.ensures.valid in omega (arith, few, ap length c.as_slice.ensures, ap (λ (p : Parts). length p.sems) c.parts.ensures.parts)

pub returns-then-holds_none : goal.returns-then-holds_none
returns-then-holds_none c =
    let there = subst (λ (v : Standing). has c.args.task.0 (tasks (group_of v)) ≡ true) (sym c.self.view_is) c.requires in
    subst (λ (v : Standing). (past : Past) → IsAt v past → map (λ (s : SemNo). s.0) c.new.result.items ≡ holds (group_of v) c.args.task.0 past) c.self.view_is
    (λ past at. ap (map (λ (s : SemNo). s.0)) c.new.ensures.items ∙ sym (none-held (the_view c.self.inside) _ c.self.invariant.0 c.core-core.result.now.facts c.core-core.ensures.facts c.args.task.0 there past at c.holds_none.result c.if-holds_none.true c.holds_none.ensures))

pub returns : goal.returns
returns c =
    let there = subst (λ (v : Standing). has c.args.task.0 (tasks (group_of v)) ≡ true) (sym c.self.view_is) c.requires in
    let count : length c.as_slice.result.now ≡ length (the_view c.self.inside).setup.sems = ap length c.as_slice.ensures ∙ ap (λ (p : Parts). length p.sems) c.parts.ensures.parts in
    subst (λ (v : Standing). (past : Past) → IsAt v past → map (λ (s : SemNo). s.0) c.in_ok-held.held.items ≡ holds (group_of v) c.args.task.0 past) c.self.view_is
    (λ past at. c.in_ok-held.ensures ∙ held-shown (the_view c.self.inside) _ c.self.invariant.0 c.core-core.result.now.facts c.core-core.ensures.facts c.args.task.0 there past at _ count)
