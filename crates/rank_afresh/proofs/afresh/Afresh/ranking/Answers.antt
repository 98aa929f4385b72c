use Rattle.std.proofs.Common.{◌≡◌, ◌∙◌, true, sym, ap, subst}
use Rattle.std.specs.Prelude.{IfOk}
use Rattle.std.proofs.lemmas.Result.{IfOk-weaker}
use Rattle.rt_base.specs.TaskNos.{numbers}
use Rattle.rt_rules.specs.Numbers.{has}
use Rattle.rt_rules.specs.Rankings.{tasks_of}
use Rattle.rt_model.specs.Group.{clusters}
use Rattle.rt_model.specs.Past.{Past}
use Rattle.rt_model.specs.Tops.{ranking}
use Rattle.rank_afresh.specs.contracts.afresh.Afresh.{the_view}
use Rattle.rank_afresh.specs.Standing.{IsAt, Standing, group_of}
use Rattle.rank_afresh.proofs.Explained.{cluster-there, ranking-shown}
use Rattle.rank_afresh.proofs.afresh.Afresh.ranking.Goals as goal

pub ranking-requires : goal.ranking-requires
ranking-requires c =
    let there = subst (λ (v : Standing). has c.args.cluster.0 (clusters (group_of v)) ≡ true) (sym c.self.view_is) c.requires in
    cluster-there (the_view c.self.inside) _ c.self.invariant.0 c.args.cluster.0 there

pub returns : goal.returns
returns c =
    let there = subst (λ (v : Standing). has c.args.cluster.0 (clusters (group_of v)) ≡ true) (sym c.self.view_is) c.requires in
    subst (λ (v : Standing). IfOk c.ranking.result (λ ts. (past : Past) → IsAt v past → numbers ts.items ≡ tasks_of (ranking (group_of v) c.args.cluster.0 past))) c.self.view_is
    (IfOk-weaker c.ranking.result _ _ (λ ts told past at. told ∙ ap tasks_of (ranking-shown (the_view c.self.inside) _ c.self.invariant.0 c.args.cluster.0 there past at)) c.ranking.ensures)
