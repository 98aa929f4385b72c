use Rattle.std.proofs.Common.{◌≡◌, ◌≤◌, length, true, sym, subst}
use Rattle.rt_base.specs.TaskNos.{number_of_task}
use Rattle.rt_model.specs.Group.{in_group, resv}
use Rattle.rt_model.specs.Past.{Past}
use Rattle.rt_model.specs.Reservations.{front}
use Rattle.rank_afresh.specs.contracts.afresh.Afresh.{the_view}
use Rattle.rank_afresh.specs.Standing.{IsAt, Standing, group_of}
use Rattle.rank_afresh.proofs.Explained.{front-shown}
use Rattle.rank_afresh.proofs.Shown.{resv-there}
use Rattle.rank_afresh.proofs.afresh.Afresh.front.Goals as goal

pub front-requires : goal.front-requires
front-requires c =
    let high = subst (λ (v : Standing). c.args.number.0 ≤ length v.setup.resvs) (sym c.self.view_is) c.requires.high in
    let here = subst (λ (v : Standing). in_group (group_of v) (resv (group_of v) c.args.number.0).cluster.0 ≡ true) (sym c.self.view_is) c.requires.here in
    let at = subst (λ (v : Standing). IsAt v c.requires.at.0) (sym c.self.view_is) c.requires.at.1 in
    resv-there (the_view c.self.inside) c.self.invariant.0.core_fit.valid c.core.result.now.facts c.core.ensures.facts c.args.number.0 c.requires.low high here c.requires.at.0 at

pub returns : goal.returns
returns c =
    let high = subst (λ (v : Standing). c.args.number.0 ≤ length v.setup.resvs) (sym c.self.view_is) c.requires.high in
    let here = subst (λ (v : Standing). in_group (group_of v) (resv (group_of v) c.args.number.0).cluster.0 ≡ true) (sym c.self.view_is) c.requires.here in
    subst (λ (v : Standing). (past : Past) → IsAt v past → number_of_task c.front.result ≡ front (group_of v) c.args.number.0 past) c.self.view_is
    (λ past at. front-shown (the_view c.self.inside) c.self.invariant.0.core_fit.valid c.core.result.now.facts c.core.ensures.facts c.args.number.0 c.requires.low high here past at c.front.result c.front.ensures.front c.front.ensures.none)
