use Rattle.std.proofs.Common.{◌≡◌, ◌<◌, ℕ, false, get_or, length, sym, ap, ◌∙◌, subst, arith}
use Rattle.rt_model.specs.Group.{cluster_with}
use Rattle.rt_model.specs.Histories.{after}
use Rattle.rt_model.specs.Links.{linked}
use Rattle.rt_model.specs.Past.{Past}
use Rattle.rt_plays.specs.Homes.{IsProcessorOf}
use Rattle.rt_task.specs.declared.Step.{Step}
use Rattle.rank_afresh.specs.contracts.afresh.Afresh.{the_view}
use Rattle.rank_afresh.specs.Standing.{IsAt, Standing, group_of}
use Rattle.rank_afresh.proofs.Standings.{home-is, linked-stays}
use Rattle.rank_afresh.proofs.afresh.Afresh.has_placed_in.Goals as goal

pub has-requires : goal.has-requires
has-requires c =
    let low = subst (λ (v : Standing). c.args.cluster.0 < length v.setup.clusters) (sym c.self.view_is) c.requires in
    omega (arith, low, c.self.invariant.2)

pub returns : goal.returns
returns c =
    subst (λ (v : Standing). (past : Past) (step : Step) → IsAt v (after (group_of v) step past) → c.has.result ≡ false → (q : ℕ) → IsProcessorOf (group_of v) q
    → cluster_with (group_of v) q ≡ c.args.cluster.0 → linked (group_of v) q (after (group_of v) step past) ≡ linked (group_of v) q past) c.self.view_is
    (λ past step at still q of its.
    linked-stays (the_view c.self.inside) _ c.self.invariant.0 q of step past at (ap (λ n. get_or c.self.inside.placed n false) (home-is (group_of (the_view c.self.inside)) q ∙ its) ∙ sym c.has.ensures ∙ still))
