use Rattle.std.proofs.Common.{◌≡◌, ℕ, false, subst}
use Rattle.rt_model.specs.Histories.{after}
use Rattle.rt_model.specs.Links.{linked}
use Rattle.rt_model.specs.Past.{Past}
use Rattle.rt_plays.specs.Homes.{IsProcessorOf}
use Rattle.rt_task.specs.declared.Step.{Step}
use Rattle.rank_afresh.specs.contracts.afresh.Afresh.{the_view}
use Rattle.rank_afresh.specs.Standing.{IsAt, Standing, group_of}
use Rattle.rank_afresh.proofs.Standings.{linked-stays}
use Rattle.rank_afresh.proofs.afresh.Afresh.has_placed.Goals as goal

pub returns : goal.returns
returns c =
    subst (λ (v : Standing). (past : Past) (step : Step) → IsAt v (after (group_of v) step past) → c.has_any.result ≡ false → (q : ℕ) → IsProcessorOf (group_of v) q
    → linked (group_of v) q (after (group_of v) step past) ≡ linked (group_of v) q past) c.self.view_is
    (λ past step at still q of. linked-stays (the_view c.self.inside) _ c.self.invariant.0 q of step past at (c.has_any.ensures still _))
