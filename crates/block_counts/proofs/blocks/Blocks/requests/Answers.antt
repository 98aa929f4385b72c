use Rattle.std.proofs.Common.{All, ap, subst, sym, ◌∙◌, ◌≡◌}
use Rattle.rt_task.specs.Validity.{IsValid}
use Rattle.rt_changes.specs.OpenLaws.{IsWithin}
use Rattle.rt_changes.specs.Tallies.{tallies}
use Rattle.rt_changes.proofs.requests.Bounds.{seen_within_bound}
use Rattle.block_counts.specs.GroupRequests.{GroupRequests, group_of}
use Rattle.block_counts.specs.SeenWords.{tallies_of}
use Rattle.block_counts.proofs.blocks.Blocks.requests.Goals as goal

pub returns-clause-exact : goal.returns-clause-exact
returns-clause-exact c = λ past at. ap tallies_of c.as_slice.ensures.value ∙ ap (λ (b : GroupRequests). b.tallies) c.self.view_is ∙ at.tallies_are

pub returns-clause-bounds : goal.returns-clause-bounds
returns-clause-bounds c = λ past made at.
    let same : tallies_of c.as_slice.result.now ≡ tallies (group_of c.args.self.now) past = ap tallies_of c.as_slice.ensures.value ∙ ap (λ (b : GroupRequests). b.tallies) c.self.view_is ∙ at.tallies_are in
    let valid = subst (λ (b : GroupRequests). IsValid b.setup) c.self.view_is c.self.invariant.0.valid in
    subst (All (IsWithin (group_of c.args.self.now))) (sym same) (seen_within_bound (group_of c.args.self.now) past valid made)
