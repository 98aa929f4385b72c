use Rattle.std.proofs.Common.{ap, ◌∙◌}
use Rattle.std.proofs.lemmas.Result.{IfOk-weaker}
use Rattle.trace_text.specs.Groups.{histories}
use Rattle.trace_upgrade.proofs.engines_in.Goals as goal

pub returns-clause-histories : goal.returns-clause-histories
returns-clause-histories c =
    IfOk-weaker c.engines_again.result _ _ (λ v same hs told. ap histories (same ∙ c.as_slice.ensures.value) ∙ c.in_ok-groups.ensures.histories hs told) c.engines_again.ensures
