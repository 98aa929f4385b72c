use Rattle.std.proofs.Common.{[], ◌∷◌, ◌++◌, ap, sym, ◌∙◌}
use Rattle.set_explain.specs.Rules.{broken, first_some}
use Rattle.set_explain.specs.Shown.{shown}
use Rattle.set_explain.proofs.TestLaws.{broken_append}
use Rattle.serde_json.specs.View.{view}
use Rattle.set_read.specs.Names.{names_seen}
use Rattle.set_explain.specs.ShapeRules.{task_parts, task_times}
use Rattle.set_explain.proofs.task_shape.task_rest.Goals as goal

pub returns : goal.returns
returns c =
    c.first.ensures ∙ ap (λ o. first_some (o ∷ shown c.in_ok-parts.parts ∷ [])) c.task_times.ensures
    ∙ ap (λ o. first_some (broken (task_times (view c.args.v.now)) ∷ o ∷ [])) c.in_ok-parts.ensures
    ∙ sym (broken_append (task_times (view c.args.v.now)) (task_parts (names_seen c.args.names.now) c.args.needs (view c.args.v.now)))
