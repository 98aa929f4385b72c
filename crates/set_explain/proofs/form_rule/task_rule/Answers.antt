use Rattle.std.proofs.Common.{ap, ◌∙◌}
use Rattle.serde_json.specs.View.{view}
use Rattle.set_read.specs.Document.{names_of}
use Rattle.set_read.specs.Seen.{whole_seen}
use Rattle.set_explain.specs.Rules.{broken}
use Rattle.set_explain.specs.ShapeRules.{task_shape}
use Rattle.set_explain.proofs.form_rule.task_rule.Goals as goal

pub returns-clause-rule : goal.returns-clause-rule
returns-clause-rule c =
    c.in_ok-task_shape.ensures
    ∙ ap (λ n. broken (task_shape n c.needs_bodies.result (view c.args.v.now))) c.in_ok-names.ensures.names
    ∙ ap (λ b. broken (task_shape (names_of (whole_seen c.args.whole.now)) b (view c.args.v.now))) c.needs_bodies.ensures
