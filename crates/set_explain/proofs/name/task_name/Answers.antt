use Rattle.std.proofs.Common.{[], ◌∷◌, ◌++◌, ap, sym, ◌∙◌}
use Rattle.set_explain.specs.Rules.{broken, first_some}
use Rattle.set_explain.specs.Shown.{shown}
use Rattle.set_explain.proofs.TestLaws.{broken_append}
use Rattle.set_explain.specs.NameRules.{own_name, task_names}
use Rattle.set_explain.proofs.name.task_name.Goals as goal

pub returns : goal.returns
returns c =
    c.first.ensures ∙ ap (λ o. first_some (o ∷ shown c.in_ok-names.names ∷ [])) c.own_name.ensures
    ∙ ap (λ o. first_some (broken (own_name c.args.earlier.now c.args.p.now) ∷ o ∷ [])) c.in_ok-names.ensures
    ∙ sym (broken_append (own_name c.args.earlier.now c.args.p.now) (task_names c.args.d.now c.args.p.now))
