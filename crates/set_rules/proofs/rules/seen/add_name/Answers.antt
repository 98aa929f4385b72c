use Rattle.std.proofs.Common.{ap, ◌∙◌, ◌||◌}
use Rattle.std.specs.Prelude.{bytes_eq}
use Rattle.set_rules.specs.inside.NamesSeen.{has_name}
use Rattle.set_rules.proofs.RefusalLaws.{if-true}
use Rattle.set_rules.proofs.rules.seen.add_name.Goals as goal

pub returns-clause-added : goal.returns-clause-added
returns-clause-added c = λ w.
    (c.in_ok-is_new.ensures.updates).0 (record c.as_slice.result { now = w })
    ∙ if-true (bytes_eq c.as_slice.result.now w) (has_name c.args.names.now w)
    ∙ ap (λ name. bytes_eq name w || has_name c.args.names.now w) c.as_slice.ensures
