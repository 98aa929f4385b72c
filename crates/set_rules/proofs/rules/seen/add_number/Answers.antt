use Rattle.std.proofs.Common.{◌∙◌, ◌==◌}
use Rattle.set_rules.specs.inside.NamesSeen.{has_number}
use Rattle.set_rules.proofs.RefusalLaws.{if-true}
use Rattle.set_rules.proofs.rules.seen.add_number.Goals as goal

pub returns-clause-added : goal.returns-clause-added
returns-clause-added c = λ n. (c.in_ok-is_new.ensures.updates).0 n ∙ if-true (c.args.number == n) (has_number c.args.numbers.now n)
