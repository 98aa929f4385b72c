use Rattle.std.proofs.Common.{◌≡◌, true}
use Rattle.std.proofs.lemmas.Slice.Eq.{starts_is}
use Rattle.std.proofs.lemmas.Bool.Decides.{Decides-eqb}
use Rattle.trace_check.proofs.lines.begins_with.Goals as goal

pub returns-clause-yes : goal.returns-clause-yes
returns-clause-yes c = (starts_is Decides-eqb c.args.text.now c.args.line.now c.starts_with.result c.starts_with.ensures.value).0

pub returns-clause-no : goal.returns-clause-no
returns-clause-no c = λ no more is.
    let yes : c.starts_with.result ≡ true = (starts_is Decides-eqb c.args.text.now c.args.line.now c.starts_with.result c.starts_with.ensures.value).1 more is in
    cc
