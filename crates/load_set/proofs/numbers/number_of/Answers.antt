use Rattle.std.proofs.Common.{◌≡◌, ◌∙◌, false, true, ap, sym}
use Rattle.std.specs.Prelude.{Ok, bytes_eq, decimal}
use Rattle.std.proofs.lemmas.Bool.{false≢true}
use Rattle.std.proofs.lemmas.Fmt.{parse-decimal}
use Rattle.std.proofs.lemmas.Slice.Eq.{bytes_eq-Decides}
use Rattle.load_set.proofs.numbers.number_of.Goals as goal

pub returns-in_default : goal.returns-in_default
returns-in_default c = λ n fits says.
    let parsed : c.parse.result ≡ Ok n = parse-decimal 64 n c.args.word.now c.parse.result fits fits says c.parse.ensures.value.0 in
    c.in_default.not-Ok n parsed

pub returns-else-eq : goal.returns-else-eq
returns-else-eq c = λ n fits says.
    let parsed : c.parse.result ≡ Ok n = parse-decimal 64 n c.args.word.now c.parse.result fits fits says c.parse.ensures.value.0 in
    let both : Ok c.in-Ok.n ≡ Ok n = sym c.in-Ok.is ∙ parsed in
    let same : c.in-Ok.n ≡ n = cc in
    let text : c.format.result.now ≡ c.args.word.now = c.format.ensures.text ∙ ap decimal same ∙ sym says in
    let test : bytes_eq c.format.result.now c.args.word.now ≡ true = (bytes_eq-Decides c.format.result.now c.args.word.now).1 text in
    let failed : false ≡ true = sym c.if-eq.false ∙ c.eq.ensures ∙ test in
    false≢true failed
