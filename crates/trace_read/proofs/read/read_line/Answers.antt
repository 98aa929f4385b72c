use Rattle.std.proofs.Common.{◌≡◌, ◌≢◌, ◌++◌, IsTrue, ap, ◌∙◌, subst}
use Rattle.trace_lines.specs.Grammar.{line_text}
use Rattle.trace_lines.specs.Known.{Known, known_in}
use Rattle.trace_read.specs.Lines.{line_of}
use Rattle.trace_read.proofs.ReadLaws.{IsParsed, none-not_read, none-not_fit, none-other_text}
use Rattle.trace_read.proofs.read.read_line.Goals as goal

pub returns-in_default-clause-line : goal.returns-in_default-clause-line
returns-in_default-clause-line c =
    none-not_read c.args.k.now c.args.bytes.now c.requires
    (subst (λ o. IsParsed c.args.k.now c.args.bytes.now o) c.in_default.is c.in_ok-line.ensures)

pub returns-then-not-line_fits-clause-line : goal.returns-then-not-line_fits-clause-line
returns-then-not-line_fits-clause-line c =
    none-not_fit c.args.k.now c.args.bytes.now c.in-Some.line c.requires
    (subst (λ o. IsParsed c.args.k.now c.args.bytes.now o) c.in-Some.is c.in_ok-line.ensures)
    (λ is. let fits : IsTrue c.line_fits.result = c.line_fits.ensures.1 is in cc)

pub returns-in-None-clause-line : goal.returns-in-None-clause-line
returns-in-None-clause-line c =
    let text : c.as_slice.result.now ≡ line_text c.args.k.now (line_of c.in-Some.line) =
    c.as_slice.ensures.value ∙ c.in_ok-put_line.ensures ∙ ap (λ xs. xs ++ line_text (known_in c.format.result.now) (line_of c.in-Some.line)) c.clear.ensures.items
    ∙ ap (λ (k : Known). line_text k (line_of c.in-Some.line)) c.format.ensures in
    none-other_text c.args.k.now c.args.bytes.now c.in-Some.line c.requires
    (subst (λ o. IsParsed c.args.k.now c.args.bytes.now o) c.in-Some.is c.in_ok-line.ensures)
    (λ more. subst (λ xs. c.args.bytes.now ≢ xs ++ more) text (c.in-None.ensures more))
