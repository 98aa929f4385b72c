use Rattle.std.proofs.Common.{◌≡◌, ℕ, List, ◌++◌, take, codes, sym, ap, ◌∙◌}
use Rattle.std.proofs.lemmas.List.{append_cancel_left}
use Rattle.trace_laws.proofs.Alike.{set_line}
use Rattle.explain_command.specs.Lines.{line_length}
use Rattle.explain_command.proofs.LineLaws.{set_line-cut}
use Rattle.explain_command.proofs.lines.set_text.Goals as goal

pub returns-in-Some : goal.returns-in-Some
returns-in-Some c = λ version text rest head.
    let line : take c.line_length.result c.behind_line-second.result.now ≡ set_line text =
    ap (λ (n : ℕ). take n c.behind_line-second.result.now) c.line_length.ensures.value ∙ ap (λ (xs : List ℕ). take (line_length xs) xs) c.behind_line-second.ensures
    ∙ set_line-cut version c.args.bytes.now text rest head in
    append_cancel_left (codes "set ") c.in-Some.text.now text (sym c.in-Some.ensures ∙ line)

pub returns-in-None : goal.returns-in-None
returns-in-None c = λ version text rest head.
    let line : take c.line_length.result c.behind_line-second.result.now ≡ set_line text =
    ap (λ (n : ℕ). take n c.behind_line-second.result.now) c.line_length.ensures.value ∙ ap (λ (xs : List ℕ). take (line_length xs) xs) c.behind_line-second.ensures
    ∙ set_line-cut version c.args.bytes.now text rest head in
    absurd (c.in-None.ensures text line)
