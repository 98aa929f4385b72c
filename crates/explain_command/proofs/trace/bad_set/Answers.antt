use Rattle.std.proofs.Common.{◌≡◌, ℕ, List, ◌++◌, ap, ◌∙◌, inr, subst}
use Rattle.set_explain.specs.Causes.{Cause, IsCause}
use Rattle.set_explain.specs.Shown.{cause_shown}
use Rattle.explain_command.specs.Texts.{in_trace}
use Rattle.explain_command.proofs.trace.bad_set.Goals as goal

pub returns : goal.returns
returns c = λ tools.
    let has = c.requires in
    let text : c.set_text.result.now ≡ has.set_text = c.set_text.ensures has.version has.set_text has.rest has.head in
    let cause : Cause = cause_shown c.in_ok-cause.cause in
    inr (record {
      bad_set = has;
      cause = cause;
      is_cause = subst (λ (xs : List ℕ). IsCause xs c.args.bad cause) text c.in_ok-cause.ensures;
      text_is = c.in_ok-put_in_trace.ensures ∙ ap (λ (xs : List ℕ). xs ++ in_trace) c.in_ok-text.ensures;
    })
