use Rattle.std.proofs.Common.{◌≡◌, ℕ, ◌==◌, List, Some, ap, sym, ◌∙◌}
use Rattle.std.specs.List.{position, remove}
use Rattle.std.proofs.lemmas.List.Quantifiers.{position-Some}
use Rattle.rt_task.specs.Bodies.{without}
use Rattle.rt_task.specs.RuleWords.{has}
use Rattle.set_rules.proofs.BodyLaws.{without-at, without-none, has-no_position}
use Rattle.set_rules.proofs.rules.bodies.let_go.Goals as goal

pub returns-in-Some : goal.returns-in-Some
returns-in-Some c =
    let s = c.args.s in
    let xs : List ℕ = c.as_slice.result.now in
    let i = c.in-Some.place in
    let place : position (λ m. m == s) xs ≡ Some i = sym c.in-Some.ensures.place in
    let at = position-Some (λ m. m == s) xs i 0 place in
    c.remove.ensures.items ∙ ap (λ ys. remove ys i) (sym c.as_slice.ensures.value) ∙ sym (without-at s xs i 0 at.0 at.1 at.2) ∙ ap (without s) c.as_slice.ensures.value

pub returns-in_default : goal.returns-in_default
returns-in_default c =
    let s = c.args.s in
    let xs : List ℕ = c.as_slice.result.now in
    let absent = has-no_position s xs (sym c.in_default.ensures.place) in
    sym (without-none s c.args.held.now.items (sym (ap (has s) c.as_slice.ensures.value) ∙ absent))
