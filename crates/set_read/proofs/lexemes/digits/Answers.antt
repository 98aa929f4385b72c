use Rattle.std.proofs.Common.{◌+◌, ◌-◌, ◌*◌, ◌≤◌, ◌∷◌, ◌++◌, [], length, take, drop, get_or, refl, sym, ap, ◌∙◌, arith}
use Rattle.set_read.proofs.FirstLaws.{digits_push, first_split}
use Rattle.set_read.proofs.lexemes.digits.Goals as goal

pub loop-left-preserved : goal.loop-left-preserved
loop-left-preserved c =
    let l = c.loop-left in
    let xs = l.left.now in
    let x = get_or xs 0 0 in
    let rest = take (length xs - 1) (drop 1 xs) in
    let ds = l.invariant.0 in
    let split = first_split x xs c.in-len1-up.len_at_least refl in
    let digit : (48 ≤ x) × (x ≤ 57) = grind arith in
    let more =
    digits_push c.args.text.now rest ds l.n x (l.invariant.1 ∙ ap (λ r. ds ++ r) split) l.invariant.2 l.invariant.3 digit.0 digit.1 in
    (ds ++ x ∷ [], more.0, more.1, more.2 ∙ ap (λ k. l.n * 10 + k) (sym c.from.ensures))
