use Rattle.std.proofs.Common.{◌≡◌, drop, sym, arith}
use Rattle.std.proofs.lemmas.List.{length-drop}
use Rattle.trace_check.specs.LinesAlike as alike
use Rattle.trace_check.proofs.LinesAlike.{alike-past, alike-stop}
use Rattle.trace_check.proofs.behind.lines_alike.Goals as goal
use Rattle.trace_check.proofs.behind.lines_alike.Goals.{then-i-b-via-then-i-b, then-i-b-via-else-i-b+then-b-i}

pub returns-then-i-b : goal.returns-then-i-b
returns-then-i-b c =
    let a = c.args.a.now in
    let b = c.args.b.now in
    let i = c.loop-i.i in
    let none : alike.lines_alike (drop i a) (drop i b) ≡ 0 =
    elim c.then-i-b.branch [
      | then-i-b-via-then-i-b w ↦ alike-past (drop i a) (drop i b) (omega (arith, w.if-i-b.true, length-drop i b))
      | then-i-b-via-else-i-b+then-b-i w ↦ alike-stop a b i c.loop-i-test.true (omega (arith, w.if-i-b.false)) (λ same. w.if-b-i.true (sym same))
    ] in
    omega (arith, none, c.loop-i.invariant.1)
