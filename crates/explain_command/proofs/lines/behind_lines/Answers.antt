use Rattle.std.proofs.Common.{◌≡◌, ℕ, suc, ◌+◌, ◌-◌, sym, ap, ◌∙◌, arith}
use Rattle.trace_check.specs.LinesAlike as alike
use Rattle.explain_command.proofs.lines.behind_lines.Goals as goal

pub loop-preserved : goal.loop-preserved
loop-preserved c =
    let left : c.args.lines - c.loop.counter ≡ suc (c.args.lines - (c.loop.counter + 1)) = omega (arith, c.loop-test.true) in
    ap (alike.behind_lines (c.args.lines - (c.loop.counter + 1))) c.behind_line-rest.ensures ∙ sym (ap (λ (n : ℕ). alike.behind_lines n c.loop.rest.now) left) ∙ c.loop.invariant
