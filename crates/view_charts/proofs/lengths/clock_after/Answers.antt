use Rattle.std.proofs.Common.{◌∙◌, ap, arith, sym}
use Rattle.view_charts.proofs.Longest.{greatest, greatest-end, greatest-now}
use Rattle.view_charts.proofs.lengths.clock_after.Goals as goal

pub returns : goal.returns
returns c = λ g past is.
    sym (greatest-end c.args.entries.now c.loop-entry.entry-index c.loop-entry.last.0 (omega (arith, c.loop-entry-test.false))) ∙ c.loop-entry.invariant
    ∙ ap (λ n. greatest n c.args.entries.now) is ∙ sym (greatest-now g past c.args.entries.now)
