use Rattle.std.proofs.Common.{◌≡◌, ◌∙◌, ◌+◌, ◌-◌, ◌<◌, ◌++◌, ◌∷◌, [], ap, append-nil, append_assoc, arith, min, sym}
use Rattle.rt_rules.specs.Numbers.{numbers_from}
use Rattle.chart_feed.proofs.Clocked.{numbers-next}
use Rattle.chart_feed.proofs.entry_clocks.numbers_in.Goals as goal

pub loop-column-preserved : goal.loop-column-preserved
loop-column-preserved c =
    let a = c.loop-column.column in
    let m = min c.args.count c.args.window.to in
    let low : a < m = omega (arith, c.loop-column-test.true, c.min-column-end.ensures) in
    ap (λ xs. xs ++ numbers_from (a + 1) (m - (a + 1))) c.in_ok-push.ensures.items
    ∙ append_assoc c.loop-column.numbers.items (a ∷ []) (numbers_from (a + 1) (m - (a + 1)))
    ∙ ap (λ xs. c.loop-column.numbers.items ++ xs) (numbers-next a m low) ∙ c.loop-column.invariant

pub returns : goal.returns
returns c =
    let a = c.loop-column.column in
    let none : min c.args.count c.args.window.to - a ≡ 0 = omega (arith, c.loop-column-test.false, c.min-column-end.ensures) in
    sym (append-nil c.loop-column.numbers.items) ∙ sym (ap (λ n. c.loop-column.numbers.items ++ numbers_from a n) none) ∙ c.loop-column.invariant
