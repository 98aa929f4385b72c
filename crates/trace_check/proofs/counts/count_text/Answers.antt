use Rattle.std.proofs.Common.{List, ℕ, ◌+◌, ◌++◌, drop, map, sym, ap, ◌∙◌, arith, append_assoc, append-nil}
use Rattle.std.specs.Prelude.{flat_map}
use Rattle.trace_lines.specs.Grammar.{line_text}
use Rattle.trace_tools.specs.BusCounters.{counters}
use Rattle.trace_tools.specs.Counters.{Counter, counter_line}
use Rattle.trace_text.proofs.ShownLaws.{counts-end, counts-next}
use Rattle.trace_check.proofs.counts.count_text.Goals as goal

pub loop-i-preserved : goal.loop-i-preserved
loop-i-preserved g c k =
    let ss : List Counter = counters g.T.TraceTool.tool c.args.bus.now in
    let here = counts-next k ss c.loop-i.i c.in_ok-line.line.items (omega (arith, c.loop-i-test.true, c.in-Ok.ensures.1, c.count.ensures)) (c.in_ok-line.ensures k) in
    let others : List ℕ = flat_map (line_text k) (map counter_line (drop (c.loop-i.i + 1) ss)) in
    ap (λ (t : List ℕ). t ++ others) (c.in_ok-extend_from_slice.ensures.items ∙ ap (λ (t : List ℕ). c.loop-i.text.items ++ t) c.as_slice.ensures.value)
    ∙ append_assoc c.loop-i.text.items c.in_ok-line.line.items others ∙ ap (λ (t : List ℕ). c.loop-i.text.items ++ t) (sym here) ∙ c.loop-i.invariant k

pub returns : goal.returns
returns g c = λ k.
    let ss : List Counter = counters g.T.TraceTool.tool c.args.bus.now in
    let none = counts-end k ss c.loop-i.i (omega (arith, c.loop-i-test.false, c.in-Ok.ensures.1, c.count.ensures)) in
    sym (append-nil c.loop-i.text.items) ∙ ap (λ (t : List ℕ). c.loop-i.text.items ++ t) (sym none) ∙ c.loop-i.invariant k
