use Rattle.std.proofs.Common.{◌≡◌, ◌∙◌, ◌+◌, ◌-◌, ◌<◌, false, length, drop, get_or, replicate, ap, arith, subst, sym}
use Rattle.std.proofs.lemmas.List.{get_or_default}
use Rattle.chart_cells.specs.declared.cells.Run.{Run}
use Rattle.svg_texts.specs.Parts.{same_part}
use Rattle.svg_lines.specs.Shown.{lane_part, run_parts, runs_parts}
use Rattle.svg_lines.proofs.Runs.{span-of}
use Rattle.svg_lines.proofs.RunSpans.{ends-at, ends-behind, run-first, run-more}
use Rattle.svg_lines.proofs.parts.task_span_end.Goals as goal

pub loop-to-init : goal.loop-to-init
loop-to-init c =
    let runs = c.args.runs.now in
    let i = c.args.from.run in
    let seen = c.index-runs-from.result in
    let first : Run = get_or runs i seen in
    record {
      some = omega (arith, c.in_ok-column.ensures, c.len.ensures, first.marks.ok.0, c.requires.some seen);
      after = omega arith;
      within = omega (arith, c.requires.inside);
      equal = λ d.
          let same : length first.marks.items ≡ length (get_or runs i d).marks.items = ap (λ (r : Run). length r.marks.items) (get_or_default runs i seen d c.requires.inside) in
          run-first c.args.lane runs i d (c.in_ok-column.column - c.args.from.column) c.requires.inside (omega (arith, c.in_ok-column.ensures, c.len.ensures, first.marks.ok.0, same));
    }

pub loop-to-preserved : goal.loop-to-preserved
loop-to-preserved c =
    let lane = c.args.lane in
    let runs = c.args.runs.now in
    let i = c.args.from.run in
    let to = c.loop-to.to in
    let seen = c.index-runs-from-in-loop-to.result in
    let counted : Run = get_or runs to c.index-runs-to-in-loop-to.result in
    let here : Run = c.index-runs-to.result in
    let is : here ≡ get_or runs to here = c.index-runs-to.is in
    let same : length counted.marks.items ≡ length here.marks.items = ap (λ (r : Run). length r.marks.items) (get_or_default runs to c.index-runs-to-in-loop-to.result here c.loop-to-test.true ∙ sym is) in
    record {
      some = omega (arith, c.in_ok-column-2.ensures, c.loop-to.invariant.some);
      after = omega (arith, c.loop-to.invariant.after);
      within = omega (arith, c.loop-to-test.true);
      equal = λ d.
          let shown : run_parts lane (get_or runs to here) ≡ replicate (length here.marks.items) (lane_part lane (get_or runs i d).cell) = ap (run_parts lane) (sym is) ∙ c.goes_on.ensures.same c.if-goes_on.true ∙ ap (λ (r : Run). replicate (length here.marks.items) (lane_part lane r.cell)) (get_or_default runs i seen d c.requires.inside) in
          run-more lane runs to here (lane_part lane (get_or runs i d).cell) (c.loop-to.column - c.args.from.column) (length here.marks.items) (c.in_ok-column-2.column - c.args.from.column) (runs_parts lane (drop i runs))
          c.loop-to-test.true (omega (arith, c.in_ok-column-2.ensures, c.len-in-loop-to.ensures, counted.marks.ok.0, same, c.loop-to.invariant.some)) shown (c.loop-to.invariant.equal d);
    }

pub returns-else-goes_on-clause-span : goal.returns-else-goes_on-clause-span
returns-else-goes_on-clause-span c = λ d.
    let lane = c.args.lane in
    let runs = c.args.runs.now in
    let i = c.args.from.run in
    let to = c.loop-to.to in
    let here : Run = c.index-runs-to.result in
    let is : here ≡ get_or runs to here = c.index-runs-to.is in
    let differ : same_part (lane_part lane (get_or runs i d).cell) (lane_part lane (get_or runs to here).cell) ≡ false = ap (λ (r : Run). same_part (lane_part lane (get_or runs i d).cell) (lane_part lane r.cell)) (sym is) ∙ ap (λ (r : Run). same_part (lane_part lane r.cell) (lane_part lane here.cell)) (get_or_default runs i d c.index-runs-from-in-loop-to.result c.requires.inside) ∙ c.goes_on.ensures.differ c.if-goes_on.false in
    span-of (runs_parts lane (drop i runs)) (runs_parts lane (drop to runs)) c.args.from.column c.loop-to.column (lane_part lane (get_or runs i d).cell) c.loop-to.invariant.some
    (ends-at lane runs to here (lane_part lane (get_or runs i d).cell) c.loop-to-test.true (subst (λ (r : Run). 0 < length r.marks.items) is (c.goes_on.ensures.some c.if-goes_on.false)) differ) (c.loop-to.invariant.equal d)

pub returns-after-loop-to-clause-span : goal.returns-after-loop-to-clause-span
returns-after-loop-to-clause-span c = λ d.
    let lane = c.args.lane in
    let runs = c.args.runs.now in
    let i = c.args.from.run in
    let to = c.loop-to.to in
    span-of (runs_parts lane (drop i runs)) (runs_parts lane (drop to runs)) c.args.from.column c.loop-to.column (lane_part lane (get_or runs i d).cell) c.loop-to.invariant.some (ends-behind lane runs to (lane_part lane (get_or runs i d).cell) c.loop-to-test.false) (c.loop-to.invariant.equal d)
