use Rattle.std.proofs.Common.{◌≡◌, ◌∙◌, ◌+◌, ◌<◌, [], ◌∷◌, ◌++◌, List, ℕ, length, map, flat_map, drop, ap, append_assoc, arith, sym}
use Rattle.chart_texts.specs.TaskLines as spec
use Rattle.chart_cells.specs.Cells.{column_shown, sem_numbers}
use Rattle.chart_lines.proofs.RunSigns.{held-more}
use Rattle.chart_lines.proofs.tasks.put_held_signs.Goals as goal

pub loop-preserved : goal.loop-preserved
loop-preserved c =
    let run = c.args.run.now in
    let before : List ℕ = c.loop.signs.items in
    let rest : List ℕ = flat_map spec.held_signs (map (column_shown run.cell) (drop (c.loop.counter + 1) run.marks.items)) in
    let low : c.loop.counter < length run.marks.items = omega (arith, c.loop-test.true, c.len-end.ensures, run.marks.ok.0) in
    let sign : c.held_sign-held.result ≡ spec.held_sign (sem_numbers run.cell.held.items) = c.held_sign-held.ensures ∙ ap (λ hs. spec.held_sign (sem_numbers hs)) c.deref.ensures.value in
    ap (λ z. z ++ rest) c.in_ok-put_two.ensures ∙ append_assoc before (c.held_sign-held.result ∷ 32 ∷ []) rest ∙ ap (λ (n : ℕ). before ++ n ∷ 32 ∷ rest) sign
    ∙ ap (λ z. before ++ z) (sym (held-more run.cell run.marks.items c.loop.counter low)) ∙ c.loop.invariant
