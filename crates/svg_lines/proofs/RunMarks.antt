-- The marks of columns, run by run.
use Rattle.std.proofs.Common.{◌≡◌, ◌∙◌, ℕ, suc, ◌+◌, ◌*◌, ◌<◌, List, [], ◌∷◌, ◌++◌, length, drop, get_or, sym, ap, arith, append_assoc}
use Rattle.std.proofs.lemmas.List.{drop_more, length-map}
use Rattle.chart_texts.specs.Charts.{Marked}
use Rattle.chart_cells.specs.Cells.{column_shown, run_shown, runs_shown}
use Rattle.chart_cells.specs.declared.cells.Run.{Run}
use Rattle.svg_texts.specs.TaskRows.{draw_marks, marks_from}

marks-append : (edge y i n : ℕ) (xs ys : List Marked) → n ≡ i + length xs → marks_from edge y i (xs ++ ys) ≡ marks_from edge y i xs ++ marks_from edge y n ys
unfolding marks_from
marks-append edge y i n [] ys h =
    let same : i ≡ n = omega (arith, h) in
    ap (λ k. marks_from edge y k ys) same
marks-append edge y i n (x ∷ xs) ys h =
    ap (λ z. draw_marks (edge + 20 * i) y x.marks ++ z) (marks-append edge y (suc i) n xs ys (omega (arith, h)))
    ∙ sym (append_assoc (draw_marks (edge + 20 * i) y x.marks) (marks_from edge y (suc i) xs) (marks_from edge y n ys))

-- those of one run more
pub run-put : (edge y column behind : ℕ) (runs : List Run) (i : ℕ) (r : Run) (out new all : List ℕ) → i < length runs → r ≡ get_or runs i r → behind ≡ column + length r.marks.items
    → new ≡ out ++ marks_from edge y column (run_shown r) → out ++ marks_from edge y column (runs_shown (drop i runs)) ≡ all → new ++ marks_from edge y behind (runs_shown (drop (i + 1) runs)) ≡ all
run-put edge y column behind runs i r out new all low is number written so_far =
    let rest : List Marked = runs_shown (drop (i + 1) runs) in
    let left : drop i runs ≡ r ∷ drop (i + 1) runs = drop_more runs i r low ∙ ap (λ (x : Run). x ∷ drop (i + 1) runs) (sym is) in
    let long : behind ≡ column + length (run_shown r) = omega (arith, number, length-map r.marks.items (column_shown r.cell)) in
    ap (λ z. z ++ marks_from edge y behind rest) written ∙ append_assoc out (marks_from edge y column (run_shown r)) (marks_from edge y behind rest)
    ∙ ap (λ z. out ++ z) (sym (ap (λ rs. marks_from edge y column (runs_shown rs)) left ∙ marks-append edge y column behind (run_shown r) rest long)) ∙ so_far
