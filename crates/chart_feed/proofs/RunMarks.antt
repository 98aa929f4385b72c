-- The marks of columns that are set run by run.
use Rattle.std.proofs.Common.{◌≡◌, ◌∙◌, ℕ, ◌+◌, ◌<◌, Bool, List, [], ◌∷◌, ◌++◌, length, map, take, drop, get_or, set, refl, sym, ap, arith, append_assoc}
use Rattle.std.proofs.lemmas.List.{drop-map, drop-set-lt, drop_more, flat_map_more, length-append, length-map, take_more_set}
use Rattle.rt_task.specs.declared.Task.{Task}
use Rattle.trace_views.specs.Cells.{TaskCell}
use Rattle.chart_texts.specs.Charts.{Marked}
use Rattle.chart_cells.specs.Cells.{cell_shown, run_shown, runs_shown}
use Rattle.chart_cells.specs.declared.cells.Marks.{Marks}
use Rattle.chart_cells.specs.declared.cells.Run.{Run}
use Rattle.chart_rows.specs.RunCells.{cells_of_run, cells_of_runs, ends_of_run, ends_of_runs}
use Rattle.chart_feed.specs.Times as times
use Rattle.chart_feed.specs.Times.{marks_in}
use Rattle.chart_feed.specs.declared.times.Edges.{Edges}
use Rattle.chart_feed.specs.inside.Marked.{edges_shown, marked_in}

module _ (task : Task) (arrivals ends : List ℕ) (clock : ℕ) where
  abbrev marked : List TaskCell → List Bool → List times.Edges → List Marked
  marked = marked_in task arrivals ends clock

  without-edges : (cs : List TaskCell) (bs : List Bool) → marked cs bs [] ≡ []
  without-edges [] bs = refl
  without-edges (c ∷ cs) [] = refl
  without-edges (c ∷ cs) (b ∷ bs) = refl

  -- those of some columns, and then those of the others
  marked-append : (cs : List TaskCell) (bs : List Bool) (more_cells : List TaskCell) (more_ends : List Bool) (es : List times.Edges) → length bs ≡ length cs
      → marked (cs ++ more_cells) (bs ++ more_ends) es ≡ marked cs bs es ++ marked more_cells more_ends (drop (length cs) es)
  marked-append [] [] more_cells more_ends es h = refl
  marked-append [] (b ∷ bs) more_cells more_ends es h = absurd (omega arith)
  marked-append (c ∷ cs) [] more_cells more_ends es h = absurd (omega arith)
  marked-append (c ∷ cs) (b ∷ bs) more_cells more_ends [] h = sym (without-edges more_cells more_ends)
  marked-append (c ∷ cs) (b ∷ bs) more_cells more_ends (e ∷ es) h =
      let first : Marked = record { cell = c; marks = marks_in task arrivals ends clock e b } in
      ap (λ ms. first ∷ ms) (marked-append cs bs more_cells more_ends es (omega arith))

  -- one run more has its marks
  pub run-marked : (runs : List Run) (i : ℕ) (d now : Run) (es : List Edges) (all : List Marked) → i < length runs
      → run_shown now ≡ marked (cells_of_run (get_or runs i d)) (ends_of_run (get_or runs i d)) (map edges_shown es)
      → runs_shown (take i runs) ++ marked (cells_of_runs (drop i runs)) (ends_of_runs (drop i runs)) (map edges_shown es) ≡ all
      → runs_shown (take (i + 1) (set runs i now)) ++ marked (cells_of_runs (drop (i + 1) (set runs i now))) (ends_of_runs (drop (i + 1) (set runs i now))) (map edges_shown (drop (length (get_or runs i d).marks.items) es)) ≡ all
  run-marked runs i d now es all low shown so_far =
      let r : Run = get_or runs i d in
      let rest : List Run = drop (i + 1) runs in
      let after : List times.Edges = map edges_shown (drop (length r.marks.items) es) in
      let left : drop i runs ≡ r ∷ rest = drop_more runs i d low in
      let cells_long : length (cells_of_run r) ≡ length r.marks.items = length-map r.marks.items (λ (m : Marks). cell_shown r.cell) in
      let ends_long : length (ends_of_run r) ≡ length (cells_of_run r) = length-map r.marks.items (λ (m : Marks). m.end) ∙ sym cells_long in
      let behind : drop (length (cells_of_run r)) (map edges_shown es) ≡ after = ap (λ n. drop n (map edges_shown es)) cells_long ∙ drop-map edges_shown (length r.marks.items) es in
      let whole : marked (cells_of_runs (drop i runs)) (ends_of_runs (drop i runs)) (map edges_shown es) ≡ run_shown now ++ marked (cells_of_runs rest) (ends_of_runs rest) after =
      ap (λ rs. marked (cells_of_runs rs) (ends_of_runs rs) (map edges_shown es)) left
      ∙ marked-append (cells_of_run r) (ends_of_run r) (cells_of_runs rest) (ends_of_runs rest) (map edges_shown es) ends_long
      ∙ ap (λ ms. ms ++ marked (cells_of_runs rest) (ends_of_runs rest) (drop (length (cells_of_run r)) (map edges_shown es))) (sym shown)
      ∙ ap (λ (xs : List times.Edges). run_shown now ++ marked (cells_of_runs rest) (ends_of_runs rest) xs) behind in
      let taken : runs_shown (take (i + 1) (set runs i now)) ≡ runs_shown (take i runs) ++ run_shown now = ap runs_shown (take_more_set runs i now low) ∙ sym (flat_map_more run_shown [] (take i runs) now) in
      let same_rest : drop (i + 1) (set runs i now) ≡ rest = drop-set-lt (i + 1) runs i now (omega arith) in
      (λ j. taken j ++ marked (cells_of_runs (same_rest j)) (ends_of_runs (same_rest j)) after)
      ∙ append_assoc (runs_shown (take i runs)) (run_shown now) _ ∙ ap (λ ms. runs_shown (take i runs) ++ ms) (sym whole) ∙ so_far

-- and the columns that are left are fewer by its own
pub run-counted : (runs : List Run) (i : ℕ) (d now : Run) → i < length runs
    → length (cells_of_runs (drop i runs)) ≡ length (get_or runs i d).marks.items + length (cells_of_runs (drop (i + 1) (set runs i now)))
run-counted runs i d now low =
    let r : Run = get_or runs i d in
    let rest : List Run = drop (i + 1) runs in
    let same_rest : drop (i + 1) (set runs i now) ≡ rest = drop-set-lt (i + 1) runs i now (omega arith) in
    ap (λ rs. length (cells_of_runs rs)) (drop_more runs i d low) ∙ length-append (cells_of_run r) (cells_of_runs rest)
    ∙ (λ j. length-map r.marks.items (λ (m : Marks). cell_shown r.cell) j + length (cells_of_runs (sym same_rest j)))
