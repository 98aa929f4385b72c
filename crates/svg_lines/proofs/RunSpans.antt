-- The spans of a lane, found run by run.
use Rattle.std.proofs.Common.{◌≡◌, ◌∙◌, ℕ, zero, suc, ◌+◌, ◌<◌, ◌≤◌, false, List, [], ◌∷◌, ◌++◌, length, map, drop, get_or, replicate, refl, sym, ap, subst, arith, append_assoc}
use Rattle.std.proofs.lemmas.List.{drop_all, drop_more, map-append, nil_from_length, replicate-append-replicate}
use Rattle.std.proofs.lemmas.Simd.{map-map}
use Rattle.chart_texts.specs.Charts as charts
use Rattle.chart_cells.specs.Cells.{cell_shown, column_shown, run_shown, runs_shown}
use Rattle.chart_cells.specs.declared.cells.Marks.{Marks}
use Rattle.chart_cells.specs.declared.cells.Run.{Run}
use Rattle.svg_texts.specs.Parts.{Part, same_part}
use Rattle.svg_lines.specs.Shown.{lane_part, run_parts, runs_parts, task_part_of}
use Rattle.svg_lines.specs.declared.parts.TaskLane.{TaskLane}
use Rattle.svg_lines.proofs.Runs.{Ends}

constant : {A : Type 0} (xs : List A) (v : Part) → map (λ (x : A). v) xs ≡ replicate (length xs) v
constant [] v = refl
constant (x ∷ xs) v = ap (λ vs. v ∷ vs) (constant xs v)

module _ (lane : TaskLane) where
  -- the columns of a run show one part
  pub all-same : (r : Run) (x : Part) → x ≡ lane_part lane r.cell → run_parts lane r ≡ replicate (length r.marks.items) x
  all-same r x is = constant r.marks.items (lane_part lane r.cell) ∙ ap (λ v. replicate (length r.marks.items) v) (sym is)

  pub none-shown : (r : Run) (x : Part) → length r.marks.items ≡ 0 → run_parts lane r ≡ replicate (length r.marks.items) x
  none-shown r x none = ap (λ (ms : List Marks). map (λ (m : Marks). lane_part lane r.cell) ms) (nil_from_length r.marks.items none) ∙ sym (ap (λ n. replicate n x) none)

  -- one run more shows the same
  pub run-more : (rs : List Run) (i : ℕ) (d : Run) (x : Part) (n m k : ℕ) (xs : List Part) → i < length rs → k ≡ n + m → run_parts lane (get_or rs i d) ≡ replicate m x
      → xs ≡ replicate n x ++ runs_parts lane (drop i rs) → xs ≡ replicate k x ++ runs_parts lane (drop (i + 1) rs)
  run-more rs i d x n m k xs low number same so_far =
      let rest : List Part = runs_parts lane (drop (i + 1) rs) in
      so_far
      ∙ ap (λ zs. replicate n x ++ zs) (ap (runs_parts lane) (drop_more rs i d low) ∙ ap (λ zs. zs ++ rest) same)
      ∙ sym (append_assoc (replicate n x) (replicate m x) rest)
      ∙ ap (λ zs. zs ++ rest) (replicate-append-replicate n m x ∙ ap (λ j. replicate j x) (sym number))

  pub run-first : (rs : List Run) (i : ℕ) (d : Run) (k : ℕ) → i < length rs → k ≡ length (get_or rs i d).marks.items
      → runs_parts lane (drop i rs) ≡ replicate k (lane_part lane (get_or rs i d).cell) ++ runs_parts lane (drop (i + 1) rs)
  run-first rs i d k low number =
      let r : Run = get_or rs i d in
      run-more rs i d (lane_part lane r.cell) 0 (length r.marks.items) k (runs_parts lane (drop i rs)) low (omega (arith, number)) (all-same r (lane_part lane r.cell) refl) refl

  -- a run without columns shows nothing
  pub run-passed : (rs : List Run) (i : ℕ) (d : Run) → i < length rs → length (get_or rs i d).marks.items ≡ 0 → runs_parts lane (drop (i + 1) rs) ≡ runs_parts lane (drop i rs)
  run-passed rs i d low none = sym (run-first rs i d 0 low (sym none))

  begins : (ms : List Marks) (x v : Part) (rest : List Part) → 0 < length ms → same_part x v ≡ false → Ends x (map (λ (m : Marks). v) ms ++ rest)
  begins [] x v rest some differ = absurd (omega arith)
  begins (m ∷ ms) x v rest some differ = differ

  -- what a span ends before
  pub ends-at : (rs : List Run) (i : ℕ) (d : Run) (x : Part) → i < length rs → 0 < length (get_or rs i d).marks.items → same_part x (lane_part lane (get_or rs i d).cell) ≡ false → Ends x (runs_parts lane (drop i rs))
  ends-at rs i d x low some differ =
      let r : Run = get_or rs i d in
      subst (λ ps. Ends x ps) (sym (ap (runs_parts lane) (drop_more rs i d low))) (begins r.marks.items x (lane_part lane r.cell) (runs_parts lane (drop (i + 1) rs)) some differ)

  pub ends-behind : (rs : List Run) (i : ℕ) (x : Part) → length rs ≤ i → Ends x (runs_parts lane (drop i rs))
  ends-behind rs i x over = subst (λ ps. Ends x ps) (sym (ap (runs_parts lane) (drop_all i rs over))) tt

  -- the parts of the columns that are shown
  pub parts-shown : (rs : List Run) → runs_parts lane rs ≡ map (λ (m : charts.Marked). task_part_of lane m.cell) (runs_shown rs)
  parts-shown [] = refl
  parts-shown (r ∷ rs) =
      (λ i. sym (map-map (λ (m : charts.Marked). task_part_of lane m.cell) (column_shown r.cell) r.marks.items) i ++ parts-shown rs i)
      ∙ sym (map-append (λ (m : charts.Marked). task_part_of lane m.cell) (run_shown r) (runs_shown rs))
