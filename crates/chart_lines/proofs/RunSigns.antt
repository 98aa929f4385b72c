-- The signs of what is held in the columns of a run.
use Rattle.std.proofs.Common.{◌≡◌, ℕ, ◌+◌, ◌<◌, List, [], ◌∷◌, length, map, flat_map, drop, ap, arith}
use Rattle.std.proofs.lemmas.List.{drop_more}
use Rattle.chart_texts.specs.TaskLines as spec
use Rattle.chart_cells.specs.Cells.{column_shown, sem_numbers}
use Rattle.chart_cells.specs.declared.cells.Cell.{Cell}
use Rattle.chart_cells.specs.declared.cells.Marks.{Marks}

-- those of a column are before those of the rest
pub held-more : (cell : Cell) (ms : List Marks) (i : ℕ) → i < length ms
    → flat_map spec.held_signs (map (column_shown cell) (drop i ms)) ≡ spec.held_sign (sem_numbers cell.held.items) ∷ 32 ∷ flat_map spec.held_signs (map (column_shown cell) (drop (i + 1) ms))
held-more cell [] i low = absurd (omega arith)
held-more cell (m ∷ ms) i low = ap (λ ns. flat_map spec.held_signs (map (column_shown cell) ns)) (drop_more (m ∷ ms) i m low)
