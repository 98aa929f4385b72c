-- Worked examples: columns by ticks and by entries, with the cells and marks in them.
use Rattle.std.specs.Prelude.{◌≡◌, ℕ, Bool, true, false, List, [], ◌∷◌, map, Some, refl, ◌==◌}
use Rattle.rt_model.specs.worked.Computed.{computed}
use Rattle.trace_views.specs.Cells.{Doing, TaskCell, cpu_cell, task_cell}
use Rattle.trace_views.specs.Cells as cells
use Rattle.trace_views.specs.Columns.{Column, entry_columns, tick_columns}
use Rattle.trace_views.specs.worked.Computed.{shown}
use Rattle.trace_views.specs.Marks.{Marks, marks}
use Rattle.trace_views.specs.Spans.{Span, spans}
use Rattle.trace_views.specs.worked.Tables.{behind, behind_past, preempted, preempted_past}

abbrev pub doings : List TaskCell → List Doing
doings cs = map (λ (c : TaskCell). c.doing) cs

-- by ticks the preempted job is there in the tick in which the other one works
pub preempted_ticks : doings (map (task_cell preempted 2) (tick_columns preempted_past)) ≡
    cells.works (0 ∷ []) ∷ cells.ready ∷ cells.works (0 ∷ []) ∷ cells.works (0 ∷ []) ∷ []
unfolding computed shown
preempted_ticks = refl

pub other_ticks : doings (map (task_cell preempted 1) (tick_columns preempted_past)) ≡
    cells.away ∷ cells.works (0 ∷ []) ∷ cells.away ∷ cells.away ∷ []
unfolding computed shown
other_ticks = refl

-- the processor works for the one, for the other and again for the one, and its link is that task
pub processor_ticks : map (cpu_cell preempted 0) (tick_columns preempted_past) ≡
    record { playing = cells.works_for 2; link = Some 2 } ∷
    record { playing = cells.works_for 1; link = Some 1 } ∷
    record { playing = cells.works_for 2; link = Some 2 } ∷
    record { playing = cells.works_for 2; link = Some 2 } ∷
    []
unfolding computed shown
processor_ticks = refl

-- by entries it runs before it works, until the interrupt that takes the processor away
pub preempted_entries : doings (map (task_cell preempted 2) (entry_columns preempted_past)) ≡
    cells.running (0 ∷ []) ∷ cells.works (0 ∷ []) ∷ cells.running (0 ∷ []) ∷ cells.ready ∷ cells.ready ∷
    cells.ready ∷ cells.running (0 ∷ []) ∷ cells.works (0 ∷ []) ∷ cells.works (0 ∷ []) ∷ cells.ready ∷ []
unfolding computed shown
preempted_entries = refl

-- a column of entries begins where the one before it ends, and reaches to the clock of the next entry
abbrev pub clocks : Column → ℕ × ℕ × ℕ
clocks c = (c.first, c.high, c.next)

pub behind_columns : map clocks (entry_columns behind_past) ≡
    (0, 0, 6) ∷ (1, 6, 7) ∷ (7, 7, 16) ∷ (8, 16, 17) ∷ []
unfolding computed shown
behind_columns = refl

-- its first job is released at 0 and ends after its deadline, which is 5; the second is released at 10 and misses its deadline, 15
abbrev pub marked : Bool → Bool → Bool → Bool → Marks
marked release deadline missed end = record { release = release; deadline = deadline; missed = missed; end = end }

pub behind_marks : map (marks behind behind_past 1) (entry_columns behind_past) ≡
    marked true true true false ∷
    marked false false false false ∷
    marked false true true true ∷
    marked true false false false ∷
    []
unfolding computed shown
behind_marks = refl

-- spans are the longest runs of equal values
abbrev pub span : ℕ → ℕ → ℕ → Span ℕ
span from to value = record { from = from; to = to; value = value }

pub three_spans : spans (λ m n. m == n) (7 ∷ 7 ∷ 4 ∷ 7 ∷ []) ≡ span 0 2 7 ∷ span 2 3 4 ∷ span 3 4 7 ∷ []
three_spans = refl
