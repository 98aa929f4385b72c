-- The rows of a group are as wide as the window, or as what there is of the group in it.
use Rattle.std.proofs.Common.{◌≡◌, ◌∙◌, ℕ, ◌-◌, ◌*◌, List, [], ◌∷◌, length, map, drop, refl, ap, arith, length-append, length-take, length-drop}
use Rattle.std.proofs.lemmas.List.{length-map}
use Rattle.std.proofs.lemmas.List.Elements.{All-cons, All-nil}
use Rattle.std.specs.Prelude.{All, flat_map}
use Rattle.rt_model.specs.Group.{Group, group_processors, tasks}
use Rattle.rt_model.specs.Past.{Past}
use Rattle.trace_views.specs.Columns.{Column}
use Rattle.chart_texts.specs.declared.window.Axis.{Axis}
use Rattle.chart_texts.specs.declared.window.Window.{Window}
use Rattle.chart_texts.specs.Charts.{CpuRow, ResvRow, TaskRow, cpu_row_in, group_resvs, panel_of, resv_row_in, task_row_in}
use Rattle.trace_views.specs.Cells.{CpuCell, Playing}
use Rattle.trace_views.specs.Cells as cells
use Rattle.chart_texts.specs.CpuLines.{budget_signs, cpu_signs, link_signs, playing_signs}
use Rattle.chart_texts.specs.TaskLines.{cell_signs, held_signs, mark_signs}
use Rattle.chart_texts.specs.WidthLaws.{IsWide, RowsFillWindow, shown_columns}
use Rattle.chart_texts.specs.Windows.{columns_in, columns_on, length_on}

-- two characters for each
doubled : {A : Type 0} (signs : A → List ℕ) → ((x : A) → length (signs x) ≡ 2) → (xs : List A) → length (flat_map signs xs) ≡ 2 * length xs
doubled signs two [] = refl
doubled signs two (x ∷ xs) = rw (length-append (signs x) (flat_map signs xs), two x, doubled signs two xs) (omega arith)

twice : {A : Type 0} (signs : A → List ℕ) → ((x : A) → length (signs x) ≡ 2) → (xs : List A) (n : ℕ) → length xs ≡ n → length (flat_map signs xs) ≡ 2 * n
twice signs two xs n h = doubled signs two xs ∙ ap (λ m. 2 * m) h

mapped : {A B : Type 0} (f : A → B) (xs : List A) (n : ℕ) → length xs ≡ n → length (map f xs) ≡ n
mapped f xs n h = length-map xs f ∙ h

-- what is so of each row that is made is so of all
all_made : {A B : Type 0} (P : B → Type 0) (f : A → B) → ((x : A) → P (f x)) → (xs : List A) → All P (map f xs)
all_made P f h [] = All-nil P
all_made P f h (x ∷ xs) = All-cons P (f x) (map f xs) (h x) (all_made P f h xs)

shown-length : (axis : Axis) (w : Window) (past : Past) → length (columns_in axis w past) ≡ shown_columns axis w past
unfolding columns_in length_on
shown-length axis w past = rw (length-take (w.to - w.from) (drop w.from (columns_on axis past)), length-drop w.from (columns_on axis past)) refl

two_signs : (c : CpuCell) → length (cpu_signs c) ≡ 2
two_signs c = by_playing c.playing
  where
    by_playing : (p : Playing) → length (playing_signs p) ≡ 2
    by_playing (cells.works_for t) = refl
    by_playing (cells.runs_task t) = refl
    by_playing cells.idle = refl

task_cells : (g : Group) (cs : List Column) (past : Past) (n : ℕ) → length cs ≡ n → (t : ℕ) → length (task_row_in g past cs t).cells ≡ n
unfolding task_row_in
task_cells g cs past n h t = mapped _ cs n h

cpu_cells : (g : Group) (cs : List Column) (n : ℕ) → length cs ≡ n → (q : ℕ) → length (cpu_row_in g cs q).cells ≡ n
unfolding cpu_row_in
cpu_cells g cs n h q = mapped _ cs n h

resv_cells : (g : Group) (cs : List Column) (n : ℕ) → length cs ≡ n → (r : ℕ) → length (resv_row_in g cs r).left ≡ n
unfolding resv_row_in
resv_cells g cs n h r = mapped _ cs n h

wide : (g : Group) (cs : List Column) (past : Past) (n : ℕ) → length cs ≡ n → IsWide n (panel_of g cs past)
unfolding panel_of
wide g cs past n h = record {
  labels = mapped _ cs n h;
  clocks = mapped _ cs n h;
  tasks = all_made (λ (r : TaskRow). length r.cells ≡ n) (task_row_in g past cs) (task_cells g cs past n h) (tasks g);
  marks = all_made (λ (r : TaskRow). length (flat_map mark_signs r.cells) ≡ 2 * n) (task_row_in g past cs) (λ t. twice mark_signs (λ c. refl) _ n (task_cells g cs past n h t)) (tasks g);
  cells = all_made (λ (r : TaskRow). length (flat_map cell_signs r.cells) ≡ 2 * n) (task_row_in g past cs) (λ t. twice cell_signs (λ c. refl) _ n (task_cells g cs past n h t)) (tasks g);
  held = all_made (λ (r : TaskRow). length (flat_map held_signs r.cells) ≡ 2 * n) (task_row_in g past cs) (λ t. twice held_signs (λ c. refl) _ n (task_cells g cs past n h t)) (tasks g);
  cpus = all_made (λ (r : CpuRow). length (flat_map cpu_signs r.cells) ≡ 2 * n) (cpu_row_in g cs) (λ q. twice cpu_signs two_signs _ n (cpu_cells g cs n h q)) (group_processors g);
  links = all_made (λ (r : CpuRow). length (flat_map link_signs r.cells) ≡ 2 * n) (cpu_row_in g cs) (λ q. twice link_signs (λ c. refl) _ n (cpu_cells g cs n h q)) (group_processors g);
  resvs = all_made (λ (r : ResvRow). length (flat_map budget_signs r.left) ≡ 2 * n) (resv_row_in g cs) (λ r. twice budget_signs (λ c. refl) _ n (resv_cells g cs n h r)) (group_resvs g);
}

pub rows_fill_window_lem : RowsFillWindow
rows_fill_window_lem g axis w past = wide g (columns_in axis w past) past _ (shown-length axis w past)
