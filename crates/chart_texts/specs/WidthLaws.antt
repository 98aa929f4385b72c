-- The law of widths: each row of a group has a cell for each column of it in the window, and two characters for each cell.
use Rattle.std.specs.Prelude.{◌≡◌, ℕ, ◌-◌, ◌*◌, length, min, flat_map, All}
use Rattle.rt_model.specs.Group.{Group}
use Rattle.rt_model.specs.Past.{Past}
use Rattle.chart_texts.specs.declared.window.Axis.{Axis}
use Rattle.chart_texts.specs.declared.window.Window.{Window}
use Rattle.chart_texts.specs.Charts.{CpuRow, Panel, ResvRow, TaskRow, panel_of}
use Rattle.chart_texts.specs.CpuLines.{link_signs, budget_signs, cpu_signs}
use Rattle.chart_texts.specs.TaskLines.{cell_signs, held_signs, mark_signs}
use Rattle.chart_texts.specs.Windows.{columns_in, length_on}

-- how many columns of a group are in the window
abbrev pub shown_columns : Axis → Window → Past → ℕ
shown_columns axis w past = min (w.to - w.from) (length_on axis past - w.from)

-- the rows have so many cells, with two characters for each
pub record IsWide (n : ℕ) (p : Panel) : Type 0 where
  pub labels : length p.labels ≡ n
  pub clocks : length p.clocks ≡ n
  pub tasks : All (λ (r : TaskRow). length r.cells ≡ n) p.tasks
  pub marks : All (λ (r : TaskRow). length (flat_map mark_signs r.cells) ≡ 2 * n) p.tasks
  pub cells : All (λ (r : TaskRow). length (flat_map cell_signs r.cells) ≡ 2 * n) p.tasks
  pub held : All (λ (r : TaskRow). length (flat_map held_signs r.cells) ≡ 2 * n) p.tasks
  pub cpus : All (λ (r : CpuRow). length (flat_map cpu_signs r.cells) ≡ 2 * n) p.cpus
  pub links : All (λ (r : CpuRow). length (flat_map link_signs r.cells) ≡ 2 * n) p.cpus
  pub resvs : All (λ (r : ResvRow). length (flat_map budget_signs r.left) ≡ 2 * n) p.resvs

-- Each row is as wide as the window, or as what there is of the group in it.
abbrev pub RowsFillWindow : Type 0
RowsFillWindow = (g : Group) (axis : Axis) (w : Window) (past : Past)
    → IsWide (shown_columns axis w past) (panel_of g (columns_in axis w past) past)
