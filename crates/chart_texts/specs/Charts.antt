-- What a chart shows: of each group the columns in the window, and what its tasks, processors and reservations do in them.
use Rattle.std.specs.Prelude.{ℕ, ◌+◌, List, [], ◌∷◌, length, map, filter, fold, max}
use Rattle.rt_task.specs.declared.Parts.{Parts}
use Rattle.rt_rules.specs.declared.history.Entry.{Entry}
use Rattle.rt_rules.specs.Numbers.{numbers_from}
use Rattle.rt_model.specs.Group.{Group, in_group, group_processors, resv, tasks}
use Rattle.rt_model.specs.Histories.{past_of}
use Rattle.rt_model.specs.Past.{Past, now}
use Rattle.trace_views.specs.Cells.{CpuCell, TaskCell, cpu_cell, resv_cell, task_cell}
use Rattle.trace_views.specs.Columns.{Column}
use Rattle.trace_views.specs.Marks.{Marks, marks}
use Rattle.chart_texts.specs.declared.window.Axis.{Axis}
use Rattle.chart_texts.specs.declared.window.Window.{Window}
use Rattle.chart_texts.specs.Windows.{columns_in, length_on}

-- what a task does in a column, and its marks there
pub record Marked : Type 0 where
  pub cell : TaskCell
  pub marks : Marks

-- the rows of a task, a processor and a reservation: its number, and what it does in each column
pub record TaskRow : Type 0 where
  pub task : ℕ
  pub cells : List Marked

pub record CpuRow : Type 0 where
  pub cpu : ℕ
  pub cells : List CpuCell

pub record ResvRow : Type 0 where
  pub resv : ℕ
  pub left : List ℕ

-- a group: of each column its label and the last of its clocks; the clock at the end; and the rows
pub record Panel : Type 0 where
  pub group : ℕ
  pub labels : List ℕ
  pub clocks : List ℕ
  pub last : ℕ
  pub tasks : List TaskRow
  pub cpus : List CpuRow
  pub resvs : List ResvRow

-- how long the longest group is, and the groups
pub record Chart : Type 0 where
  pub length : ℕ
  pub panels : List Panel

module _ (g : Group) where
  -- the reservations of the group's clusters, by rising number
  unfoldable pub group_resvs : List ℕ
  group_resvs = filter (λ r. in_group g (resv g r).cluster.0) (numbers_from 1 (length g.setup.resvs))

  unfoldable pub task_row_in : Past → List Column → ℕ → TaskRow
  task_row_in past cs t = record {
    task = t;
    cells = map (λ c. record { cell = task_cell g t c; marks = marks g past t c }) cs;
  }

  unfoldable pub cpu_row_in : List Column → ℕ → CpuRow
  cpu_row_in cs q = record { cpu = q; cells = map (cpu_cell g q) cs }

  unfoldable pub resv_row_in : List Column → ℕ → ResvRow
  resv_row_in cs r = record { resv = r; left = map (resv_cell g r) cs }

  unfoldable pub panel_of : List Column → Past → Panel
  panel_of cs past = record {
    group = g.number;
    labels = map (λ (c : Column). c.label) cs;
    clocks = map (λ (c : Column). c.high) cs;
    last = now past;
    tasks = map (task_row_in past cs) (tasks g);
    cpus = map (cpu_row_in cs) (group_processors g);
    resvs = map (resv_row_in cs) group_resvs;
  }

-- the groups of a setup from a number on, each with its past
abbrev pub pasts_from : Parts → ℕ → List (List Entry) → List (Group × Past)
pasts_from p n [] = []
pasts_from p n (es ∷ hs) = let g : Group = record { setup = p; number = n } in (g, past_of g es) ∷ pasts_from p (n + 1) hs

unfoldable pub longest_on : Axis → List (Group × Past) → ℕ
longest_on axis gs = fold max 0 (map (λ (x : Group × Past). length_on axis x.1) gs)

unfoldable pub chart_of : Axis → Window → List (Group × Past) → Chart
chart_of axis w gs = record {
  length = longest_on axis gs;
  panels = map (λ (x : Group × Past). panel_of x.0 (columns_in axis w x.1) x.1) gs;
}
