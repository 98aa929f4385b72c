-- The columns of a window that are over, and rows of a group whose columns are over.
use Rattle.std.specs.Prelude.{◌≡◌, ℕ, suc, ◌+◌, ◌-◌, ◌<◌, ◌≤◌, List, length, map, All, slice_index_or}
use Rattle.rt_base.specs.declared.TheConstants.{TICK_END}
use Rattle.rt_task.specs.declared.Task.{Task}
use Rattle.rt_model.specs.Group.{Group, no_task}
use Rattle.rt_model.specs.Past.{Past, now}
use Rattle.trace_views.specs.Columns.{Column}
use Rattle.chart_texts.specs.declared.window.Axis.{Axis}
use Rattle.chart_texts.specs.declared.window.Window.{Window}
use Rattle.chart_texts.specs.Windows.{columns_in}
use Rattle.chart_rows.specs.Rows.{CpuKept, ResvKept, RowsKept, TaskKept, cpu_kept, resv_kept, rows_of}
use Rattle.chart_rows.specs.Strips.{blank, strip_of}
use Rattle.chart_feed.specs.Clocks.{ClocksKept, Keeps, clocks_at}
use Rattle.chart_feed.specs.Finished.{EndsInAct, IsFinished}
use Rattle.chart_feed.specs.inside.Marked.{edges_shown}
use Rattle.chart_feed.specs.Times.{edges_of}
use Rattle.chart_feed.specs.Times as times
use Rattle.chart_feed.specs.declared.window_columns.Columns.{Columns}
use Rattle.chart_feed.specs.declared.times.Edges.{Edges}

-- the labels, the last clocks and the edges are those of these columns, and within the limits
pub record AreColumns (cs : List Column) (c : Columns) : Type 0 where
  pub labels_are : c.labels.items ≡ map (λ (x : Column). x.label) cs
  pub clocks_are : c.clocks.items ≡ map (λ (x : Column). x.high) cs
  pub edges_are : map edges_shown c.edges.items ≡ map edges_of cs
  pub edges_low : All (λ (e : Edges). (e.first < TICK_END + 1) × (e.high < TICK_END + 1)) c.edges.items

module _ (g : Group) where
  abbrev pub IsCpuRow : List Column → CpuKept → Type 0
  IsCpuRow cs row = row ≡ cpu_kept g (map strip_of cs) blank row.cpu

  abbrev pub IsResvRow : List Column → ResvKept → Type 0
  IsResvRow cs row = row ≡ resv_kept g (map strip_of cs) blank row.resv

  -- a row of one of these tasks, whose clocks are in this list
  pub record IsTaskRow (past : Past) (cs : List Column) (ts : List Task) (ks : List ClocksKept) (clock : ℕ)
      (edges : List times.Edges) (row : TaskKept) : Type 0 where
    pub from_one : 1 ≤ row.task
    pub within : row.task ≤ length ts
    pub kept : row.task < length ks
    pub deadline : (slice_index_or ts (row.task - 1) no_task).rel_deadline < TICK_END
    pub finished : IsFinished g past cs row (slice_index_or ts (row.task - 1) no_task) (clocks_at ks row.task) clock edges

  -- all that a panel is made of, after whole steps
  pub record CanShow (axis : Axis) (w : Window) (past : Past) (clock : ℕ) (c : Columns) (rows : RowsKept) (ks : List ClocksKept) :
      Type 0 where
    pub clock_is : clock ≡ now past
    pub whole : EndsInAct past
    pub columns_are : AreColumns (columns_in axis w past) c
    pub rows_are : rows ≡ rows_of g (map strip_of (columns_in axis w past)) blank
    pub tasks_there : length ks ≡ suc (length g.setup.tasks)
    pub clocks_are : Keeps ks past
