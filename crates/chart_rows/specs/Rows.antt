-- What is kept of the rows of a chart: their cells in the columns that are over, and what there is of the column that goes on.
use Rattle.std.specs.List.{list_any}
use Rattle.std.specs.Prelude.{ℕ, Bool, false, ◌&&◌, ◌||◌, ◌==◌, List, [], ◌∷◌, ◌++◌, map, filter, Option, None, Some, unwrap_or, if◌then◌else◌}
use Rattle.rt_rules.specs.Numbers.{is}
use Rattle.rt_model.specs.Group.{Group, clients, group_processors, tasks}
use Rattle.rt_model.specs.Past.{Past}
use Rattle.rt_model.specs.Reservations.{left}
use Rattle.trace_views.specs.Cells.{CpuCell, Playing, TaskCell, cell_at, cell_away, cpu_cell, is_client, resv_cell, runs_no_unit, task_cell}
use Rattle.trace_views.specs.Cells as cells
use Rattle.trace_views.specs.Moments.{Moment, is_unit}
use Rattle.chart_texts.specs.Charts.{group_resvs}
use Rattle.chart_cells.specs.Kept.{finished, kept_cell, later, state_cell, with_unit}
use Rattle.chart_cells.specs.KeptFirst.{cpu_at_end, cpu_at_unit, kept_cpu, kept_left}
use Rattle.chart_cells.specs.KeptFirstLaws.{unless_kept}
use Rattle.chart_rows.specs.Strips.{Strip, column_of}

-- of a task, with whether a job of it ended in each column
pub record TaskKept : Type 0 where
  pub task : ℕ
  pub cells : List TaskCell
  pub ends : List Bool
  pub kept : TaskCell
  pub end : Bool

pub record CpuKept : Type 0 where
  pub cpu : ℕ
  pub cells : List CpuCell
  pub kept : Option CpuCell

pub record ResvKept : Type 0 where
  pub resv : ℕ
  pub left : List ℕ
  pub kept : Option ℕ

pub record RowsKept : Type 0 where
  pub tasks : List TaskKept
  pub cpus : List CpuKept
  pub resvs : List ResvKept

abbrev pub resvs_listed : List ResvKept → List ℕ
resvs_listed ks = map (λ (k : ResvKept). k.resv) ks

-- what a processor does in a column that is over
pub record Played : Type 0 where
  pub cpu : ℕ
  pub playing : Playing

-- the processors that run a task and do no unit
abbrev pub running : Group → ℕ → List Played → List ℕ
running g t ps = map (λ (p : Played). p.cpu) (filter (λ (p : Played). runs_no_unit g t p.playing) ps)

-- ---- of columns that are over, and one that goes on

abbrev pub ends_in : ℕ → Strip → Bool
ends_in t s = list_any (λ (m : Moment). is t m.act.ended) s.acts

module _ (g : Group) where
  abbrev pub task_kept : List Strip → Strip → ℕ → TaskKept
  task_kept ss s t = record {
    task = t;
    cells = map (λ x. task_cell g t (column_of x)) ss;
    ends = map (ends_in t) ss;
    kept = kept_cell g t (column_of s);
    end = ends_in t s;
  }

  abbrev pub cpu_kept : List Strip → Strip → ℕ → CpuKept
  cpu_kept ss s q = record { cpu = q; cells = map (λ x. cpu_cell g q (column_of x)) ss; kept = kept_cpu g q (column_of s) }

  abbrev pub resv_kept : List Strip → Strip → ℕ → ResvKept
  resv_kept ss s r = record { resv = r; left = map (λ x. resv_cell g r (column_of x)) ss; kept = kept_left g r (column_of s) }

  unfoldable pub rows_of : List Strip → Strip → RowsKept
  rows_of ss s = record {
    tasks = map (task_kept ss s) (tasks g);
    cpus = map (cpu_kept ss s) (group_processors g);
    resvs = map (resv_kept ss s) (group_resvs g);
  }

  -- ---- the last one has ended, and its cells are kept

  abbrev pub task_ended : List Strip → Strip → ℕ → TaskKept
  task_ended ss s t = record (task_kept ss s t) { kept = task_cell g t (column_of s) }

  abbrev pub cpu_ended : List Strip → Strip → ℕ → CpuKept
  cpu_ended ss s q = record (cpu_kept ss s q) { kept = Some (cpu_cell g q (column_of s)) }

  abbrev pub resv_ended : List Strip → Strip → ℕ → ResvKept
  resv_ended ss s r = record (resv_kept ss s r) { kept = Some (resv_cell g r (column_of s)) }

  unfoldable pub rows_ended : List Strip → Strip → RowsKept
  rows_ended ss s = record {
    tasks = map (task_ended ss s) (tasks g);
    cpus = map (cpu_ended ss s) (group_processors g);
    resvs = map (resv_ended ss s) (group_resvs g);
  }

  -- ---- a state more

  abbrev pub task_seen : Past → TaskKept → TaskKept
  task_seen x k = record k { kept = later k.kept (state_cell g k.task x) }

  abbrev pub rows_seen : Past → RowsKept → RowsKept
  rows_seen x v = record v { tasks = map (task_seen x) v.tasks }

  -- ---- an act more

  abbrev pub task_acted : Moment → TaskKept → TaskKept
  task_acted m k = record k {
    kept = if is_unit m && is k.task m.act.task then with_unit m.act.cpu (cell_at g cells.ready k.task m.before) k.kept else k.kept;
    end = is k.task m.act.ended || k.end;
  }

  abbrev pub cpu_acted : Moment → CpuKept → CpuKept
  cpu_acted m k = record k { kept = if is_unit m && m.act.cpu == k.cpu then unless_kept k.kept (cpu_at_unit g k.cpu m) else k.kept }

  abbrev pub resv_acted : Moment → ResvKept → ResvKept
  resv_acted m k = record k {
    kept = if is_unit m && is_client g (clients g k.resv) m.act.task then unless_kept k.kept (left g k.resv m.before) else k.kept;
  }

  abbrev pub rows_acted : Moment → RowsKept → RowsKept
  rows_acted m v = record { tasks = map (task_acted m) v.tasks; cpus = map (cpu_acted m) v.cpus; resvs = map (resv_acted m) v.resvs }

  -- ---- the column is over, in a state

  abbrev pub cpu_ends : Past → CpuKept → CpuCell
  cpu_ends x k = unwrap_or k.kept (cpu_at_end g k.cpu x)

  abbrev pub played : Past → CpuKept → Played
  played x k = record { cpu = k.cpu; playing = (cpu_ends x k).playing }

  -- what is kept of it is its cells

  abbrev pub task_finished : List Played → TaskKept → TaskKept
  task_finished ps k = record k { kept = finished (running g k.task ps) k.kept }

  abbrev pub cpu_finished : Past → CpuKept → CpuKept
  cpu_finished x k = record k { kept = Some (cpu_ends x k) }

  abbrev pub resv_finished : Past → ResvKept → ResvKept
  resv_finished x k = record k { kept = Some (unwrap_or k.kept (left g k.resv x)) }

  abbrev pub rows_finished : Past → RowsKept → RowsKept
  rows_finished x v = record {
    tasks = map (task_finished (map (played x) v.cpus)) v.tasks;
    cpus = map (cpu_finished x) v.cpus;
    resvs = map (resv_finished x) v.resvs;
  }

  -- and the next one is begun, without them, or with them behind the others

  abbrev pub task_cleared : TaskKept → TaskKept
  task_cleared k = record k { kept = cell_away g; end = false }

  abbrev pub task_put : TaskKept → TaskKept
  task_put k = record { task = k.task; cells = k.cells ++ k.kept ∷ []; ends = k.ends ++ k.end ∷ []; kept = cell_away g; end = false }

  abbrev pub task_closed : List Played → TaskKept → TaskKept
  task_closed ps k = record {
    task = k.task;
    cells = k.cells ++ finished (running g k.task ps) k.kept ∷ [];
    ends = k.ends ++ k.end ∷ [];
    kept = cell_away g;
    end = false;
  }

  abbrev pub cpu_closed : Past → CpuKept → CpuKept
  cpu_closed x k = record { cpu = k.cpu; cells = k.cells ++ cpu_ends x k ∷ []; kept = None }

  abbrev pub resv_closed : Past → ResvKept → ResvKept
  resv_closed x k = record { resv = k.resv; left = k.left ++ unwrap_or k.kept (left g k.resv x) ∷ []; kept = None }

  abbrev pub rows_closed : Past → RowsKept → RowsKept
  rows_closed x v = record {
    tasks = map (task_closed (map (played x) v.cpus)) v.tasks;
    cpus = map (cpu_closed x) v.cpus;
    resvs = map (resv_closed x) v.resvs;
  }
