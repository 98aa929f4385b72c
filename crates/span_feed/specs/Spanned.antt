-- The tracks of a group over columns that are over, without the marks of jobs, and what one column more makes of them.
use Rattle.std.specs.Prelude.{◌≡◌, ℕ, List, [], ◌∷◌, map, Option, None, Some}
use Rattle.rt_model.specs.Group as groups
use Rattle.rt_model.specs.Group.{Group, group_processors}
use Rattle.trace_views.specs.Cells.{CpuCell, cpu_cell, resv_cell, task_cell}
use Rattle.trace_views.specs.Spans as runs
use Rattle.chart_texts.specs.Charts.{group_resvs}
use Rattle.chart_rows.specs.Rows.{CpuKept, ResvKept, RowsKept, TaskKept, rows_ended, rows_of}
use Rattle.chart_rows.specs.Strips.{Strip, column_of}
use Rattle.event_texts.specs.Budgets.{same_count}
use Rattle.event_texts.specs.CpuSpans as cpu_texts
use Rattle.event_texts.specs.TaskSpans as task_texts
use Rattle.event_lines.specs.Tracks.{CpuTrack, GroupTracks, ResvTrack, TaskTrack}
use Rattle.span_feed.specs.Extended.{extended}

module _ (g : Group) where
  abbrev pub task_spanned : List Strip → ℕ → TaskTrack
  task_spanned ss t =
      record { task = t; spans = runs.spans task_texts.same_cell (map (λ x. task_cell g t (column_of x)) ss); jobs = [] }

  abbrev pub cpu_spanned : List Strip → ℕ → CpuTrack
  cpu_spanned ss q = record { cpu = q; spans = runs.spans cpu_texts.same_cell (map (λ x. cpu_cell g q (column_of x)) ss) }

  abbrev pub resv_spanned : List Strip → ℕ → ResvTrack
  resv_spanned ss r = record { resv = r; spans = runs.spans same_count (map (λ x. resv_cell g r (column_of x)) ss) }

  unfoldable pub spanned : List Strip → GroupTracks
  spanned ss = record {
    group = g.number;
    tasks = map (task_spanned ss) (groups.tasks g);
    cpus = map (cpu_spanned ss) (group_processors g);
    resvs = map (resv_spanned ss) (group_resvs g);
  }

  -- rows of the column that goes on, and of one that has ended, beside tracks over the columns before it
  pub record HasSpans (over : List Strip) (going : Strip) (rows : RowsKept) (tracks : GroupTracks) : Type 0 where
    pub rows_are : rows ≡ rows_of g [] going
    pub tracks_are : tracks ≡ spanned over

  pub record HasEnded (over : List Strip) (ended : Strip) (rows : RowsKept) (tracks : GroupTracks) : Type 0 where
    pub rows_are : rows ≡ rows_ended g [] ended
    pub tracks_are : tracks ≡ spanned over

-- tracks without the marks of jobs
abbrev pub unmarked : GroupTracks → GroupTracks
unmarked x = record x { tasks = map (λ (t : TaskTrack). record t { jobs = [] }) x.tasks }

-- ---- what is kept of the column that has ended is taken out of a row

abbrev pub cpu_cleared : CpuKept → CpuKept
cpu_cleared k = record k { kept = None }

abbrev pub resv_cleared : ResvKept → ResvKept
resv_cleared k = record k { kept = None }

-- ---- and put behind the spans, for the ticks from one on up to another

module _ (from to : ℕ) where
  abbrev pub with_cpu_cell : Option CpuCell → CpuTrack → CpuTrack
  with_cpu_cell None x = x
  with_cpu_cell (Some c) x = record x { spans = extended cpu_texts.same_cell from to c x.spans }

  abbrev pub with_left : Option ℕ → ResvTrack → ResvTrack
  with_left None x = x
  with_left (Some n) x = record x { spans = extended same_count from to n x.spans }

  abbrev pub task_more : TaskKept → TaskTrack → TaskTrack
  task_more k x = record x { spans = extended task_texts.same_cell from to k.kept x.spans }

  abbrev pub cpu_more : CpuKept → CpuTrack → CpuTrack
  cpu_more k x = with_cpu_cell k.kept x

  abbrev pub resv_more : ResvKept → ResvTrack → ResvTrack
  resv_more k x = with_left k.kept x

-- each value changed by the one beside it
abbrev pub paired : {A B : Type 0} → (A → B → B) → List A → List B → List B
paired f [] ys = ys
paired f (x ∷ xs) [] = []
paired f (x ∷ xs) (y ∷ ys) = f x y ∷ paired f xs ys
