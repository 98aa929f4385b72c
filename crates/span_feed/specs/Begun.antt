-- Rows of a column that is begun: blank, but that the cell of a task that is known to be ready may be left in its row from the column
-- before, since the next state shows the same.
use Rattle.std.specs.Prelude.{◌≡◌, ◌≢◌, ◌⊎◌, ℕ, List, map, All, Option, None, Some, slice_index_or}
use Rattle.rt_model.specs.Group.{Group}
use Rattle.trace_views.specs.Cells as cells
use Rattle.chart_cells.specs.Kept.{finished}
use Rattle.chart_rows.specs.ReadyJobs.{ready_cell}
use Rattle.chart_rows.specs.Rows.{RowsKept, TaskKept, task_cleared}
use Rattle.chart_rows.specs.Strips.{Strip, blank}
use Rattle.chart_rows.specs.declared.ready_jobs.ReadyJob.{ReadyJob}
use Rattle.event_lines.specs.Tracks.{GroupTracks}
use Rattle.span_feed.specs.Lane.{LastIs, TaskLane, gone}
use Rattle.span_feed.specs.Spanned.{HasSpans}
use Rattle.span_feed.specs.declared.stay.Stay.{Stay}
use Rattle.span_feed.specs.declared.stay.Stay.TheVariants.{Away, Rests}

module _ (g : Group) where
  -- what the end of a column leaves of a row, where this job of its task is known
  abbrev pub IsLeft : Option ReadyJob → TaskKept → TaskKept → Type 0
  IsLeft known old new =
      (new ≡ task_cleared g old) ⊎ ((j : ReadyJob) × (known ≡ Some j) × (new ≡ (let k : TaskKept = record (task_cleared g old) { kept = ready_cell j } in k)))

  abbrev pub IsBegun : List (Option ReadyJob) → TaskKept → Type 0
  IsBegun js k = IsLeft (slice_index_or js k.task None) k k

  abbrev pub rows_cleared : RowsKept → RowsKept
  rows_cleared v = record v { tasks = map (task_cleared g) v.tasks }

  pub record HasBegun (js : List (Option ReadyJob)) (over : List Strip) (rows : RowsKept) (tracks : GroupTracks) : Type 0 where
    pub spans : HasSpans g over blank (rows_cleared rows) tracks
    pub begun : All (IsBegun js) rows.tasks

-- a row shows its task ready, where that is known; and so it does once its column is over, unless processors run the task
abbrev pub IsShown : List (Option ReadyJob) → TaskKept → Type 0
IsShown js k = (j : ReadyJob) → slice_index_or js k.task None ≡ Some j → k.kept ≡ ready_cell j

abbrev pub IsRunOrReady : Option ReadyJob → TaskKept → Type 0
IsRunOrReady known k = (j : ReadyJob) → known ≡ Some j → (qs : List ℕ) × (k.kept ≡ finished qs (ready_cell j))

-- a task comes to rest, with the cell of its job left in its row, or not
abbrev pub IsHeld : Option ReadyJob → Stay → TaskKept → TaskKept → Type 0
IsHeld known stays k new =
    ((new ≡ k) × ((j : ReadyJob) → stays ≢ Rests j))
    ⊎ ((j : ReadyJob) × (known ≡ Some j) × (stays ≡ Rests j) × (new ≡ (let c : TaskKept = record k { kept = ready_cell j } in c)))

-- a row shows at the end of its column what its task goes on to show, as the last span does
abbrev pub GoesOn : TaskLane → TaskKept → Type 0
GoesOn l k =
    ((l.stays ≡ Away) × LastIs gone l.track.spans × (k.kept ≡ gone))
    ⊎ ((j : ReadyJob) × (l.stays ≡ Rests j) × LastIs (ready_cell j) l.track.spans × (k.kept.doing ≡ cells.ready))
