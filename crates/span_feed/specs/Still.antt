-- What is known of tasks; and those that rest from tick to tick, by lanes and rows that stand side by side.
use Rattle.std.specs.Prelude.{◌≡◌, ℕ, ◌<◌, List, length, get_or, Option, None, Some, slice_index_or}
use Rattle.rt_model.specs.Group.{Group}
use Rattle.rt_model.specs.Past.{Past}
use Rattle.chart_rows.specs.AwayTasks.{AreAway}
use Rattle.chart_rows.specs.ReadyJobs.{AreReady, ready_cell}
use Rattle.chart_rows.specs.Rows.{TaskKept}
use Rattle.chart_rows.specs.declared.ready_jobs.ReadyJob.{ReadyJob}
use Rattle.span_feed.specs.Lane.{TaskLane}
use Rattle.span_feed.specs.declared.stay.Stay.TheVariants.{Rests}

-- of tasks that are ready, and of tasks whose job is not there yet, is known what is so
abbrev pub AreKnown : Group → Past → List (Option ReadyJob) → List ℕ → Type 0
AreKnown g past js ticks = AreReady g past js × AreAway g past ticks

-- of a task that rests its job is known
abbrev pub HasRested : Option ReadyJob → TaskLane → Type 0
HasRested known l = (j : ReadyJob) → l.stays ≡ Rests j → known ≡ Some j

-- and its row, which is begun, shows it ready
abbrev pub IsStill : Option ReadyJob → TaskLane → TaskKept → Type 0
IsStill known l k = (j : ReadyJob) → l.stays ≡ Rests j → (known ≡ Some j) × (k.kept ≡ ready_cell j)

-- so it is of each lane and the row beside it
abbrev pub EachBeside : (TaskLane → TaskKept → Type 0) → List TaskLane → List TaskKept → Type 0
EachBeside P lanes rows = (i : ℕ) (e : TaskLane) (d : TaskKept) → i < length rows → P (get_or lanes i e) (get_or rows i d)

abbrev pub AreRested : List (Option ReadyJob) → List TaskLane → List TaskKept → Type 0
AreRested js = EachBeside (λ l k. HasRested (slice_index_or js k.task None) l)

abbrev pub AreStill : List (Option ReadyJob) → List TaskLane → List TaskKept → Type 0
AreStill js = EachBeside (λ l k. IsStill (slice_index_or js k.task None) l k)
