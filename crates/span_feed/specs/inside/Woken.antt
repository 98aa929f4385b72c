-- Lanes of which that of one task is touched.
use Rattle.std.specs.Prelude.{◌≡◌, ℕ, ◌<◌, false, List, length, get_or, Option}
use Rattle.rt_rules.specs.Numbers.{is}
use Rattle.chart_rows.specs.Rows.{TaskKept}
use Rattle.chart_rows.specs.declared.ready_jobs.ReadyJob.{ReadyJob}
use Rattle.span_feed.specs.Lane.{TaskLane}
use Rattle.span_feed.specs.declared.stay.Stay.TheVariants.{Rests}

-- a lane that still rests did so before, and the row beside it is not that task's
abbrev pub AreWoken : Option ℕ → List TaskKept → List TaskLane → List TaskLane → Type 0
AreWoken o rows old new =
    (i : ℕ) (e : TaskLane) (d : TaskKept) (j : ReadyJob) → i < length rows → (get_or new i e).stays ≡ Rests j
    → ((get_or old i e).stays ≡ Rests j) × (is (get_or rows i d).task o ≡ false)
