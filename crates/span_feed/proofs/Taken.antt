-- What is taken of the column of each task: its row is begun, and its spans go on.
use Rattle.std.proofs.Common.{◌≡◌, ◌∙◌, ℕ, ◌<◌, ◌≤◌, inl, inr, List, [], length, map, get_or, sym, ap, arith, All}
use Rattle.std.specs.Prelude.{Option, None, slice_index_or}
use Rattle.rt_model.specs.Group.{Group}
use Rattle.chart_rows.specs.ReadyJobs.{ready_cell}
use Rattle.chart_rows.specs.Rows.{TaskKept, task_cleared}
use Rattle.chart_rows.specs.declared.ready_jobs.ReadyJob.{ReadyJob}
use Rattle.span_feed.specs.Begun.{IsBegun, IsLeft}
use Rattle.span_feed.specs.Lane.{TaskLane, track_to}
use Rattle.span_feed.specs.Spanned.{paired, task_more}
use Rattle.span_feed.specs.Still.{AreStill, IsStill}
use Rattle.span_feed.specs.declared.stay.Stay.TheVariants.{Changes}
use Rattle.span_feed.proofs.Beside.{AreTaken, maps-same, paired-each}

abbrev pub IsTaken : List (Option ReadyJob) → ℕ → ℕ → TaskKept → TaskLane → TaskKept → TaskLane → Type 0
IsTaken js from to k l new made =
    ((g : Group) → IsLeft g (slice_index_or js k.task None) k new) × (track_to to made ≡ task_more from to k (track_to from l)) × IsStill (slice_index_or js k.task None) made new

left-task : (g : Group) (o : Option ReadyJob) (k new : TaskKept) → IsLeft g o k new → new.task ≡ k.task
left-task g o k new (inl h) = ap (λ (x : TaskKept). x.task) h
left-task g o k new (inr h) = ap (λ (x : TaskKept). x.task) h.2

left-cleared : (g : Group) (o : Option ReadyJob) (k new : TaskKept) → IsLeft g o k new → task_cleared g new ≡ task_cleared g k
left-cleared g o k new (inl h) = ap (task_cleared g) h
left-cleared g o k new (inr h) = ap (task_cleared g) h.2

left-begun : (g : Group) (js : List (Option ReadyJob)) (k new : TaskKept) → IsLeft g (slice_index_or js k.task None) k new → IsBegun g js new
left-begun g js k new (inl h) = inl (h ∙ sym (ap (task_cleared g) h))
left-begun g js k new (inr h) = inr (h.0, ap (λ (x : TaskKept). slice_index_or js x.task None) h.2 ∙ h.1, h.2 ∙ sym (ap (λ (x : TaskKept). let y : TaskKept = record (task_cleared g x) { kept = ready_cell h.0 } in y) h.2))

module _ (js : List (Option ReadyJob)) (from to n : ℕ) (rows new : List TaskKept) (lanes made : List TaskLane) (all : length rows ≤ n) (beside : length lanes ≡ length rows)
    (rows_long : length new ≡ length rows) (lanes_long : length made ≡ length lanes) (taken : AreTaken (IsTaken js from to) n rows lanes new made) where
  each : (i : ℕ) (d : TaskKept) (e : TaskLane) → i < length rows → IsTaken js from to (get_or rows i d) (get_or lanes i e) (get_or new i d) (get_or made i e)
  each i d e low = (taken i d e low (omega arith)).0 (omega arith)

  -- a lane that stands for none
  nothing : TaskLane
  nothing = record { track = record { task = 0; spans = []; jobs = [] }; stays = Changes }

  pub taken-cleared : (g : Group) → map (task_cleared g) new ≡ map (task_cleared g) rows
  taken-cleared g = maps-same (task_cleared g) rows new rows_long (λ i d low. left-cleared g _ (get_or rows i d) (get_or new i d) ((each i d nothing low).0 g))

  pub taken-begun : (g : Group) → All (IsBegun g js) new
  taken-begun g i d low = left-begun g js (get_or rows i d) (get_or new i d) ((each i d nothing (omega (arith, low, rows_long))).0 g)

  pub taken-tracks : map (track_to to) made ≡ paired (task_more from to) rows (map (track_to from) lanes)
  taken-tracks = paired-each (task_more from to) (track_to from) (track_to to) rows lanes made beside lanes_long (λ i d e low. (each i d e low).1)

  pub taken-still : (g : Group) → AreStill js made new
  taken-still g i e d low j rests =
      let there : i < length rows = omega (arith, low, rows_long) in
      let at = each i d e there in
      let still = at.2 j rests in
      (ap (λ t. slice_index_or js t None) (left-task g _ (get_or rows i d) (get_or new i d) (at.0 g)) ∙ still.0, still.1)
