-- Tasks that rest: what is known of them, from call to call.
use Rattle.std.proofs.Common.{◌≡◌, ◌∙◌, ℕ, ◌<◌, List, [], length, map, get_or, sym, ap, arith, All}
use Rattle.std.specs.Prelude.{Option, None, slice_index_or, is_some}
use Rattle.std.proofs.lemmas.List.{get_or-map, length-map}
use Rattle.rt_model.specs.Group as groups
use Rattle.rt_model.specs.Group.{Group}
use Rattle.rt_model.specs.Past.{Past}
use Rattle.chart_rows.specs.ReadyJobs.{AreReady, KnowsMore}
use Rattle.chart_rows.specs.Rows.{RowsKept, TaskKept, rows_of, task_kept, task_seen}
use Rattle.chart_rows.specs.Strips.{Strip}
use Rattle.chart_rows.specs.declared.ready_jobs.ReadyJob.{ReadyJob}
use Rattle.chart_rows.proofs.ReadyStates.{ready-still}
use Rattle.event_lines.specs.Tracks.{GroupTracks}
use Rattle.span_feed.specs.Lane.{TaskLane, track_to}
use Rattle.span_feed.specs.Spanned.{HasSpans, spanned, task_spanned}
use Rattle.span_feed.specs.Still.{AreRested, AreStill, IsStill}
use Rattle.span_feed.specs.declared.stay.Stay.TheVariants.{Changes, Rests}

module _ (js : List (Option ReadyJob)) (lanes : List TaskLane) (rows : List TaskKept) where
  pub none-rested : length lanes ≡ length rows → All (λ (l : TaskLane). l.stays ≡ Changes) lanes → AreRested js lanes rows
  none-rested long all i e d low j rests = let clash : Changes ≡ Rests j = sym (all i e (omega (arith, low, long))) ∙ rests in cc

  pub still-rested : AreStill js lanes rows → AreRested js lanes rows
  still-rested still i e d low j rests = (still i e d low j rests).0

  pub rested-more : (more : List (Option ReadyJob)) → KnowsMore js more → AreRested js lanes rows → AreRested more lanes rows
  rested-more more knows rested i e d low j rests = knows (get_or rows i d).task j (rested i e d low j rests)

  -- rows of the same tasks
  pub rested-map : (f : TaskKept → TaskKept) → ((k : TaskKept) → (f k).task ≡ k.task) → AreRested js lanes rows → AreRested js lanes (map f rows)
  rested-map f same rested i e d low j rests =
      let there : i < length rows = omega (arith, low, length-map rows f) in
      ap (λ (k : TaskKept). slice_index_or js k.task None) (get_or-map f rows i d d there) ∙ ap (λ t. slice_index_or js t None) (same (get_or rows i d)) ∙ rested i e d there j rests

-- the state shows of a task that rests what its row does
pub still-seen : (g : Group) (past : Past) (js : List (Option ReadyJob)) (l : TaskLane) (k : TaskKept) (j : ReadyJob) → AreReady g past js → IsStill (slice_index_or js k.task None) l k → l.stays ≡ Rests j → k ≡ task_seen g past k
still-seen g past js l k j ready still rests =
    let h = still j rests in ready-still g past js k ready (ap (λ (o : Option ReadyJob). is_some o) h.0) (ap (λ c. c.doing) h.1)

-- lanes stand beside rows
pub lanes-beside : (g : Group) (over : List Strip) (going : Strip) (rows : RowsKept) (tracks : GroupTracks) (n : ℕ) (lanes : List TaskLane) → HasSpans g over going rows tracks
    → tracks.tasks ≡ map (track_to n) lanes → length lanes ≡ length rows.tasks
unfolding rows_of spanned
lanes-beside g over going rows tracks n lanes has tasks =
    sym (ap length tasks ∙ length-map lanes (track_to n)) ∙ ap (λ (v : GroupTracks). length v.tasks) has.tracks_are ∙ length-map (groups.tasks g) (task_spanned g over)
    ∙ sym (ap (λ (v : RowsKept). length v.tasks) has.rows_are ∙ length-map (groups.tasks g) (task_kept g [] going))
