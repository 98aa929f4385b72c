-- What an act that touches a task makes of its lane.
use Rattle.std.proofs.Common.{◌≡◌, ◌≢◌, ◌∙◌, ℕ, zero, suc, ◌<◌, Bool, true, false, List, [], ◌∷◌, length, map, get_or, set, refl, sym, ap, arith}
use Rattle.std.specs.Prelude.{Option, Some, ◌==◌, slice_index_or}
use Rattle.std.proofs.lemmas.Bool.Decides.{nat_tests}
use Rattle.std.proofs.lemmas.Grind.{get_or-set_at}
use Rattle.std.proofs.lemmas.List.{get_or-set_other}
use Rattle.rt_rules.specs.Distinct.{IsDistinct}
use Rattle.rt_rules.specs.Numbers.{is}
use Rattle.rt_model.specs.Past.{PastAct}
use Rattle.rt_changes.specs.Touched.{arriving}
use Rattle.chart_rows.specs.Listed.{tasks_listed}
use Rattle.chart_rows.specs.ReadyJobs.{untouched, without}
use Rattle.chart_rows.specs.Rows.{TaskKept}
use Rattle.chart_rows.specs.declared.ready_jobs.ReadyJob.{ReadyJob}
use Rattle.chart_rows.proofs.OneChanged.{one-position}
use Rattle.chart_rows.proofs.ReadyTasks.{without-others}
use Rattle.span_feed.specs.Lane.{TaskLane, touched, track_to}
use Rattle.span_feed.specs.Still.{AreRested}
use Rattle.span_feed.specs.inside.Woken.{AreWoken}
use Rattle.span_feed.specs.declared.stay.Stay.TheVariants.{Rests}
use Rattle.span_feed.proofs.LaneLaws.{touched-rests, touched-track}

-- in one position what is shown stays
shown-same : {A B : Type 0} (f : A → B) (xs : List A) (i : ℕ) (x y : A) → x ≡ get_or xs i x → f y ≡ f x → map f (set xs i y) ≡ map f xs
shown-same f [] i x y is same = refl
shown-same f (z ∷ zs) zero x y is same = λ j. (same ∙ ap f is) j ∷ map f zs
shown-same f (z ∷ zs) (suc i) x y is same = ap (λ ws. f z ∷ ws) (shown-same f zs i x y is same)

pub woken-tracks : (n : ℕ) (lanes : List TaskLane) (i : ℕ) (l new : TaskLane) → l ≡ get_or lanes i l → new ≡ touched l → map (track_to n) (set lanes i new) ≡ map (track_to n) lanes
woken-tracks n lanes i l new is made = shown-same (track_to n) lanes i l new is (ap (track_to n) made ∙ touched-track n l)

module _ (rows : List TaskKept) (lanes : List TaskLane) where
  pub one-woken : (t p : ℕ) (l new : TaskLane) → length lanes ≡ length rows → IsDistinct (tasks_listed rows) → p < length rows → ((d : TaskKept) → (slice_index_or rows p d).task ≡ t) → new ≡ touched l
      → AreWoken (Some t) rows lanes (set lanes p new)
  one-woken t p l new long once below at made i e d j low rests = by_case (i == p) refl
    where
      by_case : (b : Bool) → (i == p) ≡ b → ((get_or lanes i e).stays ≡ Rests j) × (is (get_or rows i d).task (Some t) ≡ false)
      by_case true h =
          let here : i ≡ p = grind (arith, nat_tests, h) in
          let there : p < length lanes = omega (arith, below, long) in
          absurd (touched-rests l.stays j (ap (λ (x : TaskLane). x.stays) (sym (get_or-set_at lanes p i new e here there ∙ made)) ∙ rests))
      by_case false h =
          let apart : i ≢ p = λ same. grind (arith, nat_tests, h, same) in
          (ap (λ (x : TaskLane). x.stays) (sym (get_or-set_other lanes p i new e apart)) ∙ rests, other apart ((get_or rows i d).task == t) refl)
        where
          other : i ≢ p → (b : Bool) → ((get_or rows i d).task == t) ≡ b → ((get_or rows i d).task == t) ≡ false
          other apart false is = is
          other apart true is =
              let number : (get_or rows i d).task ≡ t = grind (arith, nat_tests, is) in
              absurd (apart (one-position (λ (k : TaskKept). k.task) rows i p d d once low below (number ∙ sym (at d))))

pub touched-rested : (rows : List TaskKept) (lanes woken new : List TaskLane) (d : PastAct) (js : List (Option ReadyJob)) → AreWoken d.task rows lanes woken → AreWoken (arriving d.act) rows woken new
    → AreRested js lanes rows → AreRested (untouched d js) new rows
touched-rested rows lanes woken new d js first second rested i e k low j rests =
    let b = second i e k j low rests in
    let a = first i e k j low b.0 in
    without-others (arriving d.act) (without d.task js) (get_or rows i k).task b.1 ∙ without-others d.task js (get_or rows i k).task a.1 ∙ rested i e k low j a.0
