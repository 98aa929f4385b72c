-- The last of some spans: it lasts longer, and where its value is added it does nothing else.
use Rattle.std.proofs.Common.{◌≡◌, ◌∙◌, ℕ, zero, suc, inl, inr, Bool, true, false, List, [], ◌∷◌, length, get_or, set, refl, sym, ap, arith}
use Rattle.std.specs.Prelude.{Option, None, Some}
use Rattle.trace_views.specs.Cells.{TaskCell}
use Rattle.trace_views.specs.Cells as cells
use Rattle.trace_views.specs.Spans.{Span}
use Rattle.chart_cells.specs.Kept.{finished}
use Rattle.chart_rows.specs.ReadyJobs.{ready_cell}
use Rattle.chart_rows.specs.declared.ready_jobs.ReadyJob.{ReadyJob}
use Rattle.chart_rows.specs.Rows.{TaskKept, task_cleared}
use Rattle.rt_model.specs.Group.{Group}
use Rattle.event_texts.specs.TaskSpans as task_texts
use Rattle.event_lines.specs.Tracks.{TaskTrack}
use Rattle.span_feed.specs.Begun.{GoesOn, IsHeld, IsLeft, IsRunOrReady}
use Rattle.span_feed.specs.Extended.{Decides, extended}
use Rattle.span_feed.specs.Lane.{EndsWith, LastIs, TaskLane, gone, last_to, lasting, spans_to, stay_touched, touched, track_to}
use Rattle.span_feed.specs.Spanned.{task_more}
use Rattle.span_feed.specs.Still.{HasRested, IsStill}
use Rattle.span_feed.specs.declared.stay.Stay.{Stay}
use Rattle.span_feed.specs.declared.stay.Stay.TheVariants.{Away, Changes, Rests, Touched}

module _ {A : Type 0} (same : A → A → Bool) (from to : ℕ) (x : A) where
  -- the value of the last span, which lasts up to where it is added
  pub last-goes-on : Decides A same → (ss : List (Span A)) → LastIs x ss → extended same from to x (last_to from ss) ≡ last_to to ss
  last-goes-on d [] h = absurd h
  last-goes-on d (s ∷ []) h = let yes : same s.value x ≡ true = ap (λ y. same y x) h ∙ d.knows x in rw yes refl
  last-goes-on d (s ∷ r ∷ []) h = ap (λ ys. s ∷ ys) (last-goes-on d (r ∷ []) h)
  last-goes-on d (s ∷ r ∷ q ∷ ss) h = ap (λ ys. s ∷ ys) (last-goes-on d (r ∷ q ∷ ss) h)

  -- any value: the last span lasts up to there
  pub last-is-there : (ss : List (Span A)) → last_to to (extended same from to x ss) ≡ extended same from to x ss
  last-is-there [] = refl
  last-is-there (s ∷ []) = by_case (same s.value x) refl
    where
      by_case : (b : Bool) → same s.value x ≡ b → last_to to (extended same from to x (s ∷ [])) ≡ extended same from to x (s ∷ [])
      by_case true h = rw h refl
      by_case false h = rw h refl
  last-is-there (s ∷ r ∷ []) = by_case (same r.value x) refl
    where
      by_case : (b : Bool) → same r.value x ≡ b → last_to to (extended same from to x (s ∷ r ∷ [])) ≡ extended same from to x (s ∷ r ∷ [])
      by_case true h = rw h refl
      by_case false h = rw h refl
  last-is-there (s ∷ r ∷ q ∷ ss) = ap (λ ys. s ∷ ys) (last-is-there (r ∷ q ∷ ss))

-- ---- as the last span is found

module _ {A : Type 0} where
  pub last-set : (n i : ℕ) (ss : List (Span A)) (s : Span A) → suc i ≡ length ss → s ≡ get_or ss i s → last_to n ss ≡ set ss i (record s { to = n })
  last-set n i [] s last is = absurd (omega arith)
  last-set n zero (r ∷ []) s last is = λ j. record (sym is j) { to = n } ∷ []
  last-set n zero (r ∷ q ∷ ss) s last is = absurd (omega arith)
  last-set n (suc i) (r ∷ []) s last is = absurd (omega arith)
  last-set n (suc i) (r ∷ q ∷ ss) s last is = ap (λ ys. r ∷ ys) (last-set n i (q ∷ ss) s (omega arith) is)

  pub last-found : (i : ℕ) (ss : List (Span A)) (s : Span A) (x : A) → suc i ≡ length ss → s ≡ get_or ss i s → s.value ≡ x → LastIs x ss
  last-found i [] s x last is h = absurd (omega arith)
  last-found zero (r ∷ []) s x last is h = ap (λ (q : Span A). q.value) (sym is) ∙ h
  last-found zero (r ∷ q ∷ ss) s x last is h = absurd (omega arith)
  last-found (suc i) (r ∷ []) s x last is h = absurd (omega arith)
  last-found (suc i) (r ∷ q ∷ ss) s x last is h = last-found i (q ∷ ss) s x (omega arith) is h

pub ends-by : (o : Option TaskCell) (ss : List (Span TaskCell)) → ((c : TaskCell) → o ≡ Some c → LastIs c ss) → EndsWith o ss
ends-by None ss last = tt
ends-by (Some c) ss last = last c refl

-- ---- a cell that is ready as its column ends is that of the state

pub ready-unrun : (qs : List ℕ) (j : ReadyJob) (c : TaskCell) → c ≡ finished qs (ready_cell j) → c.doing ≡ cells.ready → c ≡ ready_cell j
ready-unrun [] j c is ready = is
ready-unrun (q ∷ qs) j c is ready = let no : cells.running (q ∷ qs) ≡ cells.ready = sym (ap (λ (k : TaskCell). k.doing) is) ∙ ready in cc

-- ---- a column that is taken

module _ (known : Option ReadyJob) (l : TaskLane) (k : TaskKept) (run : IsRunOrReady known k) (rested : HasRested known l) where
  rests-ready : (j : ReadyJob) → l.stays ≡ Rests j → k.kept.doing ≡ cells.ready → k.kept ≡ ready_cell j
  rests-ready j rests ready = let r = run j (rested j rests) in ready-unrun r.0 j k.kept r.1 ready

  -- where the task goes on as it did, its row shows that
  pub goes-on-shown : GoesOn l k → (c : TaskCell) × (lasting l.stays ≡ Some c) × LastIs c l.track.spans × (k.kept ≡ c)
  goes-on-shown (inl h) = (gone, ap lasting h.0, h.1, h.2)
  goes-on-shown (inr h) = (ready_cell h.0, ap lasting h.1, h.2, rests-ready h.0 h.1 h.3)

  -- and its row is as it should be for the next column
  pub goes-on-left : (g : Group) → GoesOn l k → IsLeft g known k (record k { end = false })
  goes-on-left g (inl h) = inl (λ i. record (task_cleared g k) { kept = h.2 i })
  goes-on-left g (inr h) = inr (h.0, rested h.0 h.1, λ i. record (task_cleared g k) { kept = rests-ready h.0 h.1 h.3 i })

  pub goes-on-still : GoesOn l k → IsStill known l (record k { end = false })
  goes-on-still (inl h) j rests = let clash : Away ≡ Rests j = sym h.0 ∙ rests in cc
  goes-on-still (inr h) j rests = (rested j rests, rests-ready j rests h.3)

module _ (known : Option ReadyJob) (was new : TaskKept) where
  pub held-left : (g : Group) (stays : Stay) (k : TaskKept) → IsHeld known stays was new → was ≡ task_cleared g k → IsLeft g known k new
  held-left g stays k (inl h) cleared = inl (h.0 ∙ cleared)
  held-left g stays k (inr h) cleared = inr (h.0, h.1, h.3 ∙ ap (λ (x : TaskKept). let y : TaskKept = record x { kept = ready_cell h.0 } in y) cleared)

  pub held-still : (l : TaskLane) → IsHeld known l.stays was new → IsStill known l new
  held-still l (inl h) j rests = absurd (h.1 j rests)
  held-still l (inr h) j rests =
      let is : Rests h.0 ≡ Rests j = sym h.2 ∙ rests in
      let same : h.0 ≡ j = cc in
      (h.1 ∙ ap Some same, ap (λ (k : TaskKept). k.kept) h.3 ∙ ap ready_cell same)

pub held-track : (from to : ℕ) (k : TaskKept) (x : TaskTrack) (l : TaskLane) → l.track ≡ task_more from to k x → track_to to l ≡ task_more from to k x
held-track from to k x l made = by_case (lasting l.stays) refl
  where
    by_case : (o : Option TaskCell) → lasting l.stays ≡ o → track_to to l ≡ task_more from to k x
    by_case None is = (λ i. record l.track { spans = spans_to to (is i) l.track.spans }) ∙ made
    by_case (Some c) is =
        (λ i. record l.track { spans = spans_to to (is i) l.track.spans }) ∙ (λ i. record (made i) { spans = last_to to (made i).spans })
        ∙ (λ i. record (task_more from to k x) { spans = last-is-there task_texts.same_cell from to k.kept x.spans i })

-- ---- an act touches the task

touched-lasts : (s : Stay) → lasting (stay_touched s) ≡ lasting s
touched-lasts Changes = refl
touched-lasts Away = refl
touched-lasts (Rests j) = refl
touched-lasts (Touched j) = refl

pub touched-track : (n : ℕ) (l : TaskLane) → track_to n (touched l) ≡ track_to n l
touched-track n l = λ i. record l.track { spans = spans_to n (touched-lasts l.stays i) l.track.spans }

pub touched-rests : (s : Stay) (j : ReadyJob) → stay_touched s ≡ Rests j → ⊥
touched-rests Changes j h = cc
touched-rests Away j h = cc
touched-rests (Rests k) j h = cc
touched-rests (Touched k) j h = cc
