-- What is known of a task whose cell in a state shows it ready and without a semaphore; and that what is known is written down.
use Rattle.std.proofs.Common.{◌≡◌, ◌≢◌, ◌∙◌, ℕ, zero, suc, ◌⊎◌, inl, inr, Bool, true, false, List, [], ◌∷◌, eqb-true, refl, sym, ap, subst}
use Rattle.std.specs.Prelude.{Option, None, Some, if◌then◌else◌, ◌==◌, is_some, replicate, slice_index_or, slice_set}
use Rattle.rt_rules.specs.declared.Key.{Key}
use Rattle.rt_rules.specs.OrderLaws.{same_key}
use Rattle.rt_rules.proofs.BoolLaws.{both, not_false}
use Rattle.rt_model.specs.BaseKeys.{base_key}
use Rattle.rt_model.specs.Blocking.{is_blocked}
use Rattle.rt_model.specs.EffectiveKeys.{effective_key}
use Rattle.rt_model.specs.Group.{Group}
use Rattle.rt_model.specs.Holders.{awaits}
use Rattle.rt_model.specs.Past.{Past}
use Rattle.rt_model.specs.Releases.{exists}
use Rattle.rt_model.specs.Sleep.{sleeps}
use Rattle.trace_views.specs.Cells.{TaskCell, cell_at}
use Rattle.trace_views.specs.Cells as cells
use Rattle.chart_rows.specs.Looks.{doing_by, state_doing, there_by}
use Rattle.chart_cells.specs.Kept.{later}
use Rattle.chart_rows.specs.ReadyJobs.{AreReady, IsReadyWith, KnowsMore, ready_cell}
use Rattle.chart_rows.specs.Rows.{TaskKept, task_seen}
use Rattle.chart_rows.proofs.ReadyTasks.{ready-cell}
use Rattle.chart_rows.specs.declared.ready_jobs.ReadyJob.{ReadyJob}

key-same : (a b : Key) → cells.same_key a b ≡ true → a ≡ b
key-same a b h = let p = both (a.band == b.band) _ h in let q = both (a.major == b.major) (a.minor == b.minor) p.1 in same_key a b (eqb-true a.band b.band p.0) (eqb-true a.major b.major q.0) (eqb-true a.minor b.minor q.1)

there-ready : (a b : Bool) → there_by a b ≡ cells.ready → (a ≡ false) × (b ≡ true)
there-ready true b h = cc
there-ready false true h = (refl, refl)
there-ready false false h = cc

module _ (g : Group) (t : ℕ) (x : Past) where
  waiting-not : (s : ℕ) (b : Bool) → (if b then cells.blocked s else cells.waits s) ≡ cells.ready → ⊥
  waiting-not s true h = cc
  waiting-not s false h = cc

  waits-none : (o : Option ℕ) → doing_by g t x o ≡ cells.ready → (o ≡ None) × (sleeps t x ≡ false) × (exists g t x ≡ true)
  waits-none (Some s) h = absurd (waiting-not s (is_blocked g t x) h)
  waits-none None h = let p = there-ready (sleeps t x) (exists g t x) h in (refl, p.0, p.1)

  -- a cell of what the task does in the state, which shows it so
  pub ready-known : (j : ReadyJob) (d : cells.Doing) → d ≡ state_doing g t x → cell_at g d t x ≡ ready_cell j → IsReadyWith g x t j
  unfolding cell_at
  ready-known j d is shown =
      let does = waits-none (awaits g t x) (sym is ∙ ap (λ (c : TaskCell). c.doing) shown) in
      record {
        there = does.2;
        awake = does.1;
        awaits_none = does.0;
        holds_none = ap (λ (c : TaskCell). c.held) shown;
        own_key = key-same (effective_key g t x) (base_key g t x) (not_false _ (ap (λ (c : TaskCell). c.raised) shown));
        number_is = sym (ap (λ (c : TaskCell). c.job) shown);
        np_is = sym (ap (λ (c : TaskCell). c.non_preemptive) shown);
      }

-- ---- what is written down

found-where : {A : Type 0} (xs : List (Option A)) (i u : ℕ) (v : Option A) (a : A) → slice_index_or (slice_set xs i v) u None ≡ Some a
    → (slice_index_or xs u None ≡ Some a) ⊎ ((i ≡ u) × (v ≡ Some a))
found-where [] i u v a h = inl h
found-where (x ∷ xs) zero zero v a h = inr (refl, h)
found-where (x ∷ xs) zero (suc u) v a h = inl h
found-where (x ∷ xs) (suc i) zero v a h = inl h
found-where (x ∷ xs) (suc i) (suc u) v a h = further (found-where xs i u v a h)
  where
    further : (slice_index_or xs u None ≡ Some a) ⊎ ((i ≡ u) × (v ≡ Some a)) → (slice_index_or xs u None ≡ Some a) ⊎ ((suc i ≡ suc u) × (v ≡ Some a))
    further (inl m) = inl m
    further (inr m) = inr (ap suc m.0, m.1)

pub not-known : {A : Type 0} (o : Option A) → ((a : A) → o ≢ Some a) → o ≡ None
not-known None h = refl
not-known (Some a) h = absurd (h a refl)

-- of a task of which nothing is known something may be written down
pub known-more : (js : List (Option ReadyJob)) (t : ℕ) (job : Option ReadyJob) → slice_index_or js t None ≡ None → KnowsMore js (slice_set js t job)
known-more [] t job none u j h = h
known-more (x ∷ js) zero job none zero j h = let no : None ≡ Some j = sym none ∙ h in cc
known-more (x ∷ js) zero job none (suc u) j h = h
known-more (x ∷ js) (suc t) job none zero j h = h
known-more (x ∷ js) (suc t) job none (suc u) j h = known-more js t job none u j h

some-same : {A : Type 0} {a b : A} → Some a ≡ Some b → a ≡ b
some-same h = cc

pub ready-more : (g : Group) (x : Past) (js : List (Option ReadyJob)) (t : ℕ) (j : ReadyJob) → AreReady g x js → IsReadyWith g x t j → AreReady g x (slice_set js t (Some j))
ready-more g x js t j all known u k h = split (found-where js t u (Some j) k h)
  where
    split : (slice_index_or js u None ≡ Some k) ⊎ ((t ≡ u) × (Some j ≡ Some k)) → IsReadyWith g x u k
    split (inl m) = all u k m
    split (inr m) = subst (λ n. IsReadyWith g x n k) m.0 (subst (IsReadyWith g x t) (some-same m.1) known)

-- ---- a row of a task of which so much is known

pub seen-ready : (g : Group) (x : Past) (js : List (Option ReadyJob)) (k : TaskKept) (j : ReadyJob) (kept' : TaskCell) → AreReady g x js → slice_index_or js k.task None ≡ Some j
    → kept' ≡ later k.kept (ready_cell j) → record k { kept = kept' } ≡ task_seen g x k
seen-ready g x js k j kept' all there is = ap (λ (c : TaskCell). record k { kept = c }) (is ∙ ap (later k.kept) (sym (ready-cell g x k.task j (all k.task j there))))

-- a row that shows it ready already stays
pub ready-still : (g : Group) (x : Past) (js : List (Option ReadyJob)) (k : TaskKept) → AreReady g x js → is_some (slice_index_or js k.task None) ≡ true → k.kept.doing ≡ cells.ready → k ≡ task_seen g x k
ready-still g x js k all there shown = by_job (slice_index_or js k.task None) refl there
  where
    by_job : (o : Option ReadyJob) → slice_index_or js k.task None ≡ o → is_some o ≡ true → k ≡ task_seen g x k
    by_job None is some = cc
    by_job (Some j) is some =
        let stays : later k.kept (ready_cell j) ≡ k.kept = rw shown refl in
        ap (λ (c : TaskCell). record k { kept = c }) (sym (ap (later k.kept) (ready-cell g x k.task j (all k.task j is)) ∙ stays))

-- ---- at opening

none-there : {A : Type 0} (n t : ℕ) (a : A) → slice_index_or (replicate n None) t None ≡ Some a → ⊥
none-there zero t a h = cc
none-there (suc n) zero a h = cc
none-there (suc n) (suc t) a h = none-there n t a h

pub none-ready : (g : Group) (x : Past) (n : ℕ) → AreReady g x (replicate n None)
none-ready g x n t j h = absurd (none-there n t j h)
