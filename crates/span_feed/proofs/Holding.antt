-- What is left in rows that are begun: the next state makes of them what it makes of blank ones; and what rows show of tasks that are
-- known to be ready.
use Rattle.std.proofs.Common.{◌≡◌, ◌∙◌, ℕ, zero, suc, true, false, inl, inr, List, [], ◌∷◌, map, get_or, refl, sym, ap, subst, arith, All}
use Rattle.std.specs.Prelude.{Option, None, Some, ◌&&◌, replicate, slice_index_or, ⊤}
use Rattle.rt_rules.specs.Distinct.{IsDistinct}
use Rattle.rt_rules.specs.Numbers.{has, is}
use Rattle.rt_rules.proofs.BoolLaws.{and_false}
use Rattle.rt_model.specs.Group.{Group, tasks}
use Rattle.rt_model.specs.Past.{Acted, Past, PastAct}
use Rattle.rt_changes.specs.Touched.{arriving}
use Rattle.trace_views.specs.Cells.{TaskCell, cell_away}
use Rattle.trace_views.specs.Moments.{Moment, is_unit}
use Rattle.chart_cells.specs.Kept.{later, state_cell}
use Rattle.chart_rows.specs.Listed.{AreListed, tasks_listed}
use Rattle.chart_rows.specs.ReadyJobs.{AreReady, ready_cell, untouched, without}
use Rattle.chart_rows.specs.Rows.{Played, RowsKept, TaskKept, rows_seen, running, task_acted, task_cleared, task_finished, task_seen}
use Rattle.chart_rows.specs.Strips.{Strip, blank, seen}
use Rattle.chart_rows.specs.declared.ready_jobs.ReadyJob.{ReadyJob}
use Rattle.chart_rows.proofs.ReadyTasks.{ready-cell, without-left}
use Rattle.event_lines.specs.Tracks.{GroupTracks}
use Rattle.span_feed.specs.Begun.{HasBegun, IsBegun, IsRunOrReady, IsShown, rows_cleared}
use Rattle.span_feed.specs.Spanned.{HasSpans}
use Rattle.span_feed.proofs.Feeding.{state-seen}

-- what holds of the elements of which a list is made holds of what is made of them
pub all-made : {A B : Type 0} (P : A → Type 0) (Q : B → Type 0) (f : A → B) → ((x : A) → P x → Q (f x)) → (xs : List A) → All P xs → All Q (map f xs)
all-made P Q f step [] all i d low = absurd (omega arith)
all-made P Q f step (x ∷ xs) all zero d low = step x (all zero x (omega arith))
all-made P Q f step (x ∷ xs) all (suc i) d low = all-made P Q f step xs (λ k e l. all (suc k) e (omega arith)) i d (omega arith)

pub all-same : {A B : Type 0} (P : A → Type 0) (f h : A → B) → ((x : A) → P x → f x ≡ h x) → (xs : List A) → All P xs → map f xs ≡ map h xs
all-same P f h step [] all = refl
all-same P f h step (x ∷ xs) all = λ i. step x (all zero x (omega arith)) i ∷ all-same P f h step xs (λ k e l. all (suc k) e (omega arith)) i

module _ (g : Group) where
  -- ---- the first state of a column

  module _ (past : Past) (js : List (Option ReadyJob)) (ready : AreReady g past js) where
    ready-shown : (k : TaskKept) (j : ReadyJob) → slice_index_or js k.task None ≡ Some j → state_cell g k.task past ≡ ready_cell j
    ready-shown k j h = ready-cell g past k.task j (ready k.task j h)

    left-seen : (k : TaskKept) → IsBegun g js k → task_seen g past k ≡ task_seen g past (task_cleared g k)
    left-seen k (inl h) = ap (task_seen g past) h
    left-seen k (inr h) =
        let c : TaskKept = task_cleared g k in
        let at : state_cell g k.task past ≡ ready_cell h.0 = ready-shown k h.0 h.1 in
        ap (task_seen g past) h.2 ∙ ap (λ (s : TaskCell). let x : TaskKept = record c { kept = later (ready_cell h.0) s } in x) at ∙ ap (λ (s : TaskCell). let x : TaskKept = record c { kept = later (cell_away g) s } in x) (sym at)

    pub begun-seen : (rows : RowsKept) → All (IsBegun g js) rows.tasks → rows_seen g past rows ≡ rows_seen g past (rows_cleared g rows)
    begun-seen rows all = λ i. record rows { tasks = (all-same (IsBegun g js) (task_seen g past) (λ k. task_seen g past (task_cleared g k)) left-seen rows.tasks all ∙ through rows.tasks) i }
      where
        through : (ks : List TaskKept) → map (λ k. task_seen g past (task_cleared g k)) ks ≡ map (task_seen g past) (map (task_cleared g) ks)
        through [] = refl
        through (k ∷ ks) = ap (λ xs. task_seen g past (task_cleared g k) ∷ xs) (through ks)

    -- rows that have seen this state alone show the ready tasks so
    first-shown : (k : TaskKept) → ⊤ → IsShown js (task_seen g past (task_cleared g k))
    first-shown k _ j h = ap (later (cell_away g)) (ready-shown k j h)

    pub all-first-shown : (rows new : RowsKept) → new ≡ rows_seen g past (rows_cleared g rows) → All (IsShown js) new.tasks
    all-first-shown rows new is = subst (λ (v : RowsKept). All (IsShown js) v.tasks) (sym is) (both rows.tasks)
      where
        both : (ks : List TaskKept) → All (IsShown js) (map (task_seen g past) (map (task_cleared g) ks))
        both [] i d low = absurd (omega arith)
        both (k ∷ ks) zero d low = first-shown k tt
        both (k ∷ ks) (suc i) d low = both ks i d (omega arith)

  -- ---- an act and the state after it

  module _ (past : Past) (d : PastAct) (js : List (Option ReadyJob)) (ready : AreReady g (Acted d ∷ past) (untouched d js)) where
    abbrev pub moment : Moment
    moment = record { act = d; before = past }

    act-shown : (k : TaskKept) → IsShown js k → IsShown (untouched d js) (task_seen g (Acted d ∷ past) (task_acted g moment k))
    act-shown k shown j h =
        let a = without-left (arriving d.act) (without d.task js) k.task j h in
        let b = without-left d.task js k.task j a.1 in
        let no : is_unit moment && is k.task d.task ≡ false = ap (λ x. is_unit moment && x) b.0 ∙ and_false (is_unit moment) in
        let kept : (task_acted g moment k).kept ≡ ready_cell j = rw no (shown j b.1) in
        ap (λ (c : TaskCell). later c (state_cell g k.task (Acted d ∷ past))) kept ∙ ap (later (ready_cell j)) (ready-cell g (Acted d ∷ past) k.task j (ready k.task j h))

    pub all-act-shown : (ks : List TaskKept) → All (IsShown js) ks → All (IsShown (untouched d js)) (map (task_seen g (Acted d ∷ past)) (map (task_acted g moment) ks))
    all-act-shown [] all i e low = absurd (omega arith)
    all-act-shown (k ∷ ks) all zero e low = act-shown k (all zero k (omega arith))
    all-act-shown (k ∷ ks) all (suc i) e low = all-act-shown ks (λ n x l. all (suc n) x (omega arith)) i e (omega arith)

  -- ---- the end of a column

  pub all-run-or-ready : (js : List (Option ReadyJob)) (ps : List Played) (ks : List TaskKept) → All (IsShown js) ks → All (λ (k : TaskKept). IsRunOrReady (slice_index_or js k.task None) k) (map (task_finished g ps) ks)
  all-run-or-ready js ps ks all =
      all-made (IsShown js) (λ (k : TaskKept). IsRunOrReady (slice_index_or js k.task None) k) (task_finished g ps) (λ k shown j h. (running g k.task ps, λ i. (task_finished g ps (record k { kept = shown j h i })).kept)) ks all

  -- ---- rows that are begun are listed

  pub begun-listed : (v : RowsKept) → AreListed g (rows_cleared g v) → AreListed g v
  begun-listed v l = record {
    tasks_are = tasks_back v.tasks l.tasks_are;
    once = subst IsDistinct (numbers_back v.tasks) l.once;
    cpus_are = l.cpus_are;
    cpus_once = l.cpus_once;
    resvs_are = l.resvs_are;
  }
    where
      tasks_back : (ks : List TaskKept) → All (λ (k : TaskKept). has k.task (tasks g) ≡ true) (map (task_cleared g) ks) → All (λ (k : TaskKept). has k.task (tasks g) ≡ true) ks
      tasks_back [] all i d low = absurd (omega arith)
      tasks_back (k ∷ ks) all zero d low = all zero k (omega arith)
      tasks_back (k ∷ ks) all (suc i) d low = tasks_back ks (λ n x l. all (suc n) x (omega arith)) i d (omega arith)

      numbers_back : (ks : List TaskKept) → tasks_listed (map (task_cleared g) ks) ≡ tasks_listed ks
      numbers_back [] = refl
      numbers_back (k ∷ ks) = ap (λ ns. k.task ∷ ns) (numbers_back ks)

  -- ---- the whole of it

  pub begun-column : (js : List (Option ReadyJob)) (over : List Strip) (past : Past) (rows new : RowsKept) (tracks : GroupTracks) → AreReady g past js → HasBegun g js over rows tracks → new ≡ rows_seen g past rows
      → HasSpans g over (seen past blank) new tracks
  begun-column js over past rows new tracks ready has made = state-seen g tracks over blank past (rows_cleared g rows) new has.spans (made ∙ begun-seen past js ready rows has.begun)

  pub begun-at : (js : List (Option ReadyJob)) (over over' : List Strip) (rows : RowsKept) (tracks : ℕ → GroupTracks) (n n' : ℕ) → over ≡ over' → n ≡ n' → HasBegun g js over rows (tracks n) → HasBegun g js over' rows (tracks n')
  begun-at js over over' rows tracks n n' is_over is_n has = subst (λ (ss : List Strip). HasBegun g js ss rows (tracks n')) is_over (subst (λ k. HasBegun g js over rows (tracks k)) is_n has)

-- ---- at opening nothing is known

pub none-shown : (n : ℕ) (ks : List TaskKept) → All (IsShown (replicate n None)) ks
none-shown n ks i d low = λ j h. absurd (none n (get_or ks i d).task j h)
  where
    none : (m t : ℕ) (j : ReadyJob) → slice_index_or (replicate m None) t None ≡ Some j → ⊥
    none zero t j h = cc
    none (suc m) zero j h = cc
    none (suc m) (suc t) j h = none m t j h
