-- The cells that are kept of tasks, finished for one processor after the other.
use Rattle.std.proofs.Common.{◌≡◌, ◌∙◌, ℕ, ◌+◌, ◌<◌, ◌≤◌, Bool, true, false, List, [], ◌∷◌, ◌++◌, length, map, take, get_or, refl, sym, ap}
use Rattle.std.specs.Prelude.{Option, if◌then◌else◌}
use Rattle.std.proofs.lemmas.List.{map-append, take_more}
use Rattle.rt_rules.specs.Numbers.{is}
use Rattle.rt_model.specs.Group.{Group}
use Rattle.trace_views.specs.Cells.{Doing, Playing, TaskCell, runs_no_unit}
use Rattle.trace_views.specs.Cells as cells
use Rattle.chart_cells.specs.Kept.{finished}
use Rattle.chart_rows.specs.Listed.{tasks_listed}
use Rattle.chart_rows.specs.Rows as rows
use Rattle.chart_rows.specs.Rows.{TaskKept, running, task_finished}
use Rattle.chart_rows.specs.declared.loops.Played.{Played}
use Rattle.chart_rows.specs.inside.Finding.{only}
use Rattle.chart_rows.specs.inside.Plays.{idly_run, played_shown}
use Rattle.chart_rows.proofs.Changed.{made-all, running-snoc}

-- a cell that is finished stays
finished-twice : (qs : List ℕ) (c : TaskCell) → finished qs (finished qs c) ≡ finished qs c
finished-twice [] c = refl
finished-twice (q ∷ qs) c = by_doing c.doing
  where
    by_doing : (d : Doing) → finished (q ∷ qs) (finished (q ∷ qs) (record c { doing = d })) ≡ finished (q ∷ qs) (record c { doing = d })
    by_doing (cells.works us) = refl
    by_doing (cells.blocked s) = refl
    by_doing (cells.waits s) = refl
    by_doing cells.sleeping = refl
    by_doing (cells.running us) = refl
    by_doing cells.ready = refl
    by_doing cells.away = refl

idle-is : (g : Group) (t : ℕ) (p : Playing) → runs_no_unit g t p ≡ is t (idly_run p)
idle-is g t (cells.works_for u) = refl
idle-is g t (cells.runs_task u) = refl
idle-is g t cells.idle = refl

abbrev unless_none : {A : Type 0} → List ℕ → A → A → A
unless_none [] x y = x
unless_none (q ∷ qs) x y = y

module _ (g : Group) (ps : List rows.Played) where
  -- so far only those are finished that the first processors run
  abbrev pub finished_by : List rows.Played → TaskKept → TaskKept
  finished_by us k = unless_none (running g k.task us) k (task_finished g ps k)

  next-row : (us : List rows.Played) (p : rows.Played) (k : TaskKept) → only (idly_run p.playing) (task_finished g ps) (finished_by us k) ≡ finished_by (us ++ p ∷ []) k
  next-row us p k = rw (running-snoc g k.task us p, idle-is g k.task p.playing) (by_runs (running g k.task us))
    where
      o : Option ℕ
      o = idly_run p.playing

      done : TaskKept
      done = task_finished g ps k

      twice : task_finished g ps done ≡ done
      twice = λ i. record k { kept = finished-twice (running g k.task ps) k.kept i }

      first : (b : Bool) → is k.task o ≡ b → (if is k.task o then done else k) ≡ unless_none (if b then p.cpu ∷ [] else []) k done
      first true h = rw h refl
      first false h = rw h refl

      again : (b : Bool) → (if b then task_finished g ps done else done) ≡ done
      again true = twice
      again false = refl

      by_runs : (qs : List ℕ) → only o (task_finished g ps) (unless_none qs k done) ≡ unless_none (qs ++ (if is k.task o then p.cpu ∷ [] else [])) k done
      by_runs [] = first (is k.task o) refl
      by_runs (q ∷ qs) = again (is k.task o)

  next-rows : (us : List rows.Played) (p : rows.Played) (ks : List TaskKept) → map (only (idly_run p.playing) (task_finished g ps)) (map (finished_by us) ks) ≡ map (finished_by (us ++ p ∷ [])) ks
  next-rows us p [] = refl
  next-rows us p (k ∷ ks) = λ i. next-row us p k i ∷ next-rows us p ks i

  pub finished-none : (ks : List TaskKept) → ks ≡ map (finished_by []) ks
  finished-none [] = refl
  finished-none (k ∷ ks) = ap (λ xs. k ∷ xs) (finished-none ks)

  all-row : (k : TaskKept) → finished_by ps k ≡ task_finished g ps k
  all-row k = by_runs (running g k.task ps) refl
    where
      by_runs : (qs : List ℕ) → running g k.task ps ≡ qs → unless_none qs k (task_finished g ps k) ≡ task_finished g ps k
      by_runs [] h = λ i. record k { kept = finished (sym h i) k.kept }
      by_runs (q ∷ qs) h = refl

  finished-all : (ks : List TaskKept) → map (finished_by ps) ks ≡ map (task_finished g ps) ks
  finished-all [] = refl
  finished-all (k ∷ ks) = λ i. all-row k i ∷ finished-all ks i

  -- the tasks are those before
  pub finished-tasks : (us : List rows.Played) (ks : List TaskKept) → tasks_listed (map (finished_by us) ks) ≡ tasks_listed ks
  finished-tasks us [] = refl
  finished-tasks us (k ∷ ks) = λ i. same (running g k.task us) i ∷ finished-tasks us ks i
    where
      same : (qs : List ℕ) → (unless_none qs k (task_finished g ps k)).task ≡ k.task
      same [] = refl
      same (q ∷ qs) = refl

-- ---- as code goes over the processors

module _ (g : Group) (plays : List Played) where
  pub finished-more : (i : ℕ) (d : Played) (ks old new : List TaskKept) → i < length plays → old ≡ map (finished_by g (map played_shown plays) (map played_shown (take i plays))) ks
      → new ≡ map (only (idly_run (played_shown (get_or plays i d)).playing) (task_finished g (map played_shown plays))) old
      → new ≡ map (finished_by g (map played_shown plays) (map played_shown (take (i + 1) plays))) ks
  finished-more i d ks old new low before made =
      let p = played_shown (get_or plays i d) in
      let us = map played_shown (take i plays) in
      let ps = map played_shown plays in
      made ∙ ap (map (only (idly_run p.playing) (task_finished g ps))) before ∙ next-rows g ps us p ks
      ∙ ap (λ vs. map (finished_by g ps vs) ks) (sym (ap (map played_shown) (take_more plays i d low) ∙ map-append played_shown (take i plays) (get_or plays i d ∷ [])))

  pub finished-over : (i : ℕ) (ks new : List TaskKept) → length plays ≤ i → new ≡ map (finished_by g (map played_shown plays) (map played_shown (take i plays))) ks → new ≡ map (task_finished g (map played_shown plays)) ks
  finished-over i ks new low is =
      let ps = map played_shown plays in
      is ∙ ap (λ vs. map (finished_by g ps (map played_shown vs)) ks) (made-all plays i low) ∙ finished-all g ps ks
