-- What is kept of rows follows the states and acts of the column that goes on, and its end.
use Rattle.std.proofs.Common.{◌≡◌, ◌∙◌, ℕ, Bool, true, false, List, [], ◌∷◌, ◌++◌, map, refl, sym, ap}
use Rattle.std.specs.Prelude.{◌&&◌, ◌==◌, filter, None, Some, unwrap_or, if◌then◌else◌}
use Rattle.std.proofs.lemmas.List.{map-append}
use Rattle.std.proofs.lemmas.Simd.{map-map}
use Rattle.rt_rules.specs.Numbers.{is}
use Rattle.rt_model.specs.Group.{Group, clients, group_processors, tasks}
use Rattle.rt_model.specs.Past.{Past}
use Rattle.rt_model.specs.Reservations.{left}
use Rattle.trace_views.specs.Cells.{CpuCell, TaskCell, cell_at, cell_away, cpu_cell, is_client, newest, resv_cell, running_on, runs_no_unit, task_cell}
use Rattle.trace_views.specs.Cells as cells
use Rattle.trace_views.specs.Moments.{Moment, is_unit}
use Rattle.chart_texts.specs.Charts.{group_resvs}
use Rattle.chart_cells.specs.Kept.{cell_of_states, finished, kept_cell, with_unit}
use Rattle.chart_cells.specs.KeptFirst.{cpu_at_end, cpu_at_unit, kept_cpu, kept_left}
use Rattle.chart_cells.specs.KeptFirstLaws.{unless_kept}
use Rattle.chart_cells.proofs.KeptCells.{kept_cells_follow_lem}
use Rattle.chart_cells.proofs.FirstUnits.{first_units_are_kept_lem}
use Rattle.chart_rows.specs.Rows.{Played, cpu_acted, cpu_closed, cpu_finished, cpu_kept, ends_in, played, resv_acted, resv_closed, resv_finished, resv_kept, rows_acted, rows_closed, rows_ended, rows_finished, rows_of, rows_seen, running, task_acted, task_closed, task_finished, task_kept, task_seen}
use Rattle.chart_rows.specs.Strips.{Strip, blank, column_of, done, seen}

module _ (g : Group) where
  -- ---- a state more

  seen-task : (ss : List Strip) (s : Strip) (x : Past) (t : ℕ) → task_seen g x (task_kept g ss s t) ≡ task_kept g ss (seen x s) t
  seen-task ss s x t = λ i. record (task_kept g ss s t) { kept = sym ((kept_cells_follow_lem g t (column_of s)).states x) i }

  seen-cpu : (ss : List Strip) (s : Strip) (x : Past) (q : ℕ) → cpu_kept g ss s q ≡ cpu_kept g ss (seen x s) q
  seen-cpu ss s x q = λ i. record (cpu_kept g ss s q) { kept = sym ((first_units_are_kept_lem.cpus g q (column_of s)).states x) i }

  seen-resv : (ss : List Strip) (s : Strip) (x : Past) (r : ℕ) → resv_kept g ss s r ≡ resv_kept g ss (seen x s) r
  seen-resv ss s x r = λ i. record (resv_kept g ss s r) { kept = sym ((first_units_are_kept_lem.lefts g r (column_of s)).states x) i }

  each : {A B : Type 0} (f h : A → B) (xs : List A) → ((x : A) → f x ≡ h x) → map f xs ≡ map h xs
  each f h [] same = refl
  each f h (x ∷ xs) same = λ i. same x i ∷ each f h xs same i

  pub seen-rows : (ss : List Strip) (s : Strip) (x : Past) → rows_seen g x (rows_of g ss s) ≡ rows_of g ss (seen x s)
  unfolding rows_of
  seen-rows ss s x = λ i. record {
    tasks = (map-map (task_seen g x) (task_kept g ss s) (tasks g) ∙ each _ _ (tasks g) (seen-task ss s x)) i;
    cpus = each _ _ (group_processors g) (seen-cpu ss s x) i;
    resvs = each _ _ (group_resvs g) (seen-resv ss s x) i;
  }

  -- ---- an act more

  acted-task : (ss : List Strip) (s : Strip) (m : Moment) (t : ℕ) → task_acted g m (task_kept g ss s t) ≡ task_kept g ss (done m s) t
  acted-task ss s m t = λ i. record (task_kept g ss s t) { kept = by_unit (is_unit m && is t m.act.task) refl i; end = ends_in t (done m s) }
    where
      by_unit : (b : Bool) → is_unit m && is t m.act.task ≡ b
          → (if b then with_unit m.act.cpu (cell_at g cells.ready t m.before) (kept_cell g t (column_of s)) else kept_cell g t (column_of s)) ≡ kept_cell g t (column_of (done m s))
      by_unit true h = sym ((kept_cells_follow_lem g t (column_of s)).units m h)
      by_unit false h = sym ((kept_cells_follow_lem g t (column_of s)).others m h)

  acted-cpu : (ss : List Strip) (s : Strip) (m : Moment) (q : ℕ) → cpu_acted g m (cpu_kept g ss s q) ≡ cpu_kept g ss (done m s) q
  acted-cpu ss s m q = λ i. record (cpu_kept g ss s q) { kept = by_unit (is_unit m && m.act.cpu == q) refl i }
    where
      by_unit : (b : Bool) → is_unit m && m.act.cpu == q ≡ b → (if b then unless_kept (kept_cpu g q (column_of s)) (cpu_at_unit g q m) else kept_cpu g q (column_of s)) ≡ kept_cpu g q (column_of (done m s))
      by_unit true h = sym ((first_units_are_kept_lem.cpus g q (column_of s)).units m h)
      by_unit false h = sym ((first_units_are_kept_lem.cpus g q (column_of s)).others m h)

  acted-resv : (ss : List Strip) (s : Strip) (m : Moment) (r : ℕ) → resv_acted g m (resv_kept g ss s r) ≡ resv_kept g ss (done m s) r
  acted-resv ss s m r = λ i. record (resv_kept g ss s r) { kept = by_unit (is_unit m && is_client g (clients g r) m.act.task) refl i }
    where
      by_unit : (b : Bool) → is_unit m && is_client g (clients g r) m.act.task ≡ b
          → (if b then unless_kept (kept_left g r (column_of s)) (left g r m.before) else kept_left g r (column_of s)) ≡ kept_left g r (column_of (done m s))
      by_unit true h = sym ((first_units_are_kept_lem.lefts g r (column_of s)).units m h)
      by_unit false h = sym ((first_units_are_kept_lem.lefts g r (column_of s)).others m h)

  pub acted-rows : (ss : List Strip) (s : Strip) (m : Moment) → rows_acted g m (rows_of g ss s) ≡ rows_of g ss (done m s)
  unfolding rows_of
  acted-rows ss s m = λ i. record {
    tasks = (map-map (task_acted g m) (task_kept g ss s) (tasks g) ∙ each _ _ (tasks g) (acted-task ss s m)) i;
    cpus = (map-map (cpu_acted g m) (cpu_kept g ss s) (group_processors g) ∙ each _ _ (group_processors g) (acted-cpu ss s m)) i;
    resvs = (map-map (resv_acted g m) (resv_kept g ss s) (group_resvs g) ∙ each _ _ (group_resvs g) (acted-resv ss s m)) i;
  }

  -- ---- the column is over

  module _ (ss : List Strip) (s : Strip) (x : Past) (is_newest : newest s.states ≡ x) where
    cell-ends : (q : ℕ) → unwrap_or (kept_cpu g q (column_of s)) (cpu_at_end g q x) ≡ cpu_cell g q (column_of s)
    cell-ends q = ap (λ y. unwrap_or (kept_cpu g q (column_of s)) (cpu_at_end g q y)) (sym is_newest) ∙ sym ((first_units_are_kept_lem.cpus g q (column_of s)).ends)

    left-ends : (r : ℕ) → unwrap_or (kept_left g r (column_of s)) (left g r x) ≡ resv_cell g r (column_of s)
    left-ends r = ap (λ y. unwrap_or (kept_left g r (column_of s)) (left g r y)) (sym is_newest) ∙ sym ((first_units_are_kept_lem.lefts g r (column_of s)).ends)

    abbrev plays : List Played
    plays = map (played g x) (map (cpu_kept g ss s) (group_processors g))

    running-by : (t : ℕ) (qs : List ℕ) → running g t (map (played g x) (map (cpu_kept g ss s) qs)) ≡ filter (λ q. runs_no_unit g t (cpu_cell g q (column_of s)).playing) qs
    running-by t [] = refl
    running-by t (q ∷ qs) = by_case (runs_no_unit g t (played g x (cpu_kept g ss s q)).playing) (runs_no_unit g t (cpu_cell g q (column_of s)).playing) (ap (λ (c : CpuCell). runs_no_unit g t c.playing) (cell-ends q)) (running-by t qs)
      where
        rest : List Played
        rest = filter (λ (p : Played). runs_no_unit g t p.playing) (map (played g x) (map (cpu_kept g ss s) qs))

        us : List ℕ
        us = filter (λ u. runs_no_unit g t (cpu_cell g u (column_of s)).playing) qs

        by_case : (b c : Bool) → b ≡ c → map (λ (p : Played). p.cpu) rest ≡ us → map (λ (p : Played). p.cpu) (if b then (played g x (cpu_kept g ss s q) ∷ rest) else rest) ≡ (if c then (q ∷ us) else us)
        by_case true true e h = ap (λ ys. q ∷ ys) h
        by_case false false e h = h
        by_case true false e h = cc
        by_case false true e h = cc

    running-is : (t : ℕ) → running g t plays ≡ running_on g t (column_of s)
    unfolding running_on
    running-is t = running-by t (group_processors g)

    cell-finished : (t : ℕ) → finished (running g t plays) (kept_cell g t (column_of s)) ≡ task_cell g t (column_of s)
    cell-finished t = ap (λ qs. finished qs (kept_cell g t (column_of s))) (running-is t) ∙ sym ((kept_cells_follow_lem g t (column_of s)).ends)

    closed-task : (t : ℕ) → task_closed g plays (task_kept g ss s t) ≡ task_kept g (ss ++ s ∷ []) blank t
    unfolding kept_cell cell_of_states
    closed-task t = λ i. record {
      task = t;
      cells = (ap (λ c. map (λ y. task_cell g t (column_of y)) ss ++ c ∷ []) (cell-finished t) ∙ sym (map-append (λ y. task_cell g t (column_of y)) ss (s ∷ []))) i;
      ends = sym (map-append (ends_in t) ss (s ∷ [])) i;
      kept = cell_away g;
      end = false;
    }

    closed-cpu : (q : ℕ) → cpu_closed g x (cpu_kept g ss s q) ≡ cpu_kept g (ss ++ s ∷ []) blank q
    unfolding kept_cpu
    closed-cpu q = λ i. record {
      cpu = q;
      cells = (ap (λ c. map (λ y. cpu_cell g q (column_of y)) ss ++ c ∷ []) (cell-ends q) ∙ sym (map-append (λ y. cpu_cell g q (column_of y)) ss (s ∷ []))) i;
      kept = None;
    }

    closed-resv : (r : ℕ) → resv_closed g x (resv_kept g ss s r) ≡ resv_kept g (ss ++ s ∷ []) blank r
    unfolding kept_left
    closed-resv r = λ i. record {
      resv = r;
      left = (ap (λ n. map (λ y. resv_cell g r (column_of y)) ss ++ n ∷ []) (left-ends r) ∙ sym (map-append (λ y. resv_cell g r (column_of y)) ss (s ∷ []))) i;
      kept = None;
    }

    pub closed-rows : rows_closed g x (rows_of g ss s) ≡ rows_of g (ss ++ s ∷ []) blank
    unfolding rows_of
    closed-rows = λ i. record {
      tasks = (map-map (task_closed g plays) (task_kept g ss s) (tasks g) ∙ each _ _ (tasks g) closed-task) i;
      cpus = (map-map (cpu_closed g x) (cpu_kept g ss s) (group_processors g) ∙ each _ _ (group_processors g) closed-cpu) i;
      resvs = (map-map (resv_closed g x) (resv_kept g ss s) (group_resvs g) ∙ each _ _ (group_resvs g) closed-resv) i;
    }

    -- ---- and its cells are kept

    pub finished-rows : rows_finished g x (rows_of g ss s) ≡ rows_ended g ss s
    unfolding rows_of rows_ended
    finished-rows = λ i. record {
      tasks = (map-map (task_finished g plays) (task_kept g ss s) (tasks g) ∙ each _ _ (tasks g) (λ t j. record (task_kept g ss s t) { kept = cell-finished t j })) i;
      cpus = (map-map (cpu_finished g x) (cpu_kept g ss s) (group_processors g) ∙ each _ _ (group_processors g) (λ q j. record (cpu_kept g ss s q) { kept = Some (cell-ends q j) })) i;
      resvs = (map-map (resv_finished g x) (resv_kept g ss s) (group_resvs g) ∙ each _ _ (group_resvs g) (λ r j. record (resv_kept g ss s r) { kept = Some (left-ends r j) })) i;
    }
