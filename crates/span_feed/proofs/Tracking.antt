-- Tracks over columns that are over, and one column more that stands for some ticks.
use Rattle.std.proofs.Common.{◌≡◌, ◌∙◌, ℕ, zero, suc, ◌+◌, ◌-◌, ◌<◌, List, [], ◌∷◌, ◌++◌, length, map, refl, sym, ap, arith}
use Rattle.std.specs.Prelude.{Bool, replicate}
use Rattle.std.proofs.lemmas.List.{length-map, map-append}
use Rattle.std.proofs.lemmas.Simd.{map-map}
use Rattle.rt_model.specs.Group as groups
use Rattle.rt_model.specs.Group.{Group, group_processors}
use Rattle.trace_views.specs.Cells.{cpu_cell, resv_cell, task_cell}
use Rattle.trace_views.specs.Spans.{spans}
use Rattle.chart_texts.specs.Charts.{group_resvs}
use Rattle.chart_cells.specs.Kept.{cell_of_states, kept_cell}
use Rattle.chart_cells.specs.KeptFirst.{kept_cpu, kept_left}
use Rattle.chart_rows.specs.Rows.{RowsKept, cpu_ended, cpu_kept, resv_ended, resv_kept, rows_ended, rows_of, task_cleared, task_ended, task_kept}
use Rattle.chart_rows.specs.Strips.{Strip, blank, column_of}
use Rattle.event_texts.specs.Budgets.{same_count}
use Rattle.event_texts.specs.CpuSpans as cpu_texts
use Rattle.event_texts.specs.TaskSpans as task_texts
use Rattle.event_lines.specs.Tracks.{GroupTracks}
use Rattle.span_feed.specs.Extended.{Decides, extended}
use Rattle.span_feed.specs.Spanned.{HasEnded, HasSpans, cpu_cleared, cpu_more, cpu_spanned, paired, resv_cleared, resv_more, resv_spanned, spanned, task_more, task_spanned}
use Rattle.span_feed.proofs.Extending.{spans-more}
use Rattle.span_feed.proofs.Pairs.{paired-maps}
use Rattle.span_feed.proofs.Sameness.{counts, cpu_cells, task_cells}

map-replicate : {A B : Type 0} (f : A → B) (n : ℕ) (x : A) → map f (replicate n x) ≡ replicate n (f x)
map-replicate f zero x = refl
map-replicate f (suc n) x = ap (λ ys. f x ∷ ys) (map-replicate f n x)

-- the spans of what columns show
spans-of : {A : Type 0} (same : A → A → Bool) → Decides A same → (shown : Strip → A) (from to : ℕ) (ss : List Strip) (s : Strip) → from ≡ length ss → from < to
    → extended same from to (shown s) (spans same (map shown ss)) ≡ spans same (map shown (ss ++ replicate (to - from) s))
spans-of same d shown from to ss s at later =
    let n : ℕ = to - from in
    let some : 0 < n = omega arith in
    let begin : length (map shown ss) ≡ from = length-map ss shown ∙ sym at in
    let end : from + n ≡ to = omega arith in
    sym (
    ap (spans same) (map-append shown ss (replicate n s) ∙ ap (λ ys. map shown ss ++ ys) (map-replicate shown n s))
    ∙ spans-more same d n (map shown ss) (shown s) some
    ∙ ap (λ k. extended same k (k + n) (shown s) (spans same (map shown ss))) begin
    ∙ ap (λ k. extended same from k (shown s) (spans same (map shown ss))) end)

module _ (g : Group) (ss : List Strip) (s : Strip) where
  -- ---- as long as the tracks

  module _ (rows : RowsKept) (tracks : GroupTracks) (rows_are : rows ≡ rows_ended g [] s) (tracks_are : tracks ≡ spanned g ss) where
    pub tasks-beside : length tracks.tasks ≡ length rows.tasks
    unfolding rows_ended spanned
    tasks-beside =
        ap (λ (v : GroupTracks). length v.tasks) tracks_are ∙ length-map (groups.tasks g) (task_spanned g ss)
        ∙ sym (ap (λ (v : RowsKept). length v.tasks) rows_are ∙ length-map (groups.tasks g) (task_ended g [] s))

    pub cpus-beside : length tracks.cpus ≡ length rows.cpus
    unfolding rows_ended spanned
    cpus-beside =
        ap (λ (v : GroupTracks). length v.cpus) tracks_are ∙ length-map (group_processors g) (cpu_spanned g ss)
        ∙ sym (ap (λ (v : RowsKept). length v.cpus) rows_are ∙ length-map (group_processors g) (cpu_ended g [] s))

    pub resvs-beside : length tracks.resvs ≡ length rows.resvs
    unfolding rows_ended spanned
    resvs-beside =
        ap (λ (v : GroupTracks). length v.resvs) tracks_are ∙ length-map (group_resvs g) (resv_spanned g ss)
        ∙ sym (ap (λ (v : RowsKept). length v.resvs) rows_are ∙ length-map (group_resvs g) (resv_ended g [] s))

  -- ---- what is kept of it is taken out of the rows

  cleared-each : {A B : Type 0} (f h : A → B) → ((x : A) → f x ≡ h x) → (xs : List A) → map f xs ≡ map h xs
  cleared-each f h same [] = refl
  cleared-each f h same (x ∷ xs) = λ i. same x i ∷ cleared-each f h same xs i

  task-cleared : (t : ℕ) → task_cleared g (task_ended g [] s t) ≡ task_kept g [] blank t
  unfolding kept_cell cell_of_states
  task-cleared t = refl

  cpu-cleared : (q : ℕ) → cpu_cleared (cpu_ended g [] s q) ≡ cpu_kept g [] blank q
  unfolding kept_cpu
  cpu-cleared q = refl

  resv-cleared : (r : ℕ) → resv_cleared (resv_ended g [] s r) ≡ resv_kept g [] blank r
  unfolding kept_left
  resv-cleared r = refl

  pub cleared-rows : (rows : RowsKept) → rows ≡ rows_ended g [] s
      → (let v : RowsKept = record { tasks = map (task_cleared g) rows.tasks; cpus = map cpu_cleared rows.cpus; resvs = map resv_cleared rows.resvs } in v) ≡ rows_of g [] blank
  unfolding rows_of rows_ended
  cleared-rows rows is = λ i. record {
    tasks = (ap (λ (v : RowsKept). map (task_cleared g) v.tasks) is ∙ map-map (task_cleared g) (task_ended g [] s) (groups.tasks g) ∙ cleared-each _ _ task-cleared (groups.tasks g)) i;
    cpus = (ap (λ (v : RowsKept). map cpu_cleared v.cpus) is ∙ map-map cpu_cleared (cpu_ended g [] s) (group_processors g) ∙ cleared-each _ _ cpu-cleared (group_processors g)) i;
    resvs = (ap (λ (v : RowsKept). map resv_cleared v.resvs) is ∙ map-map resv_cleared (resv_ended g [] s) (group_resvs g) ∙ cleared-each _ _ resv-cleared (group_resvs g)) i;
  }

  -- ---- and put behind the spans

  module _ (from to : ℕ) (at : from ≡ length ss) (later : from < to) where
    abbrev pub longer_by : List Strip
    longer_by = ss ++ replicate (to - from) s

    task-longer : (t : ℕ) → task_more from to (task_ended g [] s t) (task_spanned g ss t) ≡ task_spanned g longer_by t
    task-longer t = λ i. record (task_spanned g ss t) { spans = spans-of task_texts.same_cell task_cells (λ x. task_cell g t (column_of x)) from to ss s at later i }

    cpu-longer : (q : ℕ) → cpu_more from to (cpu_ended g [] s q) (cpu_spanned g ss q) ≡ cpu_spanned g longer_by q
    cpu-longer q = λ i. record (cpu_spanned g ss q) { spans = spans-of cpu_texts.same_cell cpu_cells (λ x. cpu_cell g q (column_of x)) from to ss s at later i }

    resv-longer : (r : ℕ) → resv_more from to (resv_ended g [] s r) (resv_spanned g ss r) ≡ resv_spanned g longer_by r
    resv-longer r = λ i. record (resv_spanned g ss r) { spans = spans-of same_count counts (λ x. resv_cell g r (column_of x)) from to ss s at later i }

    pub longer-tracks : (rows : RowsKept) (tracks : GroupTracks) → rows ≡ rows_ended g [] s → tracks ≡ spanned g ss
        → (let v : GroupTracks = record {
          group = tracks.group;
          tasks = paired (task_more from to) rows.tasks tracks.tasks;
          cpus = paired (cpu_more from to) rows.cpus tracks.cpus;
          resvs = paired (resv_more from to) rows.resvs tracks.resvs;
        } in v) ≡ spanned g longer_by
    unfolding rows_ended spanned
    longer-tracks rows tracks rows_are tracks_are = λ i. record {
      group = ap (λ (v : GroupTracks). v.group) tracks_are i;
      tasks = ((λ j. paired (task_more from to) (rows_are j).tasks (tracks_are j).tasks) ∙ paired-maps (task_more from to) (task_ended g [] s) (task_spanned g ss) (task_spanned g longer_by) task-longer (groups.tasks g)) i;
      cpus = ((λ j. paired (cpu_more from to) (rows_are j).cpus (tracks_are j).cpus) ∙ paired-maps (cpu_more from to) (cpu_ended g [] s) (cpu_spanned g ss) (cpu_spanned g longer_by) cpu-longer (group_processors g)) i;
      resvs = ((λ j. paired (resv_more from to) (rows_are j).resvs (tracks_are j).resvs) ∙ paired-maps (resv_more from to) (resv_ended g [] s) (resv_spanned g ss) (resv_spanned g longer_by) resv-longer (group_resvs g)) i;
    }

    pub column-taken : (rows new : RowsKept) (tracks made : GroupTracks) → new.tasks ≡ map (task_cleared g) rows.tasks → new.cpus ≡ map cpu_cleared rows.cpus → new.resvs ≡ map resv_cleared rows.resvs → made.group ≡ tracks.group
        → made.tasks ≡ paired (task_more from to) rows.tasks tracks.tasks → made.cpus ≡ paired (cpu_more from to) rows.cpus tracks.cpus → made.resvs ≡ paired (resv_more from to) rows.resvs tracks.resvs
        → HasEnded g ss s rows tracks → HasSpans g longer_by blank new made
    column-taken rows new tracks made new_tasks new_cpus new_resvs made_group made_tasks made_cpus made_resvs has = record {
      rows_are = (λ i. record { tasks = new_tasks i; cpus = new_cpus i; resvs = new_resvs i }) ∙ cleared-rows rows has.rows_are;
      tracks_are = (λ i. record { group = made_group i; tasks = made_tasks i; cpus = made_cpus i; resvs = made_resvs i }) ∙ longer-tracks rows tracks has.rows_are has.tracks_are;
    }
