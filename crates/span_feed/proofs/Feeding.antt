-- What each call makes of the spans of a group, tick by tick.
use Rattle.std.proofs.Common.{◌≡◌, ◌∙◌, ℕ, suc, ◌+◌, ◌-◌, ◌<◌, ◌≤◌, max, List, [], ◌∷◌, ◌++◌, length, map, refl, sym, ap, arith}
use Rattle.std.specs.Prelude.{replicate}
use Rattle.std.proofs.lemmas.Simd.{map-map}
use Rattle.rt_rules.specs.Numbers.{numbers_from}
use Rattle.rt_model.specs.Group as groups
use Rattle.rt_model.specs.Group.{Group, group_processors}
use Rattle.rt_model.specs.Past.{Clock, Past, now}
use Rattle.trace_views.specs.Cells.{cpu_cell, newest, resv_cell, running_on, task_cell}
use Rattle.trace_views.specs.Columns.{tick_column, tick_columns}
use Rattle.trace_views.specs.Moments.{Moment}
use Rattle.trace_views.specs.Spans as runs
use Rattle.chart_texts.specs.Charts.{group_resvs}
use Rattle.chart_rows.specs.Rows.{RowsKept, rows_acted, rows_finished, rows_of, rows_seen}
use Rattle.chart_rows.specs.Strips.{Strip, blank, column_of, done, seen}
use Rattle.chart_rows.specs.UpTo.{AreUpTo}
use Rattle.chart_rows.proofs.RowLaws.{acted-rows, finished-rows, seen-rows}
use Rattle.chart_rows.proofs.UpTo.{rows-still, rows-up-to}
use Rattle.event_texts.specs.Budgets.{same_count}
use Rattle.event_texts.specs.CpuSpans as cpu_texts
use Rattle.event_texts.specs.TaskSpans as task_texts
use Rattle.event_lines.specs.Tracks.{GroupTracks, TaskTrack}
use Rattle.event_lines.specs.TracksOf.{cpu_track, resv_track, task_track, tracks_of}
use Rattle.span_feed.specs.Spanned.{HasEnded, HasSpans, cpu_spanned, resv_spanned, spanned, task_spanned, unmarked}
use Rattle.span_feed.specs.TickStrips.{tick_strip, ticks_below, turned_strip}
use Rattle.chart_rows.proofs.TickLaws.{strip-seen}
use Rattle.span_feed.proofs.TickLaws.{below-gap, below-one, first-strip, length-below, turned-not}

module _ (g : Group) (tracks : GroupTracks) where
  -- ---- the column that goes on is over, and a column of the newest state alone

  pub column-ended : (over : List Strip) (going : Strip) (past : Past) (rows new : RowsKept) → newest going.states ≡ past → HasSpans g over going rows tracks
      → new ≡ rows_finished g past rows → HasEnded g over going new tracks
  column-ended over going past rows new is_newest has made =
      record { rows_are = made ∙ ap (rows_finished g past) has.rows_are ∙ finished-rows g [] going past is_newest; tracks_are = has.tracks_are }

  pub state-seen : (over : List Strip) (going : Strip) (past : Past) (rows new : RowsKept) → HasSpans g over going rows tracks → new ≡ rows_seen g past rows → HasSpans g over (seen past going) new tracks
  state-seen over going past rows new has made = record { rows_are = made ∙ ap (rows_seen g past) has.rows_are ∙ seen-rows g [] going past; tracks_are = has.tracks_are }

  pub act-taken : (over : List Strip) (going : Strip) (m : Moment) (rows new : RowsKept) → HasSpans g over going rows tracks → new ≡ rows_acted g m rows → HasSpans g over (done m going) new tracks
  act-taken over going m rows new has made = record { rows_are = made ∙ ap (rows_acted g m) has.rows_are ∙ acted-rows g [] going m; tracks_are = has.tracks_are }

-- the rows are up to the newest state, and so they are once an act is taken; a move of the clock that is not later leaves them
module _ (g : Group) (past : Past) (over : List Strip) (rows : RowsKept) (tracks : GroupTracks) where
  pub acted-up-to : (m : Moment) → HasSpans g over (done m (tick_strip past (now past))) rows tracks → AreUpTo g past rows
  acted-up-to m has = let s = strip-seen past in rows-up-to g [] (done m s.0) past rows (has.rows_are ∙ ap (λ x. rows_of g [] (done m x)) s.1)

  pub moved-still : (tick : ℕ) → tick ≤ now past → HasSpans g over (turned_strip tick past) rows tracks → rows ≡ rows_seen g (Clock tick ∷ past) rows
  moved-still tick low has =
      let s = strip-seen past in rows-still g tick past rows low (rows-up-to g [] s.0 past rows (has.rows_are ∙ ap (rows_of g []) (turned-not tick past low ∙ s.1)))

-- at opening
pub opened : (g : Group) (rows new : RowsKept) (tracks : GroupTracks) → rows ≡ rows_of g [] blank → new ≡ rows_seen g [] rows → tracks.group ≡ g.number
    → tracks.tasks ≡ map (task_spanned g []) (groups.tasks g) → tracks.cpus ≡ map (cpu_spanned g []) (group_processors g) → tracks.resvs ≡ map (resv_spanned g []) (group_resvs g) → HasSpans g [] (tick_strip [] 0) new tracks
unfolding spanned
opened g rows new tracks rows_are made group tasks cpus resvs = record {
  rows_are = made ∙ ap (rows_seen g []) rows_are ∙ seen-rows g [] blank [] ∙ ap (rows_of g []) first-strip;
  tracks_are = λ i. record { group = group i; tasks = tasks i; cpus = cpus i; resvs = resvs i };
}

-- one tick
pub one-tick : (n : ℕ) (over : List Strip) (going : Strip) → over ++ replicate (n + 1 - n) going ≡ over ++ going ∷ []
one-tick n over going = let one : n + 1 - n ≡ 1 = omega arith in ap (λ k. over ++ replicate k going) one

-- ---- the clock is to be moved

pub next-long : (past : Past) (n : ℕ) → n ≡ now past → n + 1 ≡ length (ticks_below past (now past) ++ tick_strip past (now past) ∷ [])
next-long past n at = ap (λ k. k + 1) at ∙ sym (ap length (below-one past (now past)) ∙ length-below past (now past + 1))

pub ticks-turned : (past : Past) (n tick : ℕ) → n ≡ now past → n < tick
    → (ticks_below past (now past) ++ tick_strip past (now past) ∷ []) ++ replicate (tick - (n + 1)) (seen past blank) ≡ ticks_below past (max (now past) tick)
ticks-turned past n tick at later =
    let after : now past < now past + 1 = omega arith in
    let size : now past + 1 + (tick - (n + 1)) ≡ max (now past) tick = omega arith in
    ap (λ ss. ss ++ replicate (tick - (n + 1)) (seen past blank)) (below-one past (now past)) ∙ below-gap past (now past + 1) (tick - (n + 1)) after ∙ ap (ticks_below past) size

pub ticks-stay : (past : Past) (n tick : ℕ) → n ≡ now past → tick ≤ n → ticks_below past (now past) ≡ ticks_below past (max (now past) tick)
ticks-stay past n tick at low = let size : now past ≡ max (now past) tick = omega arith in ap (ticks_below past) size

-- ---- the end

module _ (g : Group) (past : Past) where
  cells-at : {A : Type 0} (f : Strip → A) (h : ℕ → A) → ((n : ℕ) → f (tick_strip past n) ≡ h n) → (ns : List ℕ) → map f (map (tick_strip past) ns) ≡ map h ns
  cells-at f h is [] = refl
  cells-at f h is (n ∷ ns) = λ i. is n i ∷ cells-at f h is ns i

  task-at : (t n : ℕ) → task_cell g t (column_of (tick_strip past n)) ≡ task_cell g t (tick_column past n)
  unfolding task_cell running_on cpu_cell
  task-at t n = refl

  cpu-at : (q n : ℕ) → cpu_cell g q (column_of (tick_strip past n)) ≡ cpu_cell g q (tick_column past n)
  unfolding cpu_cell
  cpu-at q n = refl

  resv-at : (r n : ℕ) → resv_cell g r (column_of (tick_strip past n)) ≡ resv_cell g r (tick_column past n)
  unfolding resv_cell
  resv-at r n = refl

  over-all : {A : Type 0} (f : Strip → A) (h : ℕ → A) (n : ℕ) → n ≡ suc (now past) → ((k : ℕ) → f (tick_strip past k) ≡ h k) → map f (ticks_below past n) ≡ map h (numbers_from 0 (suc (now past)))
  over-all f h n at is = cells-at f h is (numbers_from 0 n) ∙ ap (λ k. map h (numbers_from 0 k)) at

  module _ (n : ℕ) (at : n ≡ suc (now past)) where
    task-whole : (t : ℕ) → task_spanned g (ticks_below past n) t ≡ (let x : TaskTrack = record (task_track g past t) { jobs = [] } in x)
    unfolding task_track tick_columns
    task-whole t = λ i. record {
      task = t;
      spans = ap (runs.spans task_texts.same_cell) (over-all (λ x. task_cell g t (column_of x)) (λ k. task_cell g t (tick_column past k)) n at (task-at t) ∙ sym (map-map (task_cell g t) (tick_column past) (numbers_from 0 (suc (now past))))) i;
      jobs = [];
    }

    cpu-whole : (q : ℕ) → cpu_spanned g (ticks_below past n) q ≡ cpu_track g past q
    unfolding cpu_track tick_columns
    cpu-whole q = λ i. record {
      cpu = q;
      spans = ap (runs.spans cpu_texts.same_cell) (over-all (λ x. cpu_cell g q (column_of x)) (λ k. cpu_cell g q (tick_column past k)) n at (cpu-at q) ∙ sym (map-map (cpu_cell g q) (tick_column past) (numbers_from 0 (suc (now past))))) i;
    }

    resv-whole : (r : ℕ) → resv_spanned g (ticks_below past n) r ≡ resv_track g past r
    unfolding resv_track tick_columns
    resv-whole r = λ i. record {
      resv = r;
      spans = ap (runs.spans same_count) (over-all (λ x. resv_cell g r (column_of x)) (λ k. resv_cell g r (tick_column past k)) n at (resv-at r) ∙ sym (map-map (resv_cell g r) (tick_column past) (numbers_from 0 (suc (now past))))) i;
    }

    each : {A : Type 0} (f h : ℕ → A) → ((t : ℕ) → f t ≡ h t) → (ts : List ℕ) → map f ts ≡ map h ts
    each f h is [] = refl
    each f h is (t ∷ ts) = λ i. is t i ∷ each f h is ts i

    whole : spanned g (ticks_below past n) ≡ unmarked (tracks_of g past)
    unfolding spanned tracks_of
    whole = λ i. record {
      group = g.number;
      tasks = (each _ _ task-whole (groups.tasks g) ∙ sym (map-map (λ (t : TaskTrack). record t { jobs = [] }) (task_track g past) (groups.tasks g))) i;
      cpus = each _ _ cpu-whole (group_processors g) i;
      resvs = each _ _ resv-whole (group_resvs g) i;
    }

  -- all ticks are over
  pub all-over : spanned g (ticks_below past (now past) ++ tick_strip past (now past) ∷ []) ≡ unmarked (tracks_of g past)
  all-over = ap (spanned g) (below-one past (now past)) ∙ whole (now past + 1) (let next : now past + 1 ≡ suc (now past) = omega arith in next)
