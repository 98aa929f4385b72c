-- Once the columns of a window are over, the steps that follow change no more than the clock at the end.
use Rattle.std.proofs.Common.{◌≡◌, ◌∙◌, ℕ, zero, suc, ◌+◌, ◌-◌, ◌<◌, ◌≤◌, ◌⊎◌, inl, inr, min, true, List, [], ◌∷◌, ◌++◌, length, get_or, map, take, drop, refl, sym, ap, subst, arith}
use Rattle.std.specs.List.{list_any}
use Rattle.std.specs.Prelude.{◌==◌, slice_get, Option, None, Some}
use Rattle.std.proofs.lemmas.Bool.Decides.{nat_tests}
use Rattle.std.proofs.lemmas.List.{length-map}
use Rattle.std.proofs.lemmas.Option.{get_or_from_slice_get, slice_get_within}
use Rattle.rt_rules.specs.declared.history.Entry.{Entry}
use Rattle.rt_rules.specs.Numbers.{has, is, numbers_from}
use Rattle.rt_rules.proofs.BoolLaws.{or_true}
use Rattle.rt_rules.proofs.MemberLaws.{equal_self}
use Rattle.rt_task.specs.Validity.{IsValid}
use Rattle.rt_model.specs.Group.{Group, task, tasks}
use Rattle.rt_model.specs.Histories.{past_from}
use Rattle.rt_model.specs.Past.{Past, now}
use Rattle.rt_plays.proofs.AtHomeLaws.{tasks_are_at_home}
use Rattle.job_facts.proofs.Periods.{period-positive}
use Rattle.trace_views.specs.Cells.{task_cell}
use Rattle.trace_views.specs.Columns.{Column, entry_columns, entry_columns_from, states_of_entry, tick_column}
use Rattle.trace_views.specs.Marks.{marks}
use Rattle.trace_views.specs.Moments.{Moment, acts_among}
use Rattle.chart_rows.proofs.TickLaws.{map-below}
use Rattle.chart_texts.specs.Charts as charts
use Rattle.chart_texts.specs.Charts.{panel_of, task_row_in}
use Rattle.chart_texts.specs.Windows.{columns_in, columns_on, cut}
use Rattle.chart_texts.specs.declared.window.Axis.{Axis}
use Rattle.chart_texts.specs.declared.window.Axis.TheVariants.{Entries, Ticks}
use Rattle.chart_texts.specs.declared.window.Window.{Window}
use Rattle.chart_feed.specs.EntryClocks.{entry_clocks, first_at}
use Rattle.chart_feed.specs.Finished.{AreTimed, EndsInAct}
use Rattle.chart_feed.specs.Over.{is_before, is_over}
use Rattle.chart_feed.specs.Times.{edges_in, edges_of, next_in}
use Rattle.chart_feed.specs.WindowStrips.{entries_of}
use Rattle.chart_feed.proofs.Clocked.{after-window}
use Rattle.chart_feed.proofs.Edges.{Each, are-timed, clocks-rise, edges-entries}
use Rattle.chart_feed.proofs.GoesOn.{AreOver, ends-on, entries-later, later-of, marks-later, now-later, tick-later}
use Rattle.chart_feed.proofs.MarkLaws.{IsRising, marks-shown, rest-rising}
use Rattle.chart_feed.proofs.Ticks.{columns-ticks}

-- ---- by ticks

ticks-same : (w : Window) (later early : Past) → w.to ≤ now early → columns_in Ticks w (later ++ early) ≡ columns_in Ticks w early
ticks-same w later early over =
    let size : min (suc (now (later ++ early))) w.to - w.from ≡ min (suc (now early)) w.to - w.from = omega (arith, over, now-later later early) in
    columns-ticks w (later ++ early) ∙ ap (λ n. map (tick_column (later ++ early)) (numbers_from w.from n)) size
    ∙ map-below (tick_column (later ++ early)) (tick_column early) w.from (min (suc (now early)) w.to - w.from) (now early) (λ k low. omega (arith, low, over)) (tick-later later early)
    ∙ sym (columns-ticks w early)

numbers-over : (past : Past) (a n clock : ℕ) → a + n ≤ clock → Each (AreOver clock) (map edges_of (map (tick_column past) (numbers_from a n)))
numbers-over past a zero clock low = tt
numbers-over past a (suc n) clock low = (record { first = omega (arith, low); high = omega (arith, low); next = omega (arith, low) }, numbers-over past (suc a) n clock (omega (arith, low)))

ticks-over : (w : Window) (past : Past) → w.from ≤ w.to → w.to ≤ now past → Each (AreOver (now past)) (map edges_of (columns_in Ticks w past))
ticks-over w past order over =
    subst (λ cs. Each (AreOver (now past)) (map edges_of cs)) (sym (columns-ticks w past)) (numbers-over past w.from (min (suc (now past)) w.to - w.from) (now past) (omega (arith, order, over)))

-- ---- by entries

abbrev entry_column : ℕ → ℕ → Past → ℕ → Column
entry_column i first x next = record { label = i; first = first; high = now x; next = next; states = states_of_entry x; acts = acts_among (x ∷ []) }

take-same : (n i first : ℕ) (xs ys : List Past) → n < length xs → take n (entry_columns_from i first (xs ++ ys)) ≡ take n (entry_columns_from i first xs)
take-same zero i first xs ys low = refl
take-same (suc n) i first [] ys low = absurd (omega arith)
take-same (suc n) i first (x ∷ []) ys low = absurd (omega arith)
take-same (suc n) i first (x ∷ y ∷ zs) ys low = ap (λ (cs : List Column). entry_column i first x (now y) ∷ cs) (take-same n (suc i) (suc (now x)) (y ∷ zs) ys (omega (arith, low)))

drop-same : (m n i first : ℕ) (xs ys : List Past) → m + n < length xs → take n (drop m (entry_columns_from i first (xs ++ ys))) ≡ take n (drop m (entry_columns_from i first xs))
drop-same zero n i first xs ys low = take-same n i first xs ys (omega (arith, low))
drop-same (suc m) n i first [] ys low = absurd (omega arith)
drop-same (suc m) n i first (x ∷ xs) ys low = drop-same m n (suc i) (suc (now x)) xs ys (omega (arith, low))

entries-same : (w : Window) (later early : Past) → w.from ≤ w.to → w.to < length (entry_clocks early) → columns_in Entries w (later ++ early) ≡ columns_in Entries w early
unfolding columns_in columns_on entry_columns
entries-same w later early order many =
    let more = entries-later later early in
    let inside : w.from + (w.to - w.from) < length (entries_of early) = omega (arith, order, many, length-map (entries_of early) now) in
    ap (λ (xs : List Past). cut w (entry_columns_from 0 0 xs)) more.1 ∙ drop-same w.from (w.to - w.from) 0 0 (entries_of early) more.0 inside

-- clocks that rise are no later than one of them up to that

drop-rising : (n : ℕ) (cs : List ℕ) → IsRising cs → IsRising (drop n cs)
drop-rising zero cs rising = rising
drop-rising (suc n) [] rising = rising
drop-rising (suc n) (c ∷ cs) rising = drop-rising n cs (rest-rising c cs rising)

head-before : (c : ℕ) (cs : List ℕ) (n a : ℕ) → IsRising (c ∷ cs) → slice_get (c ∷ cs) n ≡ Some a → c ≤ a
head-before c cs n a rising is =
    let low : c ≤ get_or (c ∷ cs) n 0 = rising 0 n 0 (omega arith) (slice_get_within (c ∷ cs) n a is) in
    omega (arith, low, get_or_from_slice_get (c ∷ cs) n a 0 is)

first-before : (first n m : ℕ) (cs : List ℕ) (a : ℕ) → n ≤ m → IsRising cs → slice_get cs m ≡ Some a → first ≤ suc a → first_at first n cs ≤ suc a
first-before first zero m cs a le rising is low = low
first-before first (suc n) m [] a le rising is low = low
first-before first (suc n) zero (c ∷ cs) a le rising is low = absurd (omega arith)
first-before first (suc n) (suc m) (c ∷ cs) a le rising is low =
    let here : c ≤ a = head-before c cs (suc m) a rising is in
    first-before (suc c) n m cs a (omega (arith, le)) (rest-rising c cs rising) is (omega (arith, here))

edges-over : (clock first n : ℕ) (cs : List ℕ) (a : ℕ) → IsRising cs → slice_get cs n ≡ Some a → a < clock → first ≤ suc a → Each (AreOver clock) (edges_in first (take n cs) (Some a))
edges-over clock first zero cs a rising is early low = tt
edges-over clock first (suc n) [] a rising is early low = tt
edges-over clock first (suc n) (c ∷ cs) a rising is early low = (
  record { first = omega (arith, early, low); high = omega (arith, early, here); next = omega (arith, early, behind n cs (rest-rising c cs rising) is) },
  edges-over clock (suc c) n cs a (rest-rising c cs rising) is early (omega (arith, here)),
)
  where
    here : c ≤ a
    here = head-before c cs (suc n) a rising is

    behind : (m : ℕ) (ds : List ℕ) → IsRising ds → slice_get ds m ≡ Some a → next_in c (take m ds) (Some a) ≤ a
    behind zero ds r e = omega arith
    behind (suc m) [] r e = omega arith
    behind (suc m) (d ∷ ds) r e = head-before d ds (suc m) a r e

entries-over : (w : Window) (past : Past) (a : ℕ) → w.from ≤ w.to → slice_get (entry_clocks past) w.to ≡ Some a → a < now past → Each (AreOver (now past)) (map edges_of (columns_in Entries w past))
entries-over w past a order is early =
    let cs : List ℕ = entry_clocks past in
    let rising : IsRising cs = clocks-rise past in
    let at : slice_get (drop w.from cs) (w.to - w.from) ≡ Some a = after-window w cs order ∙ is in
    subst (Each (AreOver (now past))) (sym (edges-entries w past ∙ ap (edges_in (first_at 0 w.from cs) (cut w cs)) at))
    (edges-over (now past) (first_at 0 w.from cs) (w.to - w.from) (drop w.from cs) a (drop-rising w.from cs rising) at early (first-before 0 w.from w.to cs a order rising is (omega arith)))

-- ---- the columns of a window that is over

behind-window : (clock : ℕ) (o : Option ℕ) → is_before clock o ≡ true → (a : ℕ) × (o ≡ Some a) × (a < clock)
behind-window clock None h = cc
behind-window clock (Some a) h = (a, refl, grind (arith, nat_tests, h))

columns-same : (axis : Axis) (w : Window) (later early : Past) → w.from ≤ w.to → is_over axis w early ≡ true → columns_in axis w (later ++ early) ≡ columns_in axis w early
columns-same Ticks w later early order over = ticks-same w later early (grind (arith, nat_tests, over))
columns-same Entries w later early order over =
    let a = behind-window (now early) (slice_get (entry_clocks early) w.to) over in
    entries-same w later early order (slice_get_within (entry_clocks early) w.to a.0 a.1)

columns-over : (axis : Axis) (w : Window) (past : Past) → w.from ≤ w.to → is_over axis w past ≡ true → Each (AreOver (now past)) (map edges_of (columns_in axis w past))
columns-over Ticks w past order over = ticks-over w past order (grind (arith, nat_tests, over))
columns-over Entries w past order over =
    let a = behind-window (now past) (slice_get (entry_clocks past) w.to) over in
    entries-over w past a.0 order a.1 a.2

-- ---- rows and panels

map-among : {A : Type 0} (f h : ℕ → A) (ts : List ℕ) → ((t : ℕ) → has t ts ≡ true → f t ≡ h t) → map f ts ≡ map h ts
map-among f h [] same = refl
map-among f h (t ∷ ts) same = λ i. same t (rw equal_self refl) i ∷ map-among f h ts (λ u m. same u (rw m (or_true (u == t)))) i

periods : (g : Group) (t : ℕ) → IsValid g.setup → has t (tasks g) ≡ true → 0 < (task g t).period
unfolding task
periods g t valid there = let home = tasks_are_at_home g t valid there in period-positive g.setup valid (t - 1) (omega (arith, home.low, home.high))

module _ (g : Group) (later early : Past) where
  cells-same : (t : ℕ) → 0 < (task g t).period → (cs : List Column) → Each (AreOver (now early)) (map edges_of cs) → AreTimed t (later ++ early) cs → AreTimed t early cs
      → map (λ c. let m : charts.Marked = record { cell = task_cell g t c; marks = marks g (later ++ early) t c } in m) cs ≡ map (λ c. let m : charts.Marked = record { cell = task_cell g t c; marks = marks g early t c } in m) cs
  cells-same t positive [] over timed was = refl
  cells-same t positive (c ∷ cs) over timed was =
      let same : marks g (later ++ early) t c ≡ marks g early t c =
      marks-shown g t (later ++ early) positive c timed.0 ∙ marks-later (task g t) t later early (edges_of c) (list_any (λ (m : Moment). is t m.act.ended) c.acts) over.0
      ∙ sym (marks-shown g t early positive c was.0) in
      λ i. (let m : charts.Marked = record { cell = task_cell g t c; marks = same i } in m) ∷ cells-same t positive cs over.1 timed.1 was.1 i

  row-same : (t : ℕ) → 0 < (task g t).period → (cs : List Column) → Each (AreOver (now early)) (map edges_of cs) → AreTimed t (later ++ early) cs → AreTimed t early cs → task_row_in g (later ++ early) cs t ≡ task_row_in g early cs t
  unfolding task_row_in
  row-same t positive cs over timed was = λ i. record { task = t; cells = cells-same t positive cs over timed was i }

  panel-same : (axis : Axis) (w : Window) → IsValid g.setup → w.from ≤ w.to → EndsInAct early → EndsInAct (later ++ early) → is_over axis w early ≡ true
      → panel_of g (columns_in axis w (later ++ early)) (later ++ early) ≡ record (panel_of g (columns_in axis w early) early) { last = now (later ++ early) }
  unfolding panel_of
  panel-same axis w valid order whole still over =
      let cs : List Column = columns_in axis w early in
      let same : columns_in axis w (later ++ early) ≡ cs = columns-same axis w later early order over in
      let rows : map (task_row_in g (later ++ early) cs) (tasks g) ≡ map (task_row_in g early cs) (tasks g) =
      map-among (task_row_in g (later ++ early) cs) (task_row_in g early cs) (tasks g) (λ t there.
      let positive = periods g t valid there in
      row-same t positive cs (columns-over axis w early order over) (subst (AreTimed t (later ++ early)) same (are-timed axis g t (later ++ early) positive w still)) (are-timed axis g t early positive w whole)) in
      ap (λ xs. panel_of g xs (later ++ early)) same ∙ ap (λ xs. record (panel_of g cs early) { last = now (later ++ early); tasks = xs }) rows

-- a panel at the end of a window, with the clock at the end of all, is that of all
module _ (g : Group) (axis : Axis) (w : Window) (early : Past) (es : List Entry) (valid : IsValid g.setup) (order : w.from ≤ w.to) (whole : EndsInAct early) where
  over-shown : is_over axis w early ≡ true
      → record (panel_of g (columns_in axis w early) early) { last = now (past_from g early es) } ≡ panel_of g (columns_in axis w (past_from g early es)) (past_from g early es)
  over-shown over =
      let later = later-of g early es in
      let still : EndsInAct (later.0 ++ early) = subst EndsInAct later.1 (ends-on g early es whole) in
      ap (λ p. record (panel_of g (columns_in axis w early) early) { last = now p }) later.1 ∙ sym (panel-same g later.0 early axis w valid order whole still over)
      ∙ sym (ap (λ p. panel_of g (columns_in axis w p) p) later.1)

  all-shown : es ≡ [] → record (panel_of g (columns_in axis w early) early) { last = now (past_from g early es) } ≡ panel_of g (columns_in axis w (past_from g early es)) (past_from g early es)
  unfolding panel_of past_from
  all-shown none =
      ap (λ (xs : List Entry). record (panel_of g (columns_in axis w early) early) { last = now (past_from g early xs) }) none
      ∙ sym (ap (λ (xs : List Entry). panel_of g (columns_in axis w (past_from g early xs)) (past_from g early xs)) none)

  pub panel-shown : (shown : charts.Panel) (last : ℕ) → shown ≡ panel_of g (columns_in axis w early) early → last ≡ now (past_from g early es) → (es ≡ []) ⊎ (is_over axis w early ≡ true)
      → record shown { last = last } ≡ panel_of g (columns_in axis w (past_from g early es)) (past_from g early es)
  panel-shown shown last is clock stopped = (λ i. record (is i) { last = clock i }) ∙ by_case stopped
    where
      by_case : (es ≡ []) ⊎ (is_over axis w early ≡ true) → record (panel_of g (columns_in axis w early) early) { last = now (past_from g early es) } ≡ panel_of g (columns_in axis w (past_from g early es)) (past_from g early es)
      by_case (inl none) = all-shown none
      by_case (inr over) = over-shown over
