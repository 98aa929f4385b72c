-- What each move makes of the columns of a window that are over, and of the one that goes on.
use Rattle.std.proofs.Common.{◌≡◌, ◌∙◌, ℕ, suc, ◌+◌, ◌-◌, ◌<◌, ◌≤◌, min, max, Bool, true, false, List, [], ◌∷◌, ◌++◌, map, refl, sym, ap, subst, arith, length}
use Rattle.std.specs.Prelude.{nat_le, if◌then◌else◌}
use Rattle.std.proofs.lemmas.Bool.Decides.{nat_tests}
use Rattle.std.proofs.lemmas.List.{map-append}
use Rattle.std.proofs.lemmas.Simd.{map-map}
use Rattle.rt_rules.specs.Numbers.{numbers_from}
use Rattle.rt_model.specs.Group.{Group}
use Rattle.rt_model.specs.Past.{Acted, Clock, Past, PastAct, entries_in, now}
use Rattle.trace_views.specs.Cells.{cpu_cell, resv_cell, running_on, task_cell}
use Rattle.trace_views.specs.Columns.{Column, tick_column}
use Rattle.trace_views.specs.Moments.{Moment}
use Rattle.chart_texts.specs.declared.window.Axis.TheVariants.{Entries, Ticks}
use Rattle.chart_texts.specs.declared.window.Window.{Window}
use Rattle.chart_texts.specs.Windows.{columns_in, cut}
use Rattle.chart_rows.specs.Strips.{blank, column_of, done, seen, strip_of}
use Rattle.chart_feed.specs.WindowStrips.{closed, closed_below, entries_of, entry_strip, in_window, is_in, open_at, open_moved, open_turned, tick_strip, ticks_in}
use Rattle.chart_feed.proofs.Entries.{cut-inside, cut-outside, entries-acted, entries-clocked, length-entries, strips-entries}
use Rattle.chart_rows.proofs.TickLaws.{strip-acted, strip-begun, strip-clocked, strip-gap}
use Rattle.chart_feed.proofs.Ticks.{closed-same, columns-ticks, ticks-inside, ticks-outside}

-- ---- ticks, as the clock is to be moved

-- one tick more is over
pub below-more : (w : Window) (past : Past) (n : ℕ) → is_in w n ≡ true → closed_below w past n ++ tick_strip past n ∷ [] ≡ closed_below w past (n + 1)
below-more w past n h = sym (ap (map (tick_strip past)) (ticks-inside w n h) ∙ map-append (tick_strip past) (ticks_in w n) (n ∷ []))

pub below-same : (w : Window) (past : Past) (n : ℕ) → is_in w n ≡ false → closed_below w past (n + 1) ≡ closed_below w past n
below-same w past n h = ap (map (tick_strip past)) (ticks-outside w n h)

-- in a gap the newest state is shown
pub gap-more : (w : Window) (past : Past) (n : ℕ) → now past < n → is_in w n ≡ true → closed_below w past n ++ seen past blank ∷ [] ≡ closed_below w past (n + 1)
gap-more w past n later h = ap (λ s. closed_below w past n ++ s ∷ []) (sym (strip-gap past n later)) ∙ below-more w past n h

-- ticks beyond the window, and before it, are none
pub below-beyond : (w : Window) (past : Past) (m n : ℕ) → min m w.to - w.from ≡ min n w.to - w.from → closed_below w past m ≡ closed_below w past n
below-beyond w past m n h = ap (λ k. map (tick_strip past) (numbers_from w.from k)) h

-- those that are over stay as they were
pub turned-ticks : (w : Window) (tick : ℕ) (past : Past) → closed_below w past (max (now past) tick) ≡ closed Ticks w (Clock tick ∷ past)
turned-ticks w tick past = sym (closed-same (Clock tick) past w)

-- ---- the clock is moved

pub moved-ticks : (w : Window) (tick : ℕ) (past : Past) → (if is_in w (now (Clock tick ∷ past)) then seen (Clock tick ∷ past) (open_turned Ticks w tick past) else blank) ≡ open_moved Ticks w (Clock tick ∷ past)
moved-ticks w tick past = by_window (is_in w (now (Clock tick ∷ past))) refl
  where
    begun : (b : Bool) → nat_le tick (now past) ≡ b → is_in w (now (Clock tick ∷ past)) ≡ true
        → seen (Clock tick ∷ past) (if b then in_window w (now past) (tick_strip past (now past)) else blank) ≡ tick_strip (Clock tick ∷ past) (now (Clock tick ∷ past))
    begun true h inside =
        let low : tick ≤ now past = grind (arith, nat_tests, h) in
        let same : now (Clock tick ∷ past) ≡ now past = omega arith in
        let here : is_in w (now past) ≡ true = subst (λ n. is_in w n ≡ true) same inside in
        ap (λ (b : Bool). seen (Clock tick ∷ past) (if b then tick_strip past (now past) else blank)) here ∙ sym (strip-clocked tick past low)
    begun false h inside = let later : now past < tick = grind (arith, nat_tests, h) in sym (strip-begun tick past later)

    by_window : (b : Bool) → is_in w (now (Clock tick ∷ past)) ≡ b
        → (if b then seen (Clock tick ∷ past) (open_turned Ticks w tick past) else blank) ≡ (if b then tick_strip (Clock tick ∷ past) (now (Clock tick ∷ past)) else blank)
    by_window true h = begun (nat_le tick (now past)) refl h
    by_window false h = refl

pub moved-entries : (w : Window) (tick : ℕ) (past : Past) → (if is_in w (entries_in past) then seen (Clock tick ∷ past) (open_turned Entries w tick past) else blank) ≡ open_moved Entries w (Clock tick ∷ past)
moved-entries w tick past = refl

pub turned-entries : (w : Window) (tick : ℕ) (past : Past) → closed Entries w past ≡ closed Entries w (Clock tick ∷ past)
turned-entries w tick past = ap (λ xs. map entry_strip (cut w xs)) (sym (entries-clocked tick past))

-- ---- an act

module _ (w : Window) (d : PastAct) (past : Past) where
  abbrev m : Moment
  m = record { act = d; before = past }

  -- by ticks the column goes on
  pub acted-ticks : closed Ticks w past ≡ closed Ticks w (Acted d ∷ past)
  acted-ticks = sym (closed-same (Acted d) past w)

  pub acted-open : (if is_in w (now past) then seen (Acted d ∷ past) (done m (open_moved Ticks w past)) else blank) ≡ open_at Ticks w (Acted d ∷ past)
  acted-open = by_window (is_in w (now past))
    where
      by_window : (b : Bool) → (if b then seen (Acted d ∷ past) (done m (if b then tick_strip past (now past) else blank)) else blank) ≡ (if b then tick_strip (Acted d ∷ past) (now past) else blank)
      by_window true = sym (strip-acted d past)
      by_window false = refl

  -- by entries it is over
  pub acted-entries : is_in w (entries_in past) ≡ true → closed Entries w past ++ seen (Acted d ∷ past) (done m (seen past blank)) ∷ [] ≡ closed Entries w (Acted d ∷ past)
  acted-entries h =
      let here : is_in w (length (entries_of past)) ≡ true = subst (λ n. is_in w n ≡ true) (sym (length-entries past)) h in
      sym (ap (λ xs. map entry_strip (cut w xs)) (entries-acted d past) ∙ ap (map entry_strip) (cut-inside w (entries_of past) (Acted d ∷ past) here) ∙ map-append entry_strip (cut w (entries_of past)) ((Acted d ∷ past) ∷ []))

  pub acted-outside : is_in w (entries_in past) ≡ false → closed Entries w past ≡ closed Entries w (Acted d ∷ past)
  acted-outside h =
      let there : is_in w (length (entries_of past)) ≡ false = subst (λ n. is_in w n ≡ false) (sym (length-entries past)) h in
      sym (ap (λ xs. map entry_strip (cut w xs)) (entries-acted d past) ∙ ap (map entry_strip) (cut-outside w (entries_of past) (Acted d ∷ past) there))

-- ---- the end

pub ended-ticks : (w : Window) (past : Past) → closed_below w past (now past + 1) ≡ map strip_of (columns_in Ticks w past)
ended-ticks w past =
    let next : now past + 1 ≡ suc (now past) = omega arith in
    ap (closed_below w past) next ∙ sym (ap (map strip_of) (columns-ticks w past) ∙ map-map strip_of (tick_column past) (ticks_in w (suc (now past))))

pub ended-entries : (w : Window) (past : Past) → closed Entries w past ≡ map strip_of (columns_in Entries w past)
ended-entries w past = sym (strips-entries w past)

-- ---- cells tell of the states and acts of a column alone

module _ (g : Group) where
  pub task-strip : (t : ℕ) (c : Column) → task_cell g t (column_of (strip_of c)) ≡ task_cell g t c
  unfolding task_cell running_on cpu_cell
  task-strip t c = refl

  pub cpu-strip : (q : ℕ) (c : Column) → cpu_cell g q (column_of (strip_of c)) ≡ cpu_cell g q c
  unfolding cpu_cell
  cpu-strip q c = refl

  pub resv-strip : (r : ℕ) (c : Column) → resv_cell g r (column_of (strip_of c)) ≡ resv_cell g r c
  unfolding resv_cell
  resv-strip r c = refl

  pub task-cells : (t : ℕ) (cs : List Column) → map (λ s. task_cell g t (column_of s)) (map strip_of cs) ≡ map (task_cell g t) cs
  task-cells t [] = refl
  task-cells t (c ∷ cs) = λ i. task-strip t c i ∷ task-cells t cs i

  pub cpu-cells : (q : ℕ) (cs : List Column) → map (λ s. cpu_cell g q (column_of s)) (map strip_of cs) ≡ map (cpu_cell g q) cs
  cpu-cells q [] = refl
  cpu-cells q (c ∷ cs) = λ i. cpu-strip q c i ∷ cpu-cells q cs i

  pub resv-cells : (r : ℕ) (cs : List Column) → map (λ s. resv_cell g r (column_of s)) (map strip_of cs) ≡ map (resv_cell g r) cs
  resv-cells r [] = refl
  resv-cells r (c ∷ cs) = λ i. resv-strip r c i ∷ resv-cells r cs i
