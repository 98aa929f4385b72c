-- What is made of rows by the end of a tick, and by ticks that no state has.
use Rattle.std.proofs.Common.{◌≡◌, ◌∙◌, ℕ, zero, suc, ◌+◌, ◌-◌, ◌<◌, ◌≤◌, min, max, Bool, true, false, List, [], ◌∷◌, ◌++◌, ◌⊎◌, inl, inr, map, take, drop, refl, sym, ap, subst, arith}
use Rattle.std.specs.Prelude.{nat_le, if◌then◌else◌}
use Rattle.std.proofs.lemmas.Bool.Decides.{nat_tests}
use Rattle.rt_rules.specs.Numbers.{numbers_from}
use Rattle.rt_model.specs.Group.{Group}
use Rattle.rt_model.specs.Past.{Acted, Clock, Past, PastAct, entries_in, now}
use Rattle.trace_views.specs.Moments.{Moment, at_tick, moments}
use Rattle.chart_texts.specs.declared.window.Axis.{Axis}
use Rattle.chart_texts.specs.declared.window.Axis.TheVariants.{Entries, Ticks}
use Rattle.chart_texts.specs.declared.window.Window.{Window}
use Rattle.chart_texts.specs.Windows.{columns_in}
use Rattle.rank_afresh.specs.Standing.{Standing, group_of}
use Rattle.chart_feed.specs.inside.Stands.{HasRows}
use Rattle.chart_rows.specs.Rows.{RowsKept, rows_acted, rows_closed, rows_of, rows_seen}
use Rattle.chart_rows.specs.Strips.{Strip, blank, done, seen, strip_of}
use Rattle.chart_rows.specs.UpTo.{AreUpTo}
use Rattle.chart_feed.specs.WindowStrips.{closed, closed_below, entry_strip, has_begun, is_in, open_at, open_moved, open_turned, position, tick_strip}
use Rattle.chart_feed.proofs.Moves.{acted-entries, acted-open, acted-outside, acted-ticks, below-beyond, below-more, below-same, ended-entries, ended-ticks, gap-more, moved-ticks, turned-entries, turned-ticks}
use Rattle.chart_rows.proofs.RowLaws.{acted-rows, closed-rows, seen-rows}
use Rattle.chart_rows.proofs.UpTo.{rows-still, rows-up-to}
use Rattle.chart_rows.proofs.TickLaws.{newest-strip, strip-seen}

-- ---- at opening

none-taken : (n : ℕ) → take n (let xs : List Past = [] in xs) ≡ []
none-taken zero = refl
none-taken (suc n) = refl

none-cut : (m n : ℕ) → take n (drop m (let xs : List Past = [] in xs)) ≡ []
none-cut zero n = none-taken n
none-cut (suc m) n = none-taken n

-- no tick is over
none-over : (w : Window) → closed Ticks w [] ≡ []
none-over w = let none : min 0 w.to - w.from ≡ 0 = omega arith in ap (λ n. map (tick_strip []) (numbers_from w.from n)) none

first-tick : tick_strip [] 0 ≡ seen [] blank
unfolding at_tick moments
first-tick = refl

module _ (g : Group) (w : Window) (rows : RowsKept) where
  pub begun-inside : is_in w 0 ≡ true → rows ≡ rows_of g [] blank → rows_seen g [] rows ≡ rows_of g (closed Ticks w []) (open_at Ticks w [])
  begun-inside h is =
      ap (rows_seen g []) is ∙ seen-rows g [] blank []
      ∙ (λ i. rows_of g (sym (none-over w) i) (sym (ap (λ (b : Bool). if b then tick_strip [] 0 else blank) h ∙ first-tick) i))

  pub begun-outside : is_in w 0 ≡ false → rows ≡ rows_of g [] blank → rows ≡ rows_of g (closed Ticks w []) (open_at Ticks w [])
  begun-outside h is = is ∙ (λ i. rows_of g (sym (none-over w) i) (sym (ap (λ (b : Bool). if b then tick_strip [] 0 else blank) h) i))

  pub begun-entries : rows ≡ rows_of g [] blank → rows ≡ rows_of g (closed Entries w []) (open_at Entries w [])
  unfolding moments
  begun-entries is = is ∙ ap (λ ss. rows_of g ss blank) (sym (ap (map entry_strip) (none-cut w.from (w.to - w.from))))

-- by ticks the column goes on after an act, and by entries it is over
abbrev pub after_act : Group → Axis → Past → RowsKept → RowsKept
after_act g Ticks x v = v
after_act g Entries x v = rows_closed g x v

-- ---- the end of a tick

module _ (g : Group) (w : Window) (past : Past) (rows : RowsKept) where
  pub ended-inside : (clock : ℕ) → clock ≡ now past → is_in w clock ≡ true → rows ≡ rows_of g (closed Ticks w past) (open_at Ticks w past)
      → rows_closed g past rows ≡ rows_of g (closed_below w past (clock + 1)) blank
  ended-inside clock at h is =
      let here : is_in w (now past) ≡ true = subst (λ n. is_in w n ≡ true) at h in
      let going : open_at Ticks w past ≡ tick_strip past (now past) = ap (λ (b : Bool). if b then tick_strip past (now past) else blank) here in
      ap (rows_closed g past) (is ∙ ap (rows_of g (closed Ticks w past)) going)
      ∙ closed-rows g (closed Ticks w past) (tick_strip past (now past)) past (newest-strip past)
      ∙ ap (λ ss. rows_of g ss blank) (below-more w past (now past) here)
      ∙ ap (λ n. rows_of g (closed_below w past (n + 1)) blank) (sym at)

  pub ended-outside : (clock : ℕ) → clock ≡ now past → is_in w clock ≡ false → rows ≡ rows_of g (closed Ticks w past) (open_at Ticks w past)
      → rows ≡ rows_of g (closed_below w past (clock + 1)) blank
  ended-outside clock at h is =
      let gone : is_in w (now past) ≡ false = subst (λ n. is_in w n ≡ false) at h in
      let going : open_at Ticks w past ≡ blank = ap (λ (b : Bool). if b then tick_strip past (now past) else blank) gone in
      is ∙ ap (rows_of g (closed Ticks w past)) going ∙ ap (λ ss. rows_of g ss blank) (sym (below-same w past (now past) gone)) ∙ ap (λ n. rows_of g (closed_below w past (n + 1)) blank) (sym at)

  -- a tick that no state has
  pub passed : (tick : ℕ) → now past < tick → is_in w tick ≡ true → rows ≡ rows_of g (closed_below w past tick) blank
      → rows_closed g past (rows_seen g past rows) ≡ rows_of g (closed_below w past (tick + 1)) blank
  passed tick later h is =
      ap (λ v. rows_closed g past (rows_seen g past v)) is ∙ ap (rows_closed g past) (seen-rows g (closed_below w past tick) blank past)
      ∙ closed-rows g (closed_below w past tick) (seen past blank) past refl ∙ ap (λ ss. rows_of g ss blank) (gap-more w past tick later h)

  pub skipped : (m n : ℕ) → min m w.to - w.from ≡ min n w.to - w.from → rows ≡ rows_of g (closed_below w past m) blank → rows ≡ rows_of g (closed_below w past n) blank
  skipped m n same is = is ∙ ap (λ ss. rows_of g ss blank) (below-beyond w past m n same)

  -- before the clock is moved
  pub turned-later : (tick clock : ℕ) → clock ≡ now past → clock < tick → rows ≡ rows_of g (closed_below w past tick) blank → rows ≡ rows_of g (closed Ticks w (Clock tick ∷ past)) (open_turned Ticks w tick past)
  turned-later tick clock at later is =
      let next : max (now past) tick ≡ tick = omega (arith, at, later) in
      let none : nat_le tick (now past) ≡ false = grind (arith, nat_tests, at, later) in
      is ∙ (λ i. rows_of g ((ap (closed_below w past) (sym next) ∙ turned-ticks w tick past) i) (sym (ap (λ (b : Bool). if b then open_at Ticks w past else blank) none) i))

  pub turned-same : (tick clock : ℕ) → clock ≡ now past → tick ≤ clock → rows ≡ rows_of g (closed Ticks w past) (open_at Ticks w past) → rows ≡ rows_of g (closed Ticks w (Clock tick ∷ past)) (open_turned Ticks w tick past)
  turned-same tick clock at earlier is =
      let next : max (now past) tick ≡ now past = omega (arith, at, earlier) in
      let still : nat_le tick (now past) ≡ true = grind (arith, nat_tests, at, earlier) in
      is ∙ (λ i. rows_of g ((ap (closed_below w past) (sym next) ∙ turned-ticks w tick past) i) (sym (ap (λ (b : Bool). if b then open_at Ticks w past else blank) still) i))

  pub turned-by-entries : (tick : ℕ) → rows ≡ rows_of g (closed Entries w past) blank → rows ≡ rows_of g (closed Entries w (Clock tick ∷ past)) (open_turned Entries w tick past)
  turned-by-entries tick is = is ∙ ap (λ ss. rows_of g ss blank) (turned-entries w tick past)

  -- ---- the clock is moved

  -- the column that goes on, by whether it is in the window
  moved-open : (axis : Axis) (tick : ℕ) → (if is_in w (position axis (Clock tick ∷ past)) then seen (Clock tick ∷ past) (open_turned axis w tick past) else blank) ≡ open_moved axis w (Clock tick ∷ past)
  moved-open Ticks tick = moved-ticks w tick past
  moved-open Entries tick = refl

  pub moved-inside : (axis : Axis) (tick : ℕ) → is_in w (position axis (Clock tick ∷ past)) ≡ true → rows ≡ rows_of g (closed axis w (Clock tick ∷ past)) (open_turned axis w tick past)
      → rows_seen g (Clock tick ∷ past) rows ≡ rows_of g (closed axis w (Clock tick ∷ past)) (open_moved axis w (Clock tick ∷ past))
  moved-inside axis tick h is =
      ap (rows_seen g (Clock tick ∷ past)) is ∙ seen-rows g (closed axis w (Clock tick ∷ past)) (open_turned axis w tick past) (Clock tick ∷ past)
      ∙ ap (rows_of g (closed axis w (Clock tick ∷ past))) (sym (ap (λ (b : Bool). if b then seen (Clock tick ∷ past) (open_turned axis w tick past) else blank) h) ∙ moved-open axis tick)

  -- outside the window nothing went on before the move
  none-turned : (axis : Axis) (tick : ℕ) → is_in w (position axis (Clock tick ∷ past)) ≡ false → open_turned axis w tick past ≡ blank
  none-turned Entries tick h = refl
  none-turned Ticks tick h = by_tick (nat_le tick (now past)) refl
    where
      by_tick : (b : Bool) → nat_le tick (now past) ≡ b → (if b then open_at Ticks w past else blank) ≡ blank
      by_tick true m =
          let same : max (now past) tick ≡ now past = grind (arith, nat_tests, m) in
          let gone : is_in w (now past) ≡ false = subst (λ n. is_in w n ≡ false) same h in
          ap (λ (b : Bool). if b then tick_strip past (now past) else blank) gone
      by_tick false m = refl

  pub moved-outside : (axis : Axis) (tick : ℕ) → is_in w (position axis (Clock tick ∷ past)) ≡ false → rows ≡ rows_of g (closed axis w (Clock tick ∷ past)) (open_turned axis w tick past)
      → rows ≡ rows_of g (closed axis w (Clock tick ∷ past)) (open_moved axis w (Clock tick ∷ past))
  moved-outside axis tick h is =
      is ∙ ap (rows_of g (closed axis w (Clock tick ∷ past))) (none-turned axis tick h ∙ sym (ap (λ (b : Bool). if b then seen (Clock tick ∷ past) (open_turned axis w tick past) else blank) h) ∙ moved-open axis tick)

  -- the column that goes on in the window has the newest state
  moved-seen : (axis : Axis) → is_in w (position axis past) ≡ true → (s : Strip) × (open_moved axis w past ≡ seen past s)
  moved-seen Ticks h = let s = strip-seen past in (s.0, ap (λ (b : Bool). if b then tick_strip past (now past) else blank) h ∙ s.1)
  moved-seen Entries h = (blank, ap (λ (b : Bool). if b then seen past blank else blank) h)

  -- one that has begun shows no less than the state after the move
  begun-still : (tick : ℕ) → tick ≤ now past → is_in w (now past) ≡ true → rows ≡ rows_of g (closed Ticks w (Clock tick ∷ past)) (open_turned Ticks w tick past) → rows ≡ rows_seen g (Clock tick ∷ past) rows
  begun-still tick low h is =
      let yes : nat_le tick (now past) ≡ true = grind (arith, nat_tests, low) in
      let s = strip-seen past in
      let going : open_turned Ticks w tick past ≡ seen past s.0 =
      ap (λ (b : Bool). if b then open_at Ticks w past else blank) yes ∙ ap (λ (b : Bool). if b then tick_strip past (now past) else blank) h ∙ s.1 in
      rows-still g tick past rows low (rows-up-to g (closed Ticks w (Clock tick ∷ past)) s.0 past rows (is ∙ ap (rows_of g (closed Ticks w (Clock tick ∷ past))) going))

  pub moved-begun : (axis : Axis) (tick : ℕ) → has_begun axis tick past ≡ true → is_in w (position axis (Clock tick ∷ past)) ≡ true → rows ≡ rows_of g (closed axis w (Clock tick ∷ past)) (open_turned axis w tick past)
      → rows ≡ rows_of g (closed axis w (Clock tick ∷ past)) (open_moved axis w (Clock tick ∷ past))
  moved-begun Entries tick begun h is = cc
  moved-begun Ticks tick begun h is =
      let low : tick ≤ now past = grind (arith, nat_tests, begun) in
      let same : max (now past) tick ≡ now past = omega arith in
      begun-still tick low (subst (λ n. is_in w n ≡ true) same h) is ∙ moved-inside Ticks tick h is

  pub moved-not : (axis : Axis) (tick : ℕ) (inside begun : Bool) → inside ≡ is_in w (position axis (Clock tick ∷ past)) → begun ≡ has_begun axis tick past → (inside ≡ true) × (begun ≡ true) ⊎ (inside ≡ false)
      → rows ≡ rows_of g (closed axis w (Clock tick ∷ past)) (open_turned axis w tick past) → rows ≡ rows_of g (closed axis w (Clock tick ∷ past)) (open_moved axis w (Clock tick ∷ past))
  moved-not axis tick inside begun h k (inl m) is = moved-begun axis tick (sym k ∙ m.1) (sym h ∙ m.0) is
  moved-not axis tick inside begun h k (inr m) is = moved-outside axis tick (sym h ∙ m) is

  -- ---- an act

  module _ (d : PastAct) where
    abbrev m : Moment
    m = record { act = d; before = past }

    -- the rows are up to the newest state also once the act is taken
    pub acted-up-to : (axis : Axis) → is_in w (position axis past) ≡ true → rows ≡ rows_of g (closed axis w past) (open_moved axis w past) → AreUpTo g past (rows_acted g m rows)
    acted-up-to axis h is =
        let s = moved-seen axis h in
        rows-up-to g (closed axis w past) (done m s.0) past (rows_acted g m rows)
        (ap (rows_acted g m) is ∙ acted-rows g (closed axis w past) (open_moved axis w past) m ∙ ap (λ x. rows_of g (closed axis w past) (done m x)) s.1)

    pub taken : (axis : Axis) → rows ≡ rows_of g (closed axis w past) (open_moved axis w past)
        → rows_seen g (Acted d ∷ past) (rows_acted g m rows) ≡ rows_of g (closed axis w past) (seen (Acted d ∷ past) (done m (open_moved axis w past)))
    taken axis is =
        ap (λ v. rows_seen g (Acted d ∷ past) (rows_acted g m v)) is ∙ ap (rows_seen g (Acted d ∷ past)) (acted-rows g (closed axis w past) (open_moved axis w past) m)
        ∙ seen-rows g (closed axis w past) (done m (open_moved axis w past)) (Acted d ∷ past)

    pub acted-in-ticks : is_in w (now past) ≡ true → rows ≡ rows_of g (closed Ticks w past) (open_moved Ticks w past)
        → rows_seen g (Acted d ∷ past) (rows_acted g m rows) ≡ rows_of g (closed Ticks w (Acted d ∷ past)) (open_at Ticks w (Acted d ∷ past))
    acted-in-ticks h is =
        taken Ticks is
        ∙ (λ i. rows_of g (acted-ticks w d past i) ((sym (ap (λ (b : Bool). if b then seen (Acted d ∷ past) (done m (open_moved Ticks w past)) else blank) h) ∙ acted-open w d past) i))

    pub acted-in-entries : is_in w (entries_in past) ≡ true → rows ≡ rows_of g (closed Entries w past) (open_moved Entries w past)
        → rows_closed g (Acted d ∷ past) (rows_seen g (Acted d ∷ past) (rows_acted g m rows)) ≡ rows_of g (closed Entries w (Acted d ∷ past)) blank
    acted-in-entries h is =
        let going : open_moved Entries w past ≡ seen past blank = ap (λ (b : Bool). if b then seen past blank else blank) h in
        ap (rows_closed g (Acted d ∷ past)) (taken Entries is)
        ∙ closed-rows g (closed Entries w past) (seen (Acted d ∷ past) (done m (open_moved Entries w past))) (Acted d ∷ past) refl
        ∙ ap (λ s. rows_of g (closed Entries w past ++ seen (Acted d ∷ past) (done m s) ∷ []) blank) going
        ∙ ap (λ ss. rows_of g ss blank) (acted-entries w d past h)

    pub acted-by : (axis : Axis) → is_in w (position axis past) ≡ true → rows ≡ rows_of g (closed axis w past) (open_moved axis w past)
        → after_act g axis (Acted d ∷ past) (rows_seen g (Acted d ∷ past) (rows_acted g m rows)) ≡ rows_of g (closed axis w (Acted d ∷ past)) (open_at axis w (Acted d ∷ past))
    acted-by Ticks h is = acted-in-ticks h is
    acted-by Entries h is = acted-in-entries h is

    pub acted-outside-window : (axis : Axis) → is_in w (position axis past) ≡ false → rows ≡ rows_of g (closed axis w past) (open_moved axis w past)
        → rows ≡ rows_of g (closed axis w (Acted d ∷ past)) (open_at axis w (Acted d ∷ past))
    acted-outside-window Ticks h is =
        is ∙ (λ i. rows_of g (acted-ticks w d past i) ((ap (λ (b : Bool). if b then tick_strip past (now past) else blank) h ∙ sym (ap (λ (b : Bool). if b then tick_strip (Acted d ∷ past) (now past) else blank) h)) i))
    acted-outside-window Entries h is =
        is ∙ (λ i. rows_of g (acted-outside w d past h i) (ap (λ (b : Bool). if b then seen past blank else blank) h i))

  -- ---- the end

  pub finished-ticks : (clock : ℕ) → clock ≡ now past → rows ≡ rows_of g (closed_below w past (clock + 1)) blank → rows ≡ rows_of g (map strip_of (columns_in Ticks w past)) blank
  finished-ticks clock at is = is ∙ ap (λ n. rows_of g (closed_below w past (n + 1)) blank) at ∙ ap (λ ss. rows_of g ss blank) (ended-ticks w past)

  pub finished-entries : rows ≡ rows_of g (closed Entries w past) blank → rows ≡ rows_of g (map strip_of (columns_in Entries w past)) blank
  finished-entries is = is ∙ ap (λ ss. rows_of g ss blank) (ended-entries w past)

-- ticks outside the window change none
pub skipped-rows : (v : Standing) (w : Window) (past : Past) (clock m n : ℕ) (rows : RowsKept) → min m w.to - w.from ≡ min n w.to - w.from
    → HasRows v past clock (closed_below w past m) blank rows → HasRows v past clock (closed_below w past n) blank rows
skipped-rows v w past clock m n rows same has = record { at = has.at; clock_is = has.clock_is; rows_are = skipped (group_of v) w past rows m n same has.rows_are }
