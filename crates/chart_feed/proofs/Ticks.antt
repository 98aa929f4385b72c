-- The columns of ticks as a past goes on: the newest has one state more, or columns are added.
use Rattle.std.proofs.Common.{◌≡◌, ◌∙◌, ℕ, zero, suc, ◌+◌, ◌-◌, ◌<◌, ◌≤◌, min, true, false, List, [], ◌∷◌, ◌++◌, map, sym, ap, arith, take, drop}
use Rattle.std.proofs.lemmas.Bool.Decides.{nat_tests}
use Rattle.std.proofs.lemmas.List.{drop-map, take-map}
use Rattle.rt_rules.specs.Numbers.{numbers_from}
use Rattle.rt_model.specs.Past.{Event, Past, now}
use Rattle.trace_views.specs.Columns.{tick_column, tick_columns}
use Rattle.chart_texts.specs.declared.window.Axis.TheVariants.{Ticks}
use Rattle.chart_texts.specs.declared.window.Window.{Window}
use Rattle.chart_texts.specs.Windows.{columns_in, columns_on, cut}
use Rattle.chart_rows.proofs.TickLaws.{map-below, numbers-last, strip-earlier}
use Rattle.chart_feed.specs.WindowStrips.{is_in, tick_strip, ticks_in}

-- ---- the ticks of a window

pub ticks-inside : (w : Window) (n : ℕ) → is_in w n ≡ true → ticks_in w (n + 1) ≡ ticks_in w n ++ n ∷ []
ticks-inside w n h =
    let low : w.from ≤ n = grind (arith, nat_tests, h) in
    let high : n < w.to = grind (arith, nat_tests, h) in
    let more : min (n + 1) w.to - w.from ≡ (min n w.to - w.from) + 1 = omega arith in
    let at : w.from + (min n w.to - w.from) ≡ n = omega arith in
    ap (numbers_from w.from) more ∙ numbers-last w.from (min n w.to - w.from) ∙ ap (λ t. numbers_from w.from (min n w.to - w.from) ++ t ∷ []) at

pub ticks-outside : (w : Window) (n : ℕ) → is_in w n ≡ false → ticks_in w (n + 1) ≡ ticks_in w n
ticks-outside w n h =
    let same : min (n + 1) w.to - w.from ≡ min n w.to - w.from = grind (arith, nat_tests, h) in
    ap (numbers_from w.from) same

-- those that are over stay as they were
pub closed-same : (e : Event) (past : Past) (w : Window) → map (tick_strip (e ∷ past)) (ticks_in w (now (e ∷ past))) ≡ map (tick_strip past) (ticks_in w (now (e ∷ past)))
closed-same e past w =
    let n : ℕ = now (e ∷ past) in
    map-below (tick_strip (e ∷ past)) (tick_strip past) w.from (min n w.to - w.from) n (λ k low. omega (arith, low)) (λ t low. strip-earlier e past t low)

-- ---- the columns of a window

drop-numbers : (m a n : ℕ) → drop m (numbers_from a n) ≡ numbers_from (a + m) (n - m)
drop-numbers zero a n = let at : a ≡ a + 0 = omega arith in let size : n ≡ n - 0 = omega arith in λ i. numbers_from (at i) (size i)
drop-numbers (suc m) a zero = let none : zero ≡ zero - suc m = omega arith in ap (numbers_from (a + suc m)) none
drop-numbers (suc m) a (suc n) =
    let at : suc a + m ≡ a + suc m = omega arith in
    let size : n - m ≡ suc n - suc m = omega arith in
    drop-numbers m (suc a) n ∙ (λ i. numbers_from (at i) (size i))

take-numbers : (m a n : ℕ) → take m (numbers_from a n) ≡ numbers_from a (min n m)
take-numbers zero a n = let none : zero ≡ min n zero = omega arith in ap (numbers_from a) none
take-numbers (suc m) a zero = let none : zero ≡ min zero (suc m) = omega arith in ap (numbers_from a) none
take-numbers (suc m) a (suc n) = let size : suc (min n m) ≡ min (suc n) (suc m) = omega arith in ap (λ ts. a ∷ ts) (take-numbers m (suc a) n) ∙ ap (numbers_from a) size

pub cut-ticks : (w : Window) (n : ℕ) → cut w (numbers_from 0 n) ≡ ticks_in w n
cut-ticks w n =
    let at : 0 + w.from ≡ w.from = omega arith in
    let size : min (n - w.from) (w.to - w.from) ≡ min n w.to - w.from = omega arith in
    ap (take (w.to - w.from)) (drop-numbers w.from 0 n) ∙ take-numbers (w.to - w.from) (0 + w.from) (n - w.from) ∙ (λ i. numbers_from (at i) (size i))

pub map-cut : {A B : Type 0} (f : A → B) (w : Window) (xs : List A) → map f (cut w xs) ≡ cut w (map f xs)
map-cut f w xs = sym (take-map f (w.to - w.from) (drop w.from xs)) ∙ ap (take (w.to - w.from)) (sym (drop-map f w.from xs))

-- those of a window, with the newest
pub columns-ticks : (w : Window) (past : Past) → columns_in Ticks w past ≡ map (tick_column past) (ticks_in w (suc (now past)))
unfolding columns_in columns_on tick_columns
columns-ticks w past = sym (map-cut (tick_column past) w (numbers_from 0 (suc (now past)))) ∙ ap (map (tick_column past)) (cut-ticks w (suc (now past)))
