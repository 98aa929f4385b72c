-- The ticks of a group as its past goes on: the newest has one state more, or ticks are added.
use Rattle.std.proofs.Common.{◌≡◌, ◌∙◌, ℕ, zero, suc, ◌+◌, ◌<◌, ◌≤◌, max, Bool, true, false, [], ◌∷◌, ◌++◌, length, map, refl, sym, ap, arith}
use Rattle.std.specs.Prelude.{nat_le, replicate, if◌then◌else◌}
use Rattle.std.proofs.lemmas.Bool.Decides.{nat_tests}
use Rattle.std.proofs.lemmas.List.{length-map, map-append}
use Rattle.rt_rules.specs.Numbers.{numbers_from}
use Rattle.rt_rules.proofs.NumberLaws.{length-numbers_from}
use Rattle.rt_model.specs.Past.{Acted, Clock, Past, PastAct, now}
use Rattle.trace_views.specs.Moments.{at_tick, moments}
use Rattle.chart_rows.specs.Strips.{blank, seen}
use Rattle.chart_rows.proofs.TickLaws.{map-below, numbers-last, strip-begun, strip-clocked, strip-earlier, strip-gap}
use Rattle.span_feed.specs.TickStrips.{tick_strip, ticks_below, turned_strip}

-- ---- the ticks that are over

-- those stay as they were
pub below-same : (tick : ℕ) (past : Past) → ticks_below past (max (now past) tick) ≡ ticks_below (Clock tick ∷ past) (now (Clock tick ∷ past))
below-same tick past =
    let n : ℕ = now (Clock tick ∷ past) in
    sym (map-below (tick_strip (Clock tick ∷ past)) (tick_strip past) 0 n n (λ k low. omega (arith, low)) (λ t low. strip-earlier (Clock tick) past t low))

pub below-acted : (d : PastAct) (past : Past) → ticks_below past (now past) ≡ ticks_below (Acted d ∷ past) (now past)
below-acted d past =
    sym (map-below (tick_strip (Acted d ∷ past)) (tick_strip past) 0 (now past) (now past) (λ k low. omega (arith, low)) (λ t low. strip-earlier (Acted d) past t low))

pub length-below : (past : Past) (n : ℕ) → length (ticks_below past n) ≡ n
length-below past n = length-map (numbers_from 0 n) (tick_strip past) ∙ length-numbers_from 0 n

-- one more is over, and so many that no state has
pub below-one : (past : Past) (n : ℕ) → ticks_below past n ++ tick_strip past n ∷ [] ≡ ticks_below past (n + 1)
below-one past n =
    let at : 0 + n ≡ n = omega arith in
    sym (ap (map (tick_strip past)) (numbers-last 0 n) ∙ map-append (tick_strip past) (numbers_from 0 n) ((0 + n) ∷ []) ∙ ap (λ j. ticks_below past n ++ tick_strip past j ∷ []) at)

from-gap : (past : Past) (a m n : ℕ) → now past < a + m → map (tick_strip past) (numbers_from a m) ++ replicate n (seen past blank) ≡ map (tick_strip past) (numbers_from a (m + n))
from-gap past a zero zero later = refl
from-gap past a zero (suc n) later =
    let size : zero + suc n ≡ suc (zero + n) = omega arith in
    let after : now past < a = omega arith in
    let next : now past < suc a + zero = omega arith in
    (λ i. sym (strip-gap past a after) i ∷ from-gap past (suc a) zero n next i) ∙ ap (λ k. map (tick_strip past) (numbers_from a k)) (sym size)
from-gap past a (suc m) n later =
    let size : suc m + n ≡ suc (m + n) = omega arith in
    let next : now past < suc a + m = omega arith in
    ap (λ ss. tick_strip past a ∷ ss) (from-gap past (suc a) m n next) ∙ ap (λ k. map (tick_strip past) (numbers_from a k)) (sym size)

pub below-gap : (past : Past) (m n : ℕ) → now past < m → ticks_below past m ++ replicate n (seen past blank) ≡ ticks_below past (m + n)
below-gap past m n later = from-gap past 0 m n (omega arith)

-- ---- the newest tick, once the clock is moved

pub strip-moved : (tick : ℕ) (past : Past) → seen (Clock tick ∷ past) (turned_strip tick past) ≡ tick_strip (Clock tick ∷ past) (now (Clock tick ∷ past))
strip-moved tick past = by_case (nat_le tick (now past)) refl
  where
    by_case : (b : Bool) → nat_le tick (now past) ≡ b → seen (Clock tick ∷ past) (if b then tick_strip past (now past) else blank) ≡ tick_strip (Clock tick ∷ past) (now (Clock tick ∷ past))
    by_case true h = let low : tick ≤ now past = grind (arith, nat_tests, h) in sym (strip-clocked tick past low)
    by_case false h = let later : now past < tick = grind (arith, nat_tests, h) in sym (strip-begun tick past later)

pub turned-later : (tick : ℕ) (past : Past) → now past < tick → turned_strip tick past ≡ blank
turned-later tick past later = let no : nat_le tick (now past) ≡ false = grind (arith, nat_tests) in rw no refl

pub turned-not : (tick : ℕ) (past : Past) → tick ≤ now past → turned_strip tick past ≡ tick_strip past (now past)
turned-not tick past low = let yes : nat_le tick (now past) ≡ true = grind (arith, nat_tests) in rw yes refl

-- ---- at opening

pub first-strip : seen [] blank ≡ tick_strip [] 0
unfolding at_tick moments
first-strip = refl
