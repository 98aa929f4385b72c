-- How many columns groups have.
use Rattle.std.proofs.Common.{◌≡◌, ◌∙◌, ℕ, zero, suc, ◌+◌, ◌<◌, ◌≤◌, List, [], ◌∷◌, length, map, drop, get_or, refl, sym, ap, arith}
use Rattle.std.specs.Prelude.{All, fold, max}
use Rattle.std.proofs.Math.Seq.{drop-cons}
use Rattle.std.proofs.lemmas.List.{length-map}
use Rattle.rt_base.specs.declared.TheConstants.{TICK_END}
use Rattle.rt_task.specs.declared.Parts.{Parts}
use Rattle.rt_rules.specs.declared.history.Entry.{Entry}
use Rattle.rt_rules.specs.Numbers.{numbers_from}
use Rattle.rt_model.specs.Group.{Group}
use Rattle.rt_model.specs.Histories.{after, past_from, past_of}
use Rattle.rt_model.specs.Past.{Past, now}
use Rattle.rt_model.proofs.Steps.{after-acted}
use Rattle.rt_plays.specs.Groups.{AreStepsOf, GroupHistory, past}
use Rattle.group_engine.proofs.Stepping.{entries_in-past_of}
use Rattle.trace_text.specs.Groups.{AreGroupsOf, histories}
use Rattle.trace_text.proofs.ReplayLaws.{drop_end}
use Rattle.trace_views.specs.Columns.{entry_columns, entry_columns_from, tick_column, tick_columns}
use Rattle.chart_texts.specs.declared.window.Axis.{Axis}
use Rattle.chart_texts.specs.declared.window.Axis.TheVariants.{Entries, Ticks}
use Rattle.chart_texts.specs.Charts.{longest_on, pasts_from}
use Rattle.chart_texts.specs.Windows.{columns_on, length_on}
use Rattle.chart_feed.specs.WindowStrips.{entries_of}
use Rattle.chart_feed.proofs.Entries.{length-entries}
use Rattle.view_charts.proofs.GroupPasts.{pasts-end, pasts-next, pasts_behind}

-- ---- the clock

-- the greatest of a clock and the ticks of entries
abbrev pub greatest : ℕ → List Entry → ℕ
greatest n [] = n
greatest n (e ∷ es) = greatest (max n e.step.tick.0) es

pub greatest-now : (g : Group) (past : Past) (es : List Entry) → now (past_from g past es) ≡ greatest (now past) es
unfolding past_from
greatest-now g past [] = refl
greatest-now g past (e ∷ es) = greatest-now g (after g e.step past) es ∙ ap (λ p. greatest (now p) es) (after-acted g e.step past)

pub greatest-next : (es : List Entry) (i n : ℕ) (e : Entry) → i < length es → e ≡ get_or es i e → greatest (max n e.step.tick.0) (drop (i + 1) es) ≡ greatest n (drop i es)
greatest-next es i n e low is =
    let next : i + 1 ≡ suc i = omega arith in
    ap (λ k. greatest (max n e.step.tick.0) (drop k es)) next ∙ ap (λ (x : Entry). greatest (max n x.step.tick.0) (drop (suc i) es)) is ∙ sym (ap (greatest n) (drop-cons es i e low))

pub greatest-end : (es : List Entry) (i n : ℕ) → length es ≤ i → greatest n (drop i es) ≡ n
greatest-end es i n all = ap (greatest n) (drop_end es i all)

greatest-low : (n : ℕ) (es : List Entry) → n < TICK_END → All (λ (e : Entry). e.step.tick.0 < TICK_END) es → greatest n es < TICK_END
greatest-low n [] low all = low
greatest-low n (e ∷ es) low all =
    let here : e.step.tick.0 < TICK_END = all 0 e (omega arith) in
    greatest-low (max n e.step.tick.0) es (grind (arith, low, here)) (λ k d h. all (suc k) d (omega (arith, h)))

pub now-low : (g h : Group) (es : List Entry) → AreStepsOf h es → now (past_of g es) < TICK_END
unfolding past_of
now-low g h es steps =
    let is : now (past_from g [] es) ≡ greatest 0 es = greatest-now g [] es in
    let low : greatest 0 es < TICK_END = greatest-low 0 es (omega arith) (λ k d b. (steps k d b).tick) in
    omega (arith, is, low)

-- ---- the columns of a group

numbers-long : (a n : ℕ) → length (numbers_from a n) ≡ n
numbers-long a zero = refl
numbers-long a (suc n) = ap suc (numbers-long (suc a) n)

pub ticks-long : (x : Past) → length_on Ticks x ≡ now x + 1
unfolding length_on columns_on tick_columns
ticks-long x =
    let next : suc (now x) ≡ now x + 1 = omega arith in
    length-map (numbers_from 0 (suc (now x))) (tick_column x) ∙ numbers-long 0 (suc (now x)) ∙ next

columns-long : (i first : ℕ) (xs : List Past) → length (entry_columns_from i first xs) ≡ length xs
columns-long i first [] = refl
columns-long i first (x ∷ xs) = ap suc (columns-long (suc i) (suc (now x)) xs)

pub entries-long : (g : Group) (es : List Entry) → length_on Entries (past_of g es) ≡ length es
unfolding length_on columns_on entry_columns
entries-long g es = columns-long 0 0 (entries_of (past_of g es)) ∙ length-entries (past_of g es) ∙ entries_in-past_of g es

-- ---- the longest group

abbrev pub lengths_on : Axis → List (Group × Past) → List ℕ
lengths_on axis gs = map (λ (x : Group × Past). length_on axis x.1) gs

module _ (axis : Axis) (p : Parts) (hs : List GroupHistory) (are : AreGroupsOf p hs) where
  pub longest-none : fold max 0 (lengths_on axis (pasts_behind p hs 0)) ≡ longest_on axis (pasts_from p 0 (histories hs))
  unfolding longest_on
  longest-none = refl

  pub longest-next : (i n : ℕ) (h : GroupHistory) → i < length hs → h ≡ get_or hs i h → (all : ℕ) → fold max n (lengths_on axis (pasts_behind p hs i)) ≡ all
      → fold max (max n (length_on axis (past h))) (lengths_on axis (pasts_behind p hs (i + 1))) ≡ all
  longest-next i n h low is all before = sym (ap (λ gs. fold max n (lengths_on axis gs)) (pasts-next p hs i h are low is)) ∙ before

  pub longest-end : (i n all : ℕ) → length hs ≤ i → fold max n (lengths_on axis (pasts_behind p hs i)) ≡ all → n ≡ all
  longest-end i n all beyond before = sym (ap (λ gs. fold max n (lengths_on axis gs)) (pasts-end p hs i beyond)) ∙ before
