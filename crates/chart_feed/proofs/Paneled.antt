-- The columns of a window, and the rows of a group, in the end.
use Rattle.std.proofs.Common.{◌≡◌, ◌∙◌, ℕ, zero, suc, ◌+◌, ◌-◌, ◌<◌, ◌≤◌, min, List, [], ◌∷◌, ◌++◌, length, get_or, map, take, drop, refl, sym, ap, subst, arith, All, true, append-nil, append_assoc}
use Rattle.std.specs.Prelude.{◌==◌}
use Rattle.std.proofs.lemmas.List.{length-map, map-append}
use Rattle.std.proofs.lemmas.Simd.{map-map}
use Rattle.rt_rules.specs.Numbers.{has, numbers_from}
use Rattle.rt_rules.proofs.BoolLaws.{or_true}
use Rattle.rt_rules.proofs.MemberLaws.{equal_self}
use Rattle.rt_model.specs.Past.{Past, now}
use Rattle.trace_views.specs.Columns.{Column, entry_columns, entry_columns_from, tick_column}
use Rattle.chart_texts.specs.declared.window.Axis.TheVariants.{Entries, Ticks}
use Rattle.chart_texts.specs.declared.window.Window.{Window}
use Rattle.chart_texts.specs.Windows.{columns_in, columns_on, cut}
use Rattle.chart_feed.specs.EntryClocks.{entry_clocks}
use Rattle.chart_feed.specs.WindowStrips.{entries_of, ticks_in}
use Rattle.chart_feed.proofs.Edges.{clocks-low}
use Rattle.chart_feed.proofs.Ticks.{columns-ticks, cut-ticks, map-cut}

map-self : (xs : List ℕ) → map (λ x. x) xs ≡ xs
map-self [] = refl
map-self (x ∷ xs) = ap (λ ys. x ∷ ys) (map-self xs)

abbrev label_of : Column → ℕ
label_of c = c.label

abbrev high_of : Column → ℕ
high_of c = c.high

-- ---- by ticks

pub tick-labels : (w : Window) (past : Past) → ticks_in w (suc (now past)) ≡ map (λ (c : Column). c.label) (columns_in Ticks w past)
tick-labels w past = sym (ap (map label_of) (columns-ticks w past) ∙ map-map label_of (tick_column past) (ticks_in w (suc (now past))) ∙ map-self (ticks_in w (suc (now past))))

pub tick-clocks : (w : Window) (past : Past) → ticks_in w (suc (now past)) ≡ map (λ (c : Column). c.high) (columns_in Ticks w past)
tick-clocks w past = sym (ap (map high_of) (columns-ticks w past) ∙ map-map high_of (tick_column past) (ticks_in w (suc (now past))) ∙ map-self (ticks_in w (suc (now past))))

numbers-low : (a n top : ℕ) → a + n ≤ top → All (λ c. c < top) (numbers_from a n)
numbers-low a zero top h k d low = absurd (omega (arith, low))
numbers-low a (suc n) top h zero d low = omega (arith, h)
numbers-low a (suc n) top h (suc k) d low = numbers-low (suc a) n top (omega (arith, h)) k d (omega (arith, low))

pub ticks-low : (w : Window) (n top : ℕ) → n ≤ top → All (λ c. c < top) (ticks_in w n)
ticks-low w n top h = by_room (min n w.to - w.from) refl
  where
    by_room : (m : ℕ) → min n w.to - w.from ≡ m → All (λ c. c < top) (numbers_from w.from m)
    by_room zero e = λ k d low. absurd (omega arith)
    by_room (suc m) e = numbers-low w.from (suc m) top (omega (arith, e, h))

-- ---- by entries

labels-from : (i first : ℕ) (xs : List Past) → map label_of (entry_columns_from i first xs) ≡ numbers_from i (length xs)
labels-from i first [] = refl
labels-from i first (x ∷ xs) = ap (λ ys. i ∷ ys) (labels-from (suc i) (suc (now x)) xs)

highs-from : (i first : ℕ) (xs : List Past) → map high_of (entry_columns_from i first xs) ≡ map now xs
highs-from i first [] = refl
highs-from i first (x ∷ xs) = ap (λ ys. now x ∷ ys) (highs-from (suc i) (suc (now x)) xs)

pub entry-labels : (w : Window) (past : Past) → ticks_in w (length (entry_clocks past)) ≡ map (λ (c : Column). c.label) (columns_in Entries w past)
unfolding columns_in columns_on entry_columns
entry-labels w past =
    let many : length (entry_clocks past) ≡ length (entries_of past) = length-map (entries_of past) now in
    ap (ticks_in w) many ∙ sym (map-cut label_of w (entry_columns_from 0 0 (entries_of past)) ∙ ap (cut w) (labels-from 0 0 (entries_of past)) ∙ cut-ticks w (length (entries_of past)))

pub entry-highs : (w : Window) (past : Past) → cut w (entry_clocks past) ≡ map (λ (c : Column). c.high) (columns_in Entries w past)
unfolding columns_in columns_on entry_columns
entry-highs w past = sym (map-cut high_of w (entry_columns_from 0 0 (entries_of past)) ∙ ap (cut w) (highs-from 0 0 (entries_of past)))

all-take : {A : Type 0} (P : A → Type 0) (n : ℕ) (xs : List A) → All P xs → All P (take n xs)
all-take P zero xs h k d low = absurd (omega (arith, low))
all-take P (suc n) [] h k d low = h k d low
all-take P (suc n) (x ∷ xs) h zero d low = h zero d (omega arith)
all-take P (suc n) (x ∷ xs) h (suc k) d low = all-take P n xs (λ j e l. h (suc j) e (omega (arith, l))) k d (omega (arith, low))

all-drop : {A : Type 0} (P : A → Type 0) (n : ℕ) (xs : List A) → All P xs → All P (drop n xs)
all-drop P zero xs h = h
all-drop P (suc n) [] h = h
all-drop P (suc n) (x ∷ xs) h = all-drop P n xs (λ j e l. h (suc j) e (omega (arith, l)))

pub cut-low : (w : Window) (cs : List ℕ) (top : ℕ) → All (λ c. c < top) cs → All (λ c. c < top) (cut w cs)
cut-low w cs top h = all-take (λ c. c < top) (w.to - w.from) (drop w.from cs) (all-drop (λ c. c < top) w.from cs h)

pub entries-low : (past : Past) (top : ℕ) → now past < top → All (λ c. c < top) (entry_clocks past)
entries-low past top h k d low = let at : get_or (entry_clocks past) k d ≤ now past = clocks-low past k d low in omega (arith, at, h)

-- ---- of each that is made of a number

pub all-made : {A : Type 0} (P : A → Type 0) (f : ℕ → A) (ts : List ℕ) → ((t : ℕ) → has t ts ≡ true → P (f t)) → All P (map f ts)
all-made P f [] h k d low = absurd (omega (arith, low))
all-made P f (t ∷ ts) h zero d low = h t (rw equal_self refl)
all-made P f (t ∷ ts) h (suc k) d low = all-made P f ts (λ u m. h u (rw m (or_true (u == t)))) k d (omega (arith, low))

-- ---- of each row there is one in the end: those made so far, and those that are left

abbrev pub AreMade : {A B C : Type 0} → (A → Type 0) → (B → C) → (A → C) → List A → List A → List B → Type 0
AreMade P shown f all rest made = All P rest × (map shown made ++ map f rest ≡ map f all)

module _ {A B C : Type 0} (P : A → Type 0) (shown : B → C) (f : A → C) (all rest : List A) (made : List B) where
  pub made-none : rest ≡ all → made ≡ [] → All P all → AreMade P shown f all rest made
  made-none is none h = (subst (All P) (sym is) h, ap (λ ys. map shown ys ++ map f rest) none ∙ ap (map f) is)

  pub made-next : (x : A) (left : List A) → rest ≡ x ∷ left → AreMade P shown f all rest made → P x
  made-next x left is a = subst (All P) is a.0 0 x (omega arith)

  pub made-more : (x : A) (left : List A) (y : B) (more : List B) → rest ≡ x ∷ left → (P x → shown y ≡ f x) → more ≡ made ++ y ∷ [] → AreMade P shown f all rest made → AreMade P shown f all left more
  made-more x left y more is row put a = (
    (λ k d low. subst (All P) is a.0 (suc k) d (omega (arith, low))),
    ap (λ ys. map shown ys ++ map f left) put ∙ ap (λ ys. ys ++ map f left) (map-append shown made (y ∷ [])) ∙ append_assoc (map shown made) (shown y ∷ []) (map f left)
        ∙ ap (λ v. map shown made ++ v ∷ map f left) (row (made-next x left is a)) ∙ ap (λ xs. map shown made ++ map f xs) (sym is) ∙ a.1,
  )

  pub made-all-of : length rest ≡ 0 → AreMade P shown f all rest made → map shown made ≡ map f all
  made-all-of none a = sym (append-nil (map shown made)) ∙ ap (λ xs. map shown made ++ map f xs) (sym (empty rest none)) ∙ a.1
    where
      empty : (xs : List A) → length xs ≡ 0 → xs ≡ []
      empty [] h = refl
      empty (x ∷ xs) h = absurd (omega (arith, h))
