-- The clocks of a window's columns.
use Rattle.std.proofs.Common.{◌≡◌, ◌∙◌, ℕ, zero, suc, ◌+◌, ◌-◌, ◌<◌, ◌≤◌, ◌⊎◌, inl, inr, Bool, true, false, ◌||◌, List, [], ◌∷◌, ◌++◌, length, get_or, map, take, drop, refl, sym, ap, subst, arith, eqb-true, All}
use Rattle.std.specs.Prelude.{nat_le, ◌==◌, ⊤, None, slice_get, if◌then◌else◌}
use Rattle.std.proofs.Math.Seq.{get_or-append_seam}
use Rattle.std.proofs.lemmas.Bool.Decides.{nat_tests}
use Rattle.std.proofs.lemmas.List.{length-append, map-append}
use Rattle.std.proofs.lemmas.List.Elements.{All-push}
use Rattle.std.proofs.lemmas.List.Sorted.{IsNonDecreasingBy-push}
use Rattle.std.proofs.lemmas.Simd.{map-map}
use Rattle.rt_rules.specs.Numbers.{has, numbers_from}
use Rattle.rt_rules.proofs.BoolLaws.{either, or_true}
use Rattle.rt_rules.proofs.MemberLaws.{equal_self, has-one, has-push}
use Rattle.rt_model.specs.Group.{Group, task}
use Rattle.rt_model.specs.Past.{Acted, Clock, Past, PastAct, ends_job, now}
use Rattle.trace_views.specs.Columns.{Column, entry_columns, entry_columns_from, next_clock, tick_column}
use Rattle.trace_views.specs.Moments.{moments}
use Rattle.chart_texts.specs.declared.window.Axis.{Axis}
use Rattle.chart_texts.specs.declared.window.Axis.TheVariants.{Entries, Ticks}
use Rattle.chart_texts.specs.declared.window.Window.{Window}
use Rattle.chart_texts.specs.Windows.{columns_in, columns_on, cut}
use Rattle.chart_feed.specs.EntryClocks.{entry_clocks, first_at}
use Rattle.chart_feed.specs.Finished.{AreTimed, EndsInAct, IsTimed}
use Rattle.chart_feed.specs.WindowStrips.{entries_of, ticks_in}
use Rattle.chart_feed.specs.Times.{Edges, edges_in, edges_of, end_clocks, next_in, up_to}
use Rattle.chart_feed.proofs.Entries.{entries-acted, entries-clocked}
use Rattle.chart_feed.proofs.MarkLaws.{IsRising, one_if, rest-rising, up_to-cons}
use Rattle.chart_feed.proofs.Ticks.{columns-ticks, map-cut}

-- ---- of each

abbrev pub Each : {A : Type 0} → (A → Type 0) → List A → Type 0
Each P [] = ⊤
Each P (x ∷ xs) = P x × Each P xs

each-take : {A : Type 0} (P : A → Type 0) (n : ℕ) (xs : List A) → Each P xs → Each P (take n xs)
each-take P zero xs h = tt
each-take P (suc n) [] h = tt
each-take P (suc n) (x ∷ xs) h = (h.0, each-take P n xs h.1)

each-drop : {A : Type 0} (P : A → Type 0) (n : ℕ) (xs : List A) → Each P xs → Each P (drop n xs)
each-drop P zero xs h = h
each-drop P (suc n) [] h = tt
each-drop P (suc n) (x ∷ xs) h = each-drop P n xs h.1

pub map-each : {A B : Type 0} (f h : A → B) (xs : List A) → Each (λ x. f x ≡ h x) xs → map f xs ≡ map h xs
map-each f h [] e = refl
map-each f h (x ∷ xs) e = λ i. e.0 i ∷ map-each f h xs e.1 i

pub each-map : {A : Type 0} (P Q : A → Type 0) (xs : List A) → ((x : A) → P x → Q x) → Each P xs → Each Q xs
each-map P Q [] f h = tt
each-map P Q (x ∷ xs) f h = (f x h.0, each-map P Q xs f h.1)

-- ---- ticks

edges-numbers : (past : Past) (a n : ℕ) → map (λ t. edges_of (tick_column past t)) (numbers_from a n) ≡ edges_in a (numbers_from a n) None
edges-numbers past a zero = refl
edges-numbers past a (suc n) = by_more n (edges-numbers past (suc a) n)
  where
    by_more : (m : ℕ) → map (λ t. edges_of (tick_column past t)) (numbers_from (suc a) m) ≡ edges_in (suc a) (numbers_from (suc a) m) None
        → edges_of (tick_column past a) ∷ map (λ t. edges_of (tick_column past t)) (numbers_from (suc a) m) ≡ edges_in a (a ∷ numbers_from (suc a) m) None
    by_more zero h = refl
    by_more (suc m) h = ap (λ es. edges_of (tick_column past a) ∷ es) h

pub edges-ticks : (w : Window) (past : Past) → map edges_of (columns_in Ticks w past) ≡ edges_in w.from (ticks_in w (suc (now past))) None
edges-ticks w past = ap (map edges_of) (columns-ticks w past) ∙ map-map edges_of (tick_column past) (ticks_in w (suc (now past))) ∙ edges-numbers past w.from _

timed-tick : (g : Group) (t : ℕ) (past : Past) (positive : 0 < (task g t).period) (n : ℕ) → n ≤ now past → IsTimed t past (edges_of (tick_column past n))
timed-tick g t past positive n low = record {
  quiet = λ clock from to. let same : clock ≡ n = omega arith in ap (λ c. up_to c (end_clocks t past)) same;
  follows = by_last (nat_le (suc n) (now past)) refl;
}
  where
    by_last : (b : Bool) → nat_le (suc n) (now past) ≡ b → (suc n ≤ now past) ⊎ ((suc n ≡ suc n) × (now past ≤ n))
    by_last true h = inl (grind (arith, nat_tests, h))
    by_last false h = inr (refl, grind (arith, nat_tests, h))

timed-numbers : (g : Group) (t : ℕ) (past : Past) (positive : 0 < (task g t).period) (a n : ℕ) → ((k : ℕ) → k < n → a + k ≤ now past) → Each (λ c. IsTimed t past (edges_of c)) (map (tick_column past) (numbers_from a n))
timed-numbers g t past positive a zero low = tt
timed-numbers g t past positive a (suc n) low =
    let here : a ≤ now past = omega (arith, low 0 (omega arith)) in
    (timed-tick g t past positive a here, timed-numbers g t past positive (suc a) n (λ k h. let next : a + suc k ≤ now past = low (suc k) (omega arith) in omega (arith, next)))

pub timed-ticks : (g : Group) (t : ℕ) (past : Past) (positive : 0 < (task g t).period) (w : Window) → Each (λ c. IsTimed t past (edges_of c)) (columns_in Ticks w past)
timed-ticks g t past positive w =
    subst (Each (λ c. IsTimed t past (edges_of c))) (sym (columns-ticks w past)) (timed-numbers g t past positive w.from _ (λ k h. omega (arith, h)))

-- ---- entries

edges-from : (i first : ℕ) (xs : List Past) → map edges_of (entry_columns_from i first xs) ≡ edges_in first (map now xs) None
edges-from i first [] = refl
edges-from i first (x ∷ xs) = by_rest xs (edges-from (suc i) (suc (now x)) xs)
  where
    by_rest : (ys : List Past) → map edges_of (entry_columns_from (suc i) (suc (now x)) ys) ≡ edges_in (suc (now x)) (map now ys) None
        → map edges_of (entry_columns_from i first (x ∷ ys)) ≡ edges_in first (now x ∷ map now ys) None
    by_rest [] h = refl
    by_rest (y ∷ ys) h = ap (λ (es : List Edges). let e : Edges = record { first = first; high = now x; next = now y } in e ∷ es) h

drop-edges : (n first : ℕ) (cs : List ℕ) → drop n (edges_in first cs None) ≡ edges_in (first_at first n cs) (drop n cs) None
drop-edges zero first cs = refl
drop-edges (suc n) first [] = refl
drop-edges (suc n) first (c ∷ cs) = drop-edges n (suc c) cs

take-edges : (n first : ℕ) (cs : List ℕ) → take n (edges_in first cs None) ≡ edges_in first (take n cs) (slice_get cs n)
take-edges zero first cs = refl
take-edges (suc n) first [] = refl
take-edges (suc n) first (c ∷ cs) = by_rest n cs (take-edges n (suc c) cs)
  where
    by_rest : (m : ℕ) (ds : List ℕ) → take m (edges_in (suc c) ds None) ≡ edges_in (suc c) (take m ds) (slice_get ds m)
        → take (suc m) (edges_in first (c ∷ ds) None) ≡ edges_in first (take (suc m) (c ∷ ds)) (slice_get (c ∷ ds) (suc m))
    by_rest zero [] h = refl
    by_rest (suc m) [] h = refl
    by_rest zero (d ∷ ds) h = refl
    by_rest (suc m) (d ∷ ds) h = ap (λ (es : List Edges). let e : Edges = record { first = first; high = c; next = d } in e ∷ es) h

pub edges-entries : (w : Window) (past : Past) → map edges_of (columns_in Entries w past) ≡ edges_in (first_at 0 w.from (entry_clocks past)) (cut w (entry_clocks past)) (slice_get (drop w.from (entry_clocks past)) (w.to - w.from))
unfolding columns_in columns_on entry_columns
edges-entries w past =
    map-cut edges_of w (entry_columns_from 0 0 (entries_of past)) ∙ ap (cut w) (edges-from 0 0 (entries_of past))
    ∙ ap (take (w.to - w.from)) (drop-edges w.from 0 (entry_clocks past)) ∙ take-edges (w.to - w.from) (first_at 0 w.from (entry_clocks past)) (drop w.from (entry_clocks past))

-- jobs end at the clocks of entries
carried : (a b : Bool) → a || b ≡ true → {c : Bool} → (b ≡ true → c ≡ true) → a || c ≡ true
carried true b h f = refl
carried false b h f = f h

ends-there : (t r : ℕ) (past : Past) → has r (end_clocks t past) ≡ true → has r (entry_clocks past) ≡ true
unfolding end_clocks
ends-there t r [] h = cc
ends-there t r (Clock tick ∷ past) h = subst (λ (xs : List Past). has r (map now xs) ≡ true) (sym (entries-clocked tick past)) (ends-there t r past h)
ends-there t r (Acted d ∷ past) h = subst (λ (xs : List Past). has r (map now xs) ≡ true) (sym (entries-acted d past)) (rw map-append (by_case (ends_job t (Acted d)) h (ends-there t r past)))
  where
    by_case : (b : Bool) → has r (if b then (end_clocks t past ++ now past ∷ []) else end_clocks t past) ≡ true → (has r (end_clocks t past) ≡ true → has r (entry_clocks past) ≡ true) → has r (entry_clocks past ++ now past ∷ []) ≡ true
    by_case true k before = has-push r (now past) (entry_clocks past) ∙ carried (r == now past) (has r (end_clocks t past)) (sym (has-push r (now past) (end_clocks t past)) ∙ k) before
    by_case false k before = has-push r (now past) (entry_clocks past) ∙ rw (before k) (or_true (r == now past))

-- ---- at entries, clocks stand in order, and no job ends between one and the next

up_to-same : (a b : ℕ) (xs : List ℕ) → ((r : ℕ) → has r xs ≡ true → nat_le r a ≡ nat_le r b) → up_to a xs ≡ up_to b xs
up_to-same a b [] h = refl
up_to-same a b (x ∷ xs) h =
    let here : nat_le x a ≡ nat_le x b = h x (rw equal_self refl) in
    let rest : up_to a xs ≡ up_to b xs = up_to-same a b xs (λ r k. h r (rw k (or_true (r == x)))) in
    up_to-cons a x xs ∙ (λ i. one_if (here i) + rest i) ∙ sym (up_to-cons b x xs)

-- clocks of entries before some, and these: the first are no later than the others, which rise, and the last of them is now
pub record AreAround (past : Past) (front back : List ℕ) : Type 0 where
  pub all : (t r : ℕ) → has r (end_clocks t past) ≡ true → (has r front ≡ true) ⊎ (has r back ≡ true)
  pub before : (r s : ℕ) → has r front ≡ true → has s back ≡ true → r ≤ s
  pub rising : IsRising back
  pub last : (d : ℕ) → 0 < length back → get_or back (length back - 1) d ≡ now past

within : (c : ℕ) (cs : List ℕ) → IsRising (c ∷ cs) → (s : ℕ) → has s (c ∷ cs) ≡ true → c ≤ s
within c [] rising s h = let e : s ≡ c = has-one s c h in omega arith
within c (d ∷ ds) rising s h = join (either (s == c) (has s (d ∷ ds)) h) (λ k. within d ds (rest-rising c (d ∷ ds) rising) s k)
  where
    join : (s == c ≡ true) ⊎ (has s (d ∷ ds) ≡ true) → (has s (d ∷ ds) ≡ true → d ≤ s) → c ≤ s
    join (inl k) f = let e : s ≡ c = eqb-true s c k in omega arith
    join (inr k) f = let le : c ≤ d = rising 0 1 0 (omega arith) (omega arith) in omega (arith, f k, le)

last-next : (past : Past) (c : ℕ) (cs : List ℕ) → ((d : ℕ) → 0 < length (c ∷ cs) → get_or (c ∷ cs) (length (c ∷ cs) - 1) d ≡ now past) → (d : ℕ) → 0 < length cs → get_or cs (length cs - 1) d ≡ now past
last-next past c cs last d some =
    let at : suc (length cs) - 1 ≡ suc (length cs - 1) = omega (arith, some) in
    ap (λ n. get_or (c ∷ cs) n d) (sym at) ∙ last d (omega arith)

around-next : (past : Past) (front : List ℕ) (c : ℕ) (cs : List ℕ) → AreAround past front (c ∷ cs) → AreAround past (c ∷ front) cs
around-next past front c cs a = record {
  all = λ t r h. moved r (a.all t r h);
  before = λ r s h k. by_front r s k (either (r == c) (has r front) h);
  rising = rest-rising c cs a.rising;
  last = last-next past c cs a.last;
}
  where
    moved : (r : ℕ) → (has r front ≡ true) ⊎ (has r (c ∷ cs) ≡ true) → (has r (c ∷ front) ≡ true) ⊎ (has r cs ≡ true)
    moved r (inl k) = inl (rw k (or_true (r == c)))
    moved r (inr k) = by_back (either (r == c) (has r cs) k)
      where
        by_back : (r == c ≡ true) ⊎ (has r cs ≡ true) → (has r (c ∷ front) ≡ true) ⊎ (has r cs ≡ true)
        by_back (inl m) = inl (rw m refl)
        by_back (inr m) = inr m

    by_front : (r s : ℕ) → has s cs ≡ true → (r == c ≡ true) ⊎ (has r front ≡ true) → r ≤ s
    by_front r s k (inl m) = let e : r ≡ c = eqb-true r c m in let le : c ≤ s = within c cs a.rising s (rw k (or_true (s == c))) in omega (arith, e, le)
    by_front r s k (inr m) = a.before r s m (rw k (or_true (s == c)))

module _ (past : Past) (front : List ℕ) (c : ℕ) (cs : List ℕ) (a : AreAround past front (c ∷ cs)) where
  -- a job ended up to the column's last clock, or not before the next column
  apart : (r : ℕ) → (has r front ≡ true) ⊎ (has r (c ∷ cs) ≡ true) → (r ≤ c) ⊎ (next_in c cs None ≤ r)
  apart r (inl k) = inl (a.before r c k (rw equal_self refl))
  apart r (inr k) = by_back (either (r == c) (has r cs) k)
    where
      behind : (ds : List ℕ) → IsRising ds → has r ds ≡ true → next_in c ds None ≤ r
      behind [] rising h = cc
      behind (d ∷ ds) rising h = within d ds rising r h

      by_back : (r == c ≡ true) ⊎ (has r cs ≡ true) → (r ≤ c) ⊎ (next_in c cs None ≤ r)
      by_back (inl m) = let e : r ≡ c = eqb-true r c m in inl (omega (arith, e))
      by_back (inr m) = inr (behind cs (rest-rising c cs a.rising) m)

  same-test : (clock r : ℕ) → c ≤ clock → clock < next_in c cs None → (r ≤ c) ⊎ (next_in c cs None ≤ r) → nat_le r clock ≡ nat_le r c
  same-test clock r from to (inl k) = let yes : nat_le r clock ≡ true = grind (arith, nat_tests, k, from) in let too : nat_le r c ≡ true = grind (arith, nat_tests, k) in yes ∙ sym too
  same-test clock r from to (inr k) = let no : nat_le r clock ≡ false = grind (arith, nat_tests, k, to) in let nor : nat_le r c ≡ false = grind (arith, nat_tests, k, to, from) in no ∙ sym nor

  follows-on : (ds : List ℕ) → IsRising ds → ((d : ℕ) → 0 < length (c ∷ ds) → get_or (c ∷ ds) (length (c ∷ ds) - 1) d ≡ now past) → (next_in c ds None ≤ now past) ⊎ ((next_in c ds None ≡ suc c) × (now past ≤ c))
  follows-on [] rising last = let at : 1 - 1 ≡ 0 = refl in let e : c ≡ now past = last 0 (omega arith) in inr (refl, omega (arith, e))
  follows-on (d ∷ ds) rising last =
      let e : get_or (d ∷ ds) (suc (length ds) - 1) 0 ≡ now past = last-next past c (d ∷ ds) last 0 (omega arith) in
      let le : d ≤ get_or (d ∷ ds) (suc (length ds) - 1) 0 = rising 0 (suc (length ds) - 1) 0 (omega arith) (omega arith) in
      inl (omega (arith, e, le))

  timed-around : (g : Group) (t : ℕ) (positive : 0 < (task g t).period) (first : ℕ) → IsTimed t past (record { first = first; high = c; next = next_in c cs None })
  timed-around g t positive first = record {
    quiet = λ clock from to. up_to-same clock c (end_clocks t past) (λ r h. same-test clock r from to (apart r (a.all t r h)));
    follows = follows-on cs (rest-rising c cs a.rising) a.last;
  }

timed-from : (g : Group) (t : ℕ) (past : Past) (positive : 0 < (task g t).period) (i first : ℕ) (front : List ℕ) (xs : List Past) → AreAround past front (map now xs)
    → Each (λ c. IsTimed t past (edges_of c)) (entry_columns_from i first xs)
timed-from g t past positive i first front [] a = tt
timed-from g t past positive i first front (x ∷ xs) a = (
  subst (λ n. IsTimed t past (record { first = first; high = now x; next = n })) (same-next xs) (timed-around past front (now x) (map now xs) a g t positive first),
  timed-from g t past positive (suc i) (suc (now x)) (now x ∷ front) xs (around-next past front (now x) (map now xs) a),
)
  where
    same-next : (ys : List Past) → next_in (now x) (map now ys) None ≡ next_clock (now x) ys
    same-next [] = refl
    same-next (y ∷ ys) = refl

pub clocks-clocked : (tick : ℕ) (past : Past) → entry_clocks (Clock tick ∷ past) ≡ entry_clocks past
clocks-clocked tick past = ap (map now) (entries-clocked tick past)

pub clocks-acted : (d : PastAct) (past : Past) → entry_clocks (Acted d ∷ past) ≡ entry_clocks past ++ now past ∷ []
clocks-acted d past = ap (map now) (entries-acted d past) ∙ map-append now (entries_of past) ((Acted d ∷ past) ∷ [])

pub clocks-low : (past : Past) → All (λ r. r ≤ now past) (entry_clocks past)
unfolding moments
clocks-low [] = λ k d low. absurd (no-entry k low)
  where
    no-entry : (k : ℕ) → k < length (entry_clocks []) → ⊥
    no-entry k low = omega arith
clocks-low (Clock tick ∷ past) = λ k d low.
    let same : length (entry_clocks (Clock tick ∷ past)) ≡ length (entry_clocks past) = ap length (clocks-clocked tick past) in
    let before : get_or (entry_clocks past) k d ≤ now past = clocks-low past k d (omega (arith, low, same)) in
    omega (arith, before, ap (λ xs. get_or xs k d) (clocks-clocked tick past))
clocks-low (Acted x ∷ past) = subst (All (λ r. r ≤ now past)) (sym (clocks-acted x past)) (All-push (λ r. r ≤ now past) (entry_clocks past) (now past) (clocks-low past) (omega arith))

pub clocks-rise : (past : Past) → IsRising (entry_clocks past)
unfolding moments
clocks-rise [] = λ i j d le low. absurd (no-entry j low)
  where
    no-entry : (k : ℕ) → k < length (entry_clocks []) → ⊥
    no-entry k low = omega arith
clocks-rise (Clock tick ∷ past) = subst IsRising (sym (clocks-clocked tick past)) (clocks-rise past)
clocks-rise (Acted x ∷ past) =
    subst IsRising (sym (clocks-acted x past)) (IsNonDecreasingBy-push (λ n. n) (entry_clocks past) (now past) (clocks-rise past) (λ d some. clocks-low past (length (entry_clocks past) - 1) d (omega arith)))

last-pushed : (xs : List ℕ) (y d : ℕ) → get_or (xs ++ y ∷ []) (length (xs ++ y ∷ []) - 1) d ≡ y
last-pushed xs y d =
    let at : length (xs ++ y ∷ []) - 1 ≡ length xs = omega (arith, length-append xs (y ∷ [])) in
    ap (λ n. get_or (xs ++ y ∷ []) n d) at ∙ get_or-append_seam xs y [] d

all-around : (past : Past) → EndsInAct past → AreAround past [] (entry_clocks past)
unfolding moments
all-around past whole = record {
  all = λ t r h. inr (ends-there t r past h);
  before = λ r s h k. cc;
  rising = clocks-rise past;
  last = by_last past whole;
}
  where
    by_last : (p : Past) → EndsInAct p → (d : ℕ) → 0 < length (entry_clocks p) → get_or (entry_clocks p) (length (entry_clocks p) - 1) d ≡ now p
    by_last [] w d some = absurd (omega arith)
    by_last (Clock tick ∷ p) w d some = absurd w
    by_last (Acted x ∷ p) w d some = ap (λ xs. get_or xs (length xs - 1) d) (clocks-acted x p) ∙ last-pushed (entry_clocks p) (now p) d

pub timed-entries : (g : Group) (t : ℕ) (past : Past) (positive : 0 < (task g t).period) (w : Window) → EndsInAct past → Each (λ c. IsTimed t past (edges_of c)) (columns_in Entries w past)
unfolding columns_in columns_on entry_columns
timed-entries g t past positive w whole = each-take _ (w.to - w.from) (drop w.from (entry_columns_from 0 0 (entries_of past))) (each-drop _ w.from (entry_columns_from 0 0 (entries_of past)) (timed-from g t past positive 0 0 [] (entries_of past) (all-around past whole)))

-- the columns of a window are timed
timed-each : (t : ℕ) (past : Past) (cs : List Column) → Each (λ c. IsTimed t past (edges_of c)) cs → AreTimed t past cs
timed-each t past [] h = tt
timed-each t past (c ∷ cs) h = (h.0, timed-each t past cs h.1)

pub are-timed : (axis : Axis) (g : Group) (t : ℕ) (past : Past) (positive : 0 < (task g t).period) (w : Window) → EndsInAct past → AreTimed t past (columns_in axis w past)
are-timed Ticks g t past positive w whole = timed-each t past (columns_in Ticks w past) (timed-ticks g t past positive w)
are-timed Entries g t past positive w whole = timed-each t past (columns_in Entries w past) (timed-entries g t past positive w whole)
