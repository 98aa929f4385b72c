-- The strip of a tick as a past goes on: the newest has one state more, or a later tick begins.
use Rattle.std.proofs.Common.{◌≡◌, ◌≢◌, ◌∙◌, ℕ, zero, suc, ◌+◌, ◌<◌, ◌≤◌, true, false, List, [], ◌∷◌, ◌++◌, map, take, refl, sym, ap, arith, eqb}
use Rattle.std.specs.Prelude.{filter, nat_lt}
use Rattle.std.proofs.lemmas.Bool.Decides.{nat_tests}
use Rattle.rt_rules.specs.Numbers.{numbers_from}
use Rattle.rt_model.specs.Past.{Acted, Clock, Event, Past, PastAct, now}
use Rattle.trace_views.specs.Cells.{newest}
use Rattle.trace_views.specs.Moments.{acts_among, at_tick, moments, own}
use Rattle.chart_rows.specs.Strips.{Strip, blank, done, seen}

abbrev pub tick_strip : Past → ℕ → Strip
tick_strip past t = record { states = at_tick t past; acts = acts_among (own t past) }

-- ---- the clock never falls

rises : (e : Event) (past : Past) → now past ≤ now (e ∷ past)
rises (Clock tick) past = omega arith
rises (Acted d) past = omega arith

-- the newest state before a tick, as the definition has it
abbrev gap : ℕ → Past → List Past
gap t past = take 1 (filter (λ p. nat_lt (now p) t) (moments past))

-- no state is later than the newest one
none-later : (t : ℕ) (past : Past) → now past < t → own t past ≡ []
unfolding moments
none-later t [] h = let no : eqb 0 t ≡ false = grind (arith, nat_tests) in rw no refl
none-later t (e ∷ past) h =
    let no : eqb (now (e ∷ past)) t ≡ false = grind (arith, nat_tests) in
    rw no (none-later t past (omega (arith, rises e past)))

-- a tick that has states of its own has these, and else the newest before
at-some : (t : ℕ) (past : Past) (p : Past) (ps : List Past) → own t past ≡ p ∷ ps → at_tick t past ≡ p ∷ ps
unfolding at_tick
at-some t past p ps h = rw h refl

at-none : (t : ℕ) (past : Past) → own t past ≡ [] → at_tick t past ≡ gap t past
unfolding at_tick
at-none t past h = rw h refl

-- ---- the newest state, and its tick

own-more : (e : Event) (past : Past) (t : ℕ) → t ≡ now (e ∷ past) → own t (e ∷ past) ≡ (e ∷ past) ∷ own t past
unfolding moments
own-more e past t h = let yes : eqb (now (e ∷ past)) t ≡ true = grind (arith, nat_tests) in rw yes refl

own-other : (e : Event) (past : Past) (t : ℕ) → t ≢ now (e ∷ past) → own t (e ∷ past) ≡ own t past
unfolding moments
own-other e past t h = let no : eqb (now (e ∷ past)) t ≡ false = grind (arith, nat_tests) in rw no refl

gap-other : (e : Event) (past : Past) (t : ℕ) → t ≤ now (e ∷ past) → gap t (e ∷ past) ≡ gap t past
unfolding moments
gap-other e past t h = let no : nat_lt (now (e ∷ past)) t ≡ false = grind (arith, nat_tests) in rw no refl

gap-newest : (past : Past) (t : ℕ) → now past < t → gap t past ≡ past ∷ []
unfolding moments
gap-newest [] t h = let yes : nat_lt 0 t ≡ true = grind (arith, nat_tests) in rw yes refl
gap-newest (e ∷ past) t h = let yes : nat_lt (now (e ∷ past)) t ≡ true = grind (arith, nat_tests) in rw yes refl

-- the newest tick has states
own-newest : (past : Past) → (ps : List Past) × (own (now past) past ≡ past ∷ ps)
unfolding moments
own-newest [] = ([], refl)
own-newest (e ∷ past) = (own (now (e ∷ past)) past, own-more e past (now (e ∷ past)) refl)

at-own : (past : Past) → at_tick (now past) past ≡ own (now past) past
at-own past = let o = own-newest past in at-some (now past) past past o.0 o.1 ∙ sym o.1

-- the newest tick has the newest state, and older ones
pub strip-seen : (past : Past) → (s : Strip) × (tick_strip past (now past) ≡ seen past s)
strip-seen past = let o = own-newest past in (record { states = o.0; acts = acts_among (own (now past) past) }, λ i. record { states = (at-own past ∙ o.1) i; acts = acts_among (own (now past) past) })

-- ---- the strips of ticks

at-other : (e : Event) (past : Past) (t : ℕ) → t < now (e ∷ past) → at_tick t (e ∷ past) ≡ at_tick t past
at-other e past t h = by_own (own t past) refl
  where
    other : t ≢ now (e ∷ past)
    other = omega arith

    by_own : (ps : List Past) → own t past ≡ ps → at_tick t (e ∷ past) ≡ at_tick t past
    by_own [] k = at-none t (e ∷ past) (own-other e past t other ∙ k) ∙ gap-other e past t (omega arith) ∙ sym (at-none t past k)
    by_own (p ∷ ps) k = at-some t (e ∷ past) p ps (own-other e past t other ∙ k) ∙ sym (at-some t past p ps k)

-- a tick before the newest stays as it was
pub strip-earlier : (e : Event) (past : Past) (t : ℕ) → t < now (e ∷ past) → tick_strip (e ∷ past) t ≡ tick_strip past t
strip-earlier e past t h =
    let other : t ≢ now (e ∷ past) = omega arith in
    λ i. record { states = at-other e past t h i; acts = acts_among (own-other e past t other i) }

-- a tick that no state has shows the newest one
pub strip-gap : (past : Past) (t : ℕ) → now past < t → tick_strip past t ≡ seen past blank
strip-gap past t h =
    let none = none-later t past h in
    λ i. record { states = (at-none t past none ∙ gap-newest past t h) i; acts = acts_among (none i) }

-- at a tick a move of the clock is one state more, and an act an act and a state more
pub strip-clocked : (tick : ℕ) (past : Past) → tick ≤ now past → tick_strip (Clock tick ∷ past) (now (Clock tick ∷ past)) ≡ seen (Clock tick ∷ past) (tick_strip past (now past))
strip-clocked tick past h =
    let same : now (Clock tick ∷ past) ≡ now past = omega arith in
    let own_is : own (now (Clock tick ∷ past)) (Clock tick ∷ past) ≡ (Clock tick ∷ past) ∷ own (now past) past = own-more (Clock tick) past (now (Clock tick ∷ past)) refl ∙ ap (λ t. (Clock tick ∷ past) ∷ own t past) same in
    λ i. record {
      states = (at-own (Clock tick ∷ past) ∙ own_is ∙ ap (λ (ps : List Past). (Clock tick ∷ past) ∷ ps) (sym (at-own past))) i;
      acts = acts_among (own_is i);
    }

pub strip-acted : (d : PastAct) (past : Past) → tick_strip (Acted d ∷ past) (now past) ≡ seen (Acted d ∷ past) (done (record { act = d; before = past }) (tick_strip past (now past)))
strip-acted d past =
    let own_is : own (now past) (Acted d ∷ past) ≡ (Acted d ∷ past) ∷ own (now past) past = own-more (Acted d) past (now past) refl in
    λ i. record {
      states = (at-own (Acted d ∷ past) ∙ own_is ∙ ap (λ (ps : List Past). (Acted d ∷ past) ∷ ps) (sym (at-own past))) i;
      acts = acts_among (own_is i);
    }

-- a later tick begins with the state after the move
pub strip-begun : (tick : ℕ) (past : Past) → now past < tick → tick_strip (Clock tick ∷ past) (now (Clock tick ∷ past)) ≡ seen (Clock tick ∷ past) blank
strip-begun tick past h =
    let n : now past < now (Clock tick ∷ past) = omega arith in
    let own_is : own (now (Clock tick ∷ past)) (Clock tick ∷ past) ≡ (Clock tick ∷ past) ∷ [] = own-more (Clock tick) past (now (Clock tick ∷ past)) refl ∙ ap (λ (ps : List Past). (Clock tick ∷ past) ∷ ps) (none-later (now (Clock tick ∷ past)) past n) in
    λ i. record { states = (at-own (Clock tick ∷ past) ∙ own_is) i; acts = acts_among (own_is i) }

-- the newest state of the newest tick
pub newest-strip : (past : Past) → newest (tick_strip past (now past)).states ≡ past
newest-strip past = let o = own-newest past in ap newest (at-own past ∙ o.1)

-- ---- numbers in turn

pub numbers-last : (a n : ℕ) → numbers_from a (n + 1) ≡ numbers_from a n ++ (a + n) ∷ []
numbers-last a zero = let at : a ≡ a + 0 = omega arith in ap (λ j. j ∷ []) at
numbers-last a (suc n) =
    let size : suc n + 1 ≡ suc (n + 1) = omega arith in
    let at : suc a + n ≡ a + suc n = omega arith in
    ap (λ m. numbers_from a m) size ∙ ap (λ xs. a ∷ xs) (numbers-last (suc a) n) ∙ ap (λ j. a ∷ (numbers_from (suc a) n ++ j ∷ [])) at

pub map-below : {A : Type 0} (f h : ℕ → A) (a n m : ℕ) → ((k : ℕ) → k < n → a + k < m) → ((t : ℕ) → t < m → f t ≡ h t) → map f (numbers_from a n) ≡ map h (numbers_from a n)
map-below f h a zero m below same = refl
map-below f h a (suc n) m below same =
    let first : a < m = omega (arith, below 0 (omega arith)) in
    λ i. same a first i ∷ map-below f h (suc a) n m (λ k low. let b : a + suc k < m = below (suc k) (omega arith) in omega (arith, b)) same i
