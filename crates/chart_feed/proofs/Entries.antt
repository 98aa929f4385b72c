-- The columns of entries as a past goes on: an act adds one.
use Rattle.std.proofs.Common.{◌≡◌, ◌∙◌, ℕ, zero, suc, ◌-◌, Bool, true, false, List, [], ◌∷◌, ◌++◌, map, refl, sym, ap, arith, take, drop, length, append-nil}
use Rattle.std.specs.Prelude.{filter, nat_le, nat_lt, if◌then◌else◌}
use Rattle.std.proofs.lemmas.Bool.Decides.{nat_tests}
use Rattle.std.proofs.lemmas.Grind.{reverse_onto}
use Rattle.std.proofs.lemmas.List.{length-append}
use Rattle.rt_model.specs.Past.{Acted, Clock, Past, PastAct, entries_in, now}
use Rattle.trace_views.specs.Columns.{entry_columns, entry_columns_from, is_entry}
use Rattle.trace_views.specs.Moments.{moments}
use Rattle.chart_texts.specs.declared.window.Axis.TheVariants.{Entries}
use Rattle.chart_texts.specs.declared.window.Window.{Window}
use Rattle.chart_texts.specs.Windows.{columns_in, columns_on, cut}
use Rattle.chart_rows.specs.Strips.{strip_of}
use Rattle.chart_feed.specs.WindowStrips.{entries_of, entry_strip, is_in}
use Rattle.chart_feed.proofs.Ticks.{map-cut}

-- ---- the states after entries

pub entries-clocked : (tick : ℕ) (past : Past) → entries_of (Clock tick ∷ past) ≡ entries_of past
unfolding moments
entries-clocked tick past = refl

pub entries-acted : (d : PastAct) (past : Past) → entries_of (Acted d ∷ past) ≡ entries_of past ++ (Acted d ∷ past) ∷ []
unfolding moments
entries-acted d past = reverse_onto (filter is_entry (moments past)) (Acted d ∷ past) []

pub length-entries : (past : Past) → length (entries_of past) ≡ entries_in past
unfolding moments
length-entries [] = refl
length-entries (Clock tick ∷ past) = ap length (entries-clocked tick past) ∙ length-entries past
length-entries (Acted d ∷ past) = ap length (entries-acted d past) ∙ omega (arith, length-append (entries_of past) ((Acted d ∷ past) ∷ []), length-entries past)

-- ---- one more in a window

take-none : {A : Type 0} (n : ℕ) → take n (let xs : List A = [] in xs) ≡ []
take-none zero = refl
take-none (suc n) = refl

drop-none : {A : Type 0} (n : ℕ) → drop n (let xs : List A = [] in xs) ≡ []
drop-none zero = refl
drop-none (suc n) = refl

take-last : {A : Type 0} (n : ℕ) (xs : List A) (x : A) → take n (xs ++ x ∷ []) ≡ take n xs ++ (if nat_lt (length xs) n then x ∷ [] else [])
take-last zero xs x = let no : nat_lt (length xs) 0 ≡ false = grind (arith, nat_tests) in rw no refl
take-last (suc n) [] x = let yes : nat_lt 0 (suc n) ≡ true = grind (arith, nat_tests) in rw yes (ap (λ zs. x ∷ zs) (take-none n))
take-last (suc n) (y ∷ ys) x = by_room (nat_lt (length ys) n) refl (take-last n ys x)
  where
    by_room : (b : Bool) → nat_lt (length ys) n ≡ b → take n (ys ++ x ∷ []) ≡ take n ys ++ (if nat_lt (length ys) n then x ∷ [] else []) → y ∷ take n (ys ++ x ∷ []) ≡ (y ∷ take n ys) ++ (if nat_lt (suc (length ys)) (suc n) then x ∷ [] else [])
    by_room true h before =
        let more : nat_lt (suc (length ys)) (suc n) ≡ true = grind (arith, nat_tests, h) in
        rw more (ap (λ zs. y ∷ zs) (before ∙ rw h refl))
    by_room false h before =
        let more : nat_lt (suc (length ys)) (suc n) ≡ false = grind (arith, nat_tests, h) in
        rw more (ap (λ zs. y ∷ zs) (before ∙ rw h refl))

drop-last : {A : Type 0} (n : ℕ) (xs : List A) (x : A) → drop n (xs ++ x ∷ []) ≡ drop n xs ++ (if nat_le n (length xs) then x ∷ [] else [])
drop-last zero xs x = let yes : nat_le 0 (length xs) ≡ true = grind (arith, nat_tests) in rw yes refl
drop-last (suc n) [] x = let no : nat_le (suc n) 0 ≡ false = grind (arith, nat_tests) in rw no (drop-none n)
drop-last (suc n) (y ∷ ys) x = by_low (nat_le n (length ys)) refl (drop-last n ys x)
  where
    by_low : (b : Bool) → nat_le n (length ys) ≡ b → drop n (ys ++ x ∷ []) ≡ drop n ys ++ (if nat_le n (length ys) then x ∷ [] else []) → drop n (ys ++ x ∷ []) ≡ drop n ys ++ (if nat_le (suc n) (suc (length ys)) then x ∷ [] else [])
    by_low true h before =
        let more : nat_le (suc n) (suc (length ys)) ≡ true = grind (arith, nat_tests, h) in
        rw more (before ∙ rw h refl)
    by_low false h before =
        let more : nat_le (suc n) (suc (length ys)) ≡ false = grind (arith, nat_tests, h) in
        rw more (before ∙ rw h refl)

length-dropped : {A : Type 0} (n : ℕ) (xs : List A) → length (drop n xs) ≡ length xs - n
length-dropped zero xs = omega arith
length-dropped (suc n) [] = omega arith
length-dropped (suc n) (x ∷ xs) = omega (arith, length-dropped n xs)

pub cut-inside : {A : Type 0} (w : Window) (xs : List A) (x : A) → is_in w (length xs) ≡ true → cut w (xs ++ x ∷ []) ≡ cut w xs ++ x ∷ []
cut-inside w xs x h =
    let low : nat_le w.from (length xs) ≡ true = grind (arith, nat_tests, h) in
    let room : nat_lt (length (drop w.from xs)) (w.to - w.from) ≡ true = grind (arith, nat_tests, h, length-dropped w.from xs) in
    let dropped : drop w.from (xs ++ x ∷ []) ≡ drop w.from xs ++ x ∷ [] = drop-last w.from xs x ∙ rw low refl in
    ap (take (w.to - w.from)) dropped ∙ take-last (w.to - w.from) (drop w.from xs) x ∙ rw room refl

pub cut-outside : {A : Type 0} (w : Window) (xs : List A) (x : A) → is_in w (length xs) ≡ false → cut w (xs ++ x ∷ []) ≡ cut w xs
cut-outside w xs x h = by_low (nat_le w.from (length xs)) refl
  where
    by_low : (b : Bool) → nat_le w.from (length xs) ≡ b → cut w (xs ++ x ∷ []) ≡ cut w xs
    by_low true low =
        let full : nat_lt (length (drop w.from xs)) (w.to - w.from) ≡ false = grind (arith, nat_tests, h, low, length-dropped w.from xs) in
        let dropped : drop w.from (xs ++ x ∷ []) ≡ drop w.from xs ++ x ∷ [] = drop-last w.from xs x ∙ rw low refl in
        ap (take (w.to - w.from)) dropped ∙ take-last (w.to - w.from) (drop w.from xs) x ∙ rw full (append-nil _)
    by_low false low =
        let dropped : drop w.from (xs ++ x ∷ []) ≡ drop w.from xs = drop-last w.from xs x ∙ rw low (append-nil _) in
        ap (take (w.to - w.from)) dropped

-- ---- the columns of a window

strips-from : (i first : ℕ) (xs : List Past) → map strip_of (entry_columns_from i first xs) ≡ map entry_strip xs
strips-from i first [] = refl
strips-from i first (x ∷ xs) = ap (λ ss. entry_strip x ∷ ss) (strips-from (suc i) (suc (now x)) xs)

pub strips-entries : (w : Window) (past : Past) → map strip_of (columns_in Entries w past) ≡ map entry_strip (cut w (entries_of past))
unfolding columns_in columns_on entry_columns
strips-entries w past = map-cut strip_of w (entry_columns_from 0 0 (entries_of past)) ∙ ap (cut w) (strips-from 0 0 (entries_of past)) ∙ sym (map-cut entry_strip w (entries_of past))
