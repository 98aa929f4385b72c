-- The clocks of entries in a window, as entries are added.
use Rattle.std.proofs.Common.{◌≡◌, ◌∙◌, ℕ, zero, suc, ◌+◌, ◌-◌, ◌<◌, ◌≤◌, Bool, true, false, List, [], ◌∷◌, ◌++◌, length, drop, get_or, refl, sym, ap, arith}
use Rattle.std.specs.Prelude.{◌==◌, nat_lt, slice_get, Option, None, Some, if◌then◌else◌}
use Rattle.std.proofs.lemmas.Bool.Decides.{nat_tests}
use Rattle.std.proofs.lemmas.List.{length-append}
use Rattle.rt_rules.specs.Numbers.{numbers_from}
use Rattle.chart_texts.specs.declared.window.Window.{Window}
use Rattle.chart_texts.specs.Windows.{cut}
use Rattle.chart_feed.specs.EntryClocks.{EntriesKept, clocks_in, first_at}
use Rattle.chart_feed.specs.WindowStrips.{is_in}
use Rattle.chart_feed.proofs.Entries.{cut-inside, cut-outside}

none-behind : (first n : ℕ) → first_at first n [] ≡ first
none-behind first zero = refl
none-behind first (suc n) = refl

first-more : (first n : ℕ) (cs : List ℕ) (c : ℕ) → first_at first n (cs ++ c ∷ []) ≡ (if nat_lt (length cs) n then c + 1 else first_at first n cs)
first-more first zero cs c = let no : nat_lt (length cs) 0 ≡ false = grind (arith, nat_tests) in rw no refl
first-more first (suc n) [] c =
    let yes : nat_lt 0 (suc n) ≡ true = grind (arith, nat_tests) in
    let next : suc c ≡ c + 1 = omega arith in
    rw yes (none-behind (suc c) n ∙ next)
first-more first (suc n) (x ∷ xs) c = by_case (nat_lt (length xs) n) refl (first-more (suc x) n xs c)
  where
    by_case : (b : Bool) → nat_lt (length xs) n ≡ b → first_at (suc x) n (xs ++ c ∷ []) ≡ (if nat_lt (length xs) n then c + 1 else first_at (suc x) n xs)
        → first_at (suc x) n (xs ++ c ∷ []) ≡ (if nat_lt (suc (length xs)) (suc n) then c + 1 else first_at (suc x) n xs)
    by_case true h before = let more : nat_lt (suc (length xs)) (suc n) ≡ true = grind (arith, nat_tests, h) in rw more (before ∙ rw h refl)
    by_case false h before = let more : nat_lt (suc (length xs)) (suc n) ≡ false = grind (arith, nat_tests, h) in rw more (before ∙ rw h refl)

none-there : (n : ℕ) → slice_get (let xs : List ℕ = [] in xs) n ≡ None
none-there zero = refl
none-there (suc n) = refl

after-more : (cs : List ℕ) (n c : ℕ) → slice_get (cs ++ c ∷ []) n ≡ (if length cs == n then Some c else slice_get cs n)
after-more [] zero c = refl
after-more [] (suc n) c = let no : 0 == suc n ≡ false = grind (arith, nat_tests) in none-there n ∙ sym (ap (λ (b : Bool). if b then Some c else None) no)
after-more (x ∷ xs) zero c = let no : suc (length xs) == 0 ≡ false = grind (arith, nat_tests) in sym (ap (λ (b : Bool). if b then Some c else Some x) no)
after-more (x ∷ xs) (suc n) c = after-more xs n c ∙ ap (λ (b : Bool). if b then Some c else slice_get xs n) (same (length xs == n) refl)
  where
    same : (b : Bool) → length xs == n ≡ b → b ≡ (suc (length xs) == suc n)
    same true h = let yes : suc (length xs) == suc n ≡ true = grind (arith, nat_tests, h) in sym yes
    same false h = let no : suc (length xs) == suc n ≡ false = grind (arith, nat_tests, h) in sym no

module _ (w : Window) (cs : List ℕ) (c : ℕ) where
  cut-more : cut w (cs ++ c ∷ []) ≡ (if is_in w (length cs) then (cut w cs ++ c ∷ []) else cut w cs)
  cut-more = by_case (is_in w (length cs)) refl
    where
      by_case : (b : Bool) → is_in w (length cs) ≡ b → cut w (cs ++ c ∷ []) ≡ (if b then (cut w cs ++ c ∷ []) else cut w cs)
      by_case true h = cut-inside w cs c h
      by_case false h = cut-outside w cs c h

  count-more : length (cs ++ c ∷ []) ≡ length cs + 1
  count-more = length-append cs (c ∷ [])

  pub clocks-more : clocks_in w (cs ++ c ∷ []) ≡ record {
    count = length cs + 1;
    first = if nat_lt (length cs) w.from then c + 1 else first_at 0 w.from cs;
    clocks = if is_in w (length cs) then (cut w cs ++ c ∷ []) else cut w cs;
    after = if length cs == w.to then Some c else slice_get cs w.to;
  }
  clocks-more = λ i. record { count = count-more i; first = first-more 0 w.from cs c i; clocks = cut-more i; after = after-more cs w.to c i }

pub numbers-next : (a m : ℕ) → a < m → a ∷ numbers_from (a + 1) (m - (a + 1)) ≡ numbers_from a (m - a)
numbers-next a m low =
    let next : a + 1 ≡ suc a = omega arith in
    let size : suc (m - (a + 1)) ≡ m - a = omega (arith, low) in
    ap (λ b. a ∷ numbers_from b (m - (a + 1))) next ∙ ap (numbers_from a) size

-- what an entry with this clock makes of them
abbrev grown : Window → ℕ → EntriesKept → EntriesKept
grown w c k = record {
  count = k.count + 1;
  first = if nat_lt k.count w.from then c + 1 else k.first;
  clocks = if is_in w k.count then (k.clocks ++ c ∷ []) else k.clocks;
  after = if k.count == w.to then Some c else k.after;
}

pub noted : (w : Window) (cs : List ℕ) (c : ℕ) (old : EntriesKept) (clocks : List ℕ) → old ≡ clocks_in w cs → clocks ≡ (if is_in w old.count then (old.clocks ++ c ∷ []) else old.clocks)
    → (count first : ℕ) (after : Option ℕ) → count ≡ old.count + 1 → first ≡ (if nat_lt old.count w.from then c + 1 else old.first) → after ≡ (if old.count == w.to then Some c else old.after)
    → record { count = count; first = first; clocks = clocks; after = after } ≡ clocks_in w (cs ++ c ∷ [])
noted w cs c old clocks is clocks_are count first after count_is first_is after_is =
    (λ i. let k : EntriesKept = record { count = count_is i; first = first_is i; clocks = clocks_are i; after = after_is i } in k) ∙ ap (grown w c) is ∙ sym (clocks-more w cs c)

-- ---- those behind some

drop-get : (n k : ℕ) (cs : List ℕ) → slice_get (drop n cs) k ≡ slice_get cs (n + k)
drop-get zero k cs = let at : k ≡ 0 + k = omega arith in ap (slice_get cs) at
drop-get (suc n) k [] = none-there k ∙ sym (none-there (suc n + k))
drop-get (suc n) k (c ∷ cs) = let at : suc (n + k) ≡ suc n + k = omega arith in drop-get n k cs ∙ ap (slice_get (c ∷ cs)) at

pub after-window : (w : Window) (cs : List ℕ) → w.from ≤ w.to → slice_get (drop w.from cs) (w.to - w.from) ≡ slice_get cs w.to
after-window w cs h = let at : w.from + (w.to - w.from) ≡ w.to = omega (arith, h) in drop-get w.from (w.to - w.from) cs ∙ ap (slice_get cs) at

pub first-low : (first n : ℕ) (cs : List ℕ) (top : ℕ) → first ≤ top → ((k d : ℕ) → k < length cs → get_or cs k d < top) → first_at first n cs ≤ top
first-low first zero cs top low all = low
first-low first (suc n) [] top low all = low
first-low first (suc n) (c ∷ cs) top low all = first-low (suc c) n cs top (let here : c < top = all 0 0 (omega arith) in omega (arith, here)) (λ k d h. all (suc k) d (omega (arith, h)))
