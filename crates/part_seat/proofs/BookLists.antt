-- Histories by the number of the semaphore, as seats have seen them.
use Rattle.std.proofs.Common.{◌≡◌, ℕ, zero, suc, ◌-◌, ◌<◌, ◌≤◌, Bool, true, false, List, [], ◌∷◌, ◌++◌, length, map, refl, sym, ap, ◌∙◌, subst, append-nil, arith, eqb-true}
use Rattle.std.specs.Prelude.{◌==◌, if◌then◌else◌, slice_index_or, slice_set}
use Rattle.std.proofs.lemmas.List.{get_or-map, get_or-set_other, get_or-set_same, length-set, map-set}
use Rattle.std.proofs.Math.Seq.{map-set_same}
use Rattle.rt_rules.proofs.MemberLaws.{equal_self}
use Rattle.split_rules.specs.Matching.{Books, own}
use Rattle.split_rules.specs.declared.SemEntry.{SemEntry}
use Rattle.turn_cell.specs.Words.{AgreeOn, StartsWith, entries_of}
use Rattle.split_inbox.specs.Books.{cpu_of}
use Rattle.split_laws.specs.Parts.{HaveGrown}
use Rattle.part_seat.specs.Partitions.{Seat, books_in, books_of, cells_of}

-- the semaphore of a seat
position-back : (s : ℕ) → 1 ≤ s → suc (s - 1) ≡ s
position-back s low = omega (arith, low)

pub books-at : (seats : List Seat) (s : ℕ) (d : Seat) → 1 ≤ s → s - 1 < length seats → books_in seats s ≡ (slice_index_or seats (s - 1) d).seen
books-at seats s d low high =
    subst (λ n. books_in seats n ≡ (slice_index_or seats (s - 1) d).seen) (position-back s low) (get_or-map (λ (a : Seat). a.seen) seats (s - 1) d [] high)

module _ (seats : List Seat) (s : ℕ) (a : Seat) (low : 1 ≤ s) (high : s - 1 < length seats) where
  after : List Seat
  after = slice_set seats (s - 1) a

  pub set-here : books_in (slice_set seats (s - 1) a) s ≡ a.seen
  set-here =
      books-at (slice_set seats (s - 1) a) s a low (let l = length-set seats (s - 1) a in omega (arith, l, high))
      ∙ ap (λ (b : Seat). b.seen) (get_or-set_same seats (s - 1) a a high)

  others : (n : ℕ) → suc n == s ≡ false → books_of (map (λ (b : Seat). b.seen) (slice_set seats (s - 1) a)) (suc n) ≡ books_in seats (suc n)
  others n other =
      ap (λ l. slice_index_or l n []) (map-set (λ (b : Seat). b.seen) seats (s - 1) a)
      ∙ get_or-set_other (map (λ (b : Seat). b.seen) seats) (s - 1) n a.seen [] (λ e. clash n (ap suc e ∙ position-back s low) other)
    where
      clash : (m : ℕ) → suc m ≡ s → suc m == s ≡ false → ⊥
      clash m e k = let t = equal_self s in let u = ap (λ x. x == s) e in cc

  pub set-others : (r : ℕ) → r == s ≡ false → books_in (slice_set seats (s - 1) a) r ≡ books_in seats r
  set-others zero other = refl
  set-others (suc n) other = others n other

  pub set-cells : (d : Seat) → a.cell ≡ (slice_index_or seats (s - 1) d).cell → cells_of (slice_set seats (s - 1) a) ≡ cells_of seats
  set-cells d same = map-set_same (λ (b : Seat). b.cell) seats (s - 1) a d same

-- ---- books of which one has another history

abbrev pub put : Books → ℕ → List SemEntry → Books
put books s es r = if r == s then es else books r

pub put-here : (books : Books) (s : ℕ) (es : List SemEntry) → put books s es s ≡ es
put-here books s es = ap (λ b. if b then es else books s) (equal_self s)

pub put-others : (books : Books) (s : ℕ) (es : List SemEntry) (r : ℕ) → r == s ≡ false → put books s es r ≡ books r
put-others books s es r other = ap (λ b. if b then es else books r) other

pub own-entries : (q : ℕ) (es : List SemEntry) → entries_of cpu_of q es ≡ own q es
own-entries q [] = refl
own-entries q (e ∷ es) = by_cpu (e.cpu.0 == q) (own-entries q es)
  where
    by_cpu : (b : Bool) → entries_of cpu_of q es ≡ own q es
        → (if b then e ∷ entries_of cpu_of q es else entries_of cpu_of q es) ≡ (if b then e ∷ own q es else own q es)
    by_cpu true h = ap (λ l. e ∷ l) h
    by_cpu false h = h

-- the history grew by entries of others
pub put-grown : (q : ℕ) (books : Books) (s : ℕ) (es : List SemEntry) → StartsWith es (books s) → AgreeOn cpu_of q es (books s) → HaveGrown q books (put books s es)
put-grown q books s es later mine = record { later = λ r. grown r (r == s) refl; own_same = λ r. same r (r == s) refl }
  where
    grown : (r : ℕ) (b : Bool) → r == s ≡ b → (more : List SemEntry) × ((if b then es else books r) ≡ books r ++ more)
    grown r true e = (later.0, later.1 ∙ ap (λ n. books n ++ later.0) (sym (eqb-true r s e)))
    grown r false e = ([], sym (append-nil (books r)))

    same : (r : ℕ) (b : Bool) → r == s ≡ b → own q (if b then es else books r) ≡ own q (books r)
    same r true e = sym (own-entries q es) ∙ mine ∙ own-entries q (books s) ∙ ap (λ n. own q (books n)) (sym (eqb-true r s e))
    same r false e = refl
