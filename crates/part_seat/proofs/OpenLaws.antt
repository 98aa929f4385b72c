-- A partition whose seats have seen nothing.
use Rattle.std.proofs.Common.{◌≡◌, ℕ, zero, suc, ◌<◌, Bool, true, false, List, [], ◌∷◌, length, map, refl, sym, ◌∙◌, subst, arith, ltb-true}
use Rattle.std.specs.Prelude.{nat_lt, slice_index_or}
use Rattle.std.proofs.lemmas.Bool.{ltb-false}
use Rattle.std.proofs.lemmas.List.{get_or-map, get_or_past, length-map}
use Rattle.rt_task.specs.declared.Parts.{Parts}
use Rattle.split_rules.specs.PartHistories.{past_from, past_of}
use Rattle.split_rules.specs.Partitions.{part_group}
use Rattle.split_inbox.specs.Books as book
use Rattle.split_laws.proofs.RunLaws.{opened_part}
use Rattle.split_turns.specs.SplitTurns.{book_of}
use Rattle.part_seat.specs.Partitions.{AreUnused, IsMeeting, Seat, books_in}

some-empty : (xs : List Seat) (i : ℕ) → i < length xs → ((d : Seat) → i < length xs → (slice_index_or xs i d).seen ≡ []) → slice_index_or (map (λ (a : Seat). a.seen) xs) i [] ≡ []
some-empty [] i low un = absurd (omega (arith, low))
some-empty (x ∷ xs) i low un = get_or-map (λ (a : Seat). a.seen) (x ∷ xs) i x [] low ∙ un x low

-- their books are empty
unseen-books : (p : Parts) (q : ℕ) (seats : List Seat) → AreUnused p q seats → (s : ℕ) → books_in seats s ≡ []
unseen-books p q seats unused zero = refl
unseen-books p q seats unused (suc n) = by_position (nat_lt n (length seats)) refl
  where
    by_position : (b : Bool) → nat_lt n (length seats) ≡ b → slice_index_or (map (λ (a : Seat). a.seen) seats) n [] ≡ []
    by_position true h = some-empty seats n (ltb-true _ _ h) (unused.unseen n)
    by_position false h = let l = length-map seats (λ (a : Seat). a.seen) in let k = ltb-false _ _ h in get_or_past (map (λ (a : Seat). a.seen) seats) n [] (omega (arith, l, k))

pub unused-meets : (p : Parts) (q : ℕ) (seats : List Seat) → AreUnused p q seats → IsMeeting p q seats (past_of (part_group p q) q [])
unfolding past_of past_from
unused-meets p q seats unused = record {
  count = unused.count;
  each = unused.each;
  legal = λ s. subst (book.IsLegalSem (book_of p s)) (sym (unseen-books p q seats unused s)) tt;
  seen = (opened_part (part_group p q) q (books_in seats) (λ r. []) (unseen-books p q seats unused) (λ r. refl)).seen;
}
