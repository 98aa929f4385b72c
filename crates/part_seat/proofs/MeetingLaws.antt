-- What a partition has seen of the semaphores' histories, after each of its entries.
use Rattle.std.proofs.Common.{◌≡◌, ℕ, ◌+◌, ◌-◌, ◌<◌, ◌≤◌, Bool, true, false, List, [], ◌∷◌, ◌++◌, length, Some, refl, sym, ap, ◌∙◌, subst, arith, eqb-true}
use Rattle.std.specs.Prelude.{nat_eq, slice_index_or, slice_set}
use Rattle.std.proofs.lemmas.List.{get_or-set_other, get_or-set_same, length-set}
use Rattle.rt_task.specs.declared.Parts.{Parts}
use Rattle.rt_task.specs.declared.Protocol.{Protocol}
use Rattle.rt_task.specs.declared.Step.{Step}
use Rattle.rt_rules.specs.SemState.{SemState}
use Rattle.rt_rules.proofs.MemberLaws.{equal_self}
use Rattle.rt_model.specs.Group.{Group, protocol}
use Rattle.split_rules.specs.Matching.{Books, told}
use Rattle.split_rules.specs.PartHistories.{IsEntryAt, after, past_of}
use Rattle.split_rules.specs.PartPast.{PartPast, deeds}
use Rattle.split_rules.specs.Partitions.{group_no, part_group}
use Rattle.split_rules.specs.SemHistories.{IsLegalSem, nobody, seat_of, sem_state, state_from}
use Rattle.split_laws.specs.Counts.{names_sem}
use Rattle.split_rules.specs.SemHistories as sems
use Rattle.split_rules.specs.declared.SemAct.{SemAct}
use Rattle.split_rules.specs.declared.SemAct.TheVariants as acts
use Rattle.split_rules.specs.declared.SemEntry.{SemEntry}
use Rattle.split_rules.specs.declared.SplitEntry.{SplitEntry}
use Rattle.split_inbox.specs.Books as book
use Rattle.split_inbox.specs.Books.{cpu_of}
use Rattle.split_inbox.specs.declared.subject.SemOf.{SemOf}
use Rattle.split_laws.specs.Parts.{HasSeen, HaveGrown, IsActIn, IsPartPast}
use Rattle.split_laws.specs.Runs.{IsOutcome}
use Rattle.split_laws.proofs.EntryLaws.{legal_past_is_known}
use Rattle.split_laws.proofs.RunLaws.{entry_joins}
use Rattle.split_laws.proofs.RunLists.{by_number}
use Rattle.split_laws.proofs.StepLaws.{same-legal, some-same}
use Rattle.split_laws.proofs.TheLaws.{seen_acts, seen_alone, seen_grows}
use Rattle.split_counts.specs.Room.{ComesNext}
use Rattle.split_turns.specs.SplitTurns.{book_of}
use Rattle.split_turns.proofs.SetLaws.{histories_are_of_set}
use Rattle.part_books.specs.PartBooks.{CanAsk, CanRelease, StandsAt}
use Rattle.part_books.proofs.BookLaws.{may_ask_book, may_release_book}
use Rattle.part_player.specs.Players.{IsAsking, IsFreeing, IsPlayed, own_script}
use Rattle.part_player.proofs.OwnParts.{own-seat}
use Rattle.part_seat.specs.AtTurns.{About, HasGiven, IsFound}
use Rattle.part_seat.specs.Partitions.{IsMeeting, IsSeatAt, Seat, books_in}
use Rattle.part_seat.proofs.BookLists.{books-at, put, put-grown, put-here, put-others, set-here, set-others}
use Rattle.part_seat.proofs.PositionLaws.{IsSeatToken}

equal-clash : (i j : ℕ) → i ≡ j → nat_eq i j ≡ false → ⊥
equal-clash i j e k = let t = equal_self j in let u = ap (λ x. nat_eq x j) e in cc

last-entry : (g : Group) (p : Protocol) (l : SemState) (es : List SemEntry) (e : SemEntry) → sems.IsLegalFrom g p l (es ++ e ∷ []) → sems.IsEntryAt g p (state_from g p l es) e
last-entry g p l [] e h = h.0
last-entry g p l (x ∷ es) e h = last-entry g p (sems.after_act g p x.task.0 x.act l) es e h.1

outcome-of : (g : Group) (s t : ℕ) (a : SemAct) (l : SemState) → sems.IsActAt g (protocol g s) t a l → IsOutcome g s a l
outcome-of g s t (acts.Ask a) l h = h.answer
outcome-of g s t (acts.Release o) l h = h.next

module _ (p : Parts) (q : ℕ) (es : List SplitEntry) (seats : List Seat) (played : IsPlayed p q es) (meeting : IsMeeting p q seats (past_of (part_group p q) q es)) where
  abbrev pub g : Group
  g = part_group p q

  abbrev pub past : PartPast
  past = past_of g q es

  abbrev pub books : Books
  books = books_in seats

  part : IsPartPast g q past
  part = legal_past_is_known g q es (own-seat p q played.of_split) played.legal

  set-legal : (s : ℕ) (fs : List SemEntry) → book.IsLegalSem (book_of p s) fs → IsLegalSem g s fs
  set-legal s fs h = same-legal p 0 (group_no p q) s fs (histories_are_of_set p s fs played.of_split.valid h).legal

  -- ---- a history that is found at a turn, or joined
  module _ (s : ℕ) (fs : List SemEntry) (found : IsFound (book_of p s) q (books s) fs) where
    pub grown : HaveGrown q books (put books s fs)
    grown = put-grown q books s fs found.later found.mine

    put-legal : (r : ℕ) → IsLegalSem g r (put books s fs r)
    put-legal r =
        by_number (λ x. IsLegalSem g x (put books s fs x)) r s (subst (IsLegalSem g s) (sym (put-here books s fs)) (set-legal s fs found.legal))
        (λ h. subst (IsLegalSem g r) (sym (put-others books s fs r h)) (meeting.seen.books_legal r))

    pub put-seen : HasSeen g q (put books s fs) past
    put-seen = seen_grows g q books past part meeting.seen (put books s fs) grown put-legal

    stands : (t : ℕ) (x : Step) → ComesNext (own_script p q) q es x → names_sem s x.act ≡ true → 1 ≤ t → t ≤ length p.tasks → seat_of g t ≡ q
        → StandsAt p q s t (put books s fs) es x
    stands t x next names low high home = record {
      valid = played.of_split.valid;
      seat = own-seat p q played.of_split;
      there = played.of_split.there;
      legal = played.legal;
      seen = put-seen;
      kept = subst (book.IsLegalSem (book_of p s)) (sym (put-here books s fs)) found.legal;
      next = next;
      names = names;
      low = low;
      known = high;
      at_home = home;
    }

    can-ask : (t : ℕ) (x : Step) → ComesNext (own_script p q) q es x → IsAsking g q past x t s → CanAsk (book_of p s) fs q t
    can-ask t x next asks =
        subst (λ l. CanAsk (book_of p s) l q t) (put-here books s fs)
        (may_ask_book p q s t (put books s fs) es x (stands t x next asks.names asks.low asks.high asks.at_home) asks.holds asks.waits)

    can-release : (t : ℕ) (x : Step) → ComesNext (own_script p q) q es x → IsFreeing g q past x t s → CanRelease (book_of p s) fs q t
    can-release t x next frees =
        subst (λ l. CanRelease (book_of p s) l q t) (put-here books s fs)
        (may_release_book p q s t (put books s fs) es x (stands t x next frees.names frees.low frees.high frees.at_home) frees.holds)

  -- so it is at the seat, to which the processor comes under this number
  module _ (s : ℕ) (d : Seat) (at : IsSeatToken p q s seats d) (n : ℕ) (own : n ≡ q) (t : ℕ) (x : Step) (next : ComesNext (own_script p q) q es x) where
    abbrev seat : Seat
    seat = slice_index_or seats (s - 1) d

    found-there : (about : SemOf) → seat.cell.subject ≡ Some about → (fs : List SemEntry) → IsFound about n seat.seen fs → IsFound (book_of p s) q (books s) fs
    found-there about here fs found =
        subst (λ l. IsFound (book_of p s) q l fs) (sym (books-at seats s d at.low at.high))
        (subst (λ m. IsFound (book_of p s) m seat.seen fs) own (subst (λ b. IsFound b n seat.seen fs) (some-same (sym here ∙ at.seat.about)) found))

    pub may-ask : IsAsking g q past x t s → About seat (λ about. (fs : List SemEntry) → IsFound about n seat.seen fs → CanAsk about fs n t)
    may-ask asks about here fs found =
        subst (λ m. CanAsk about fs m t) (sym own)
        (subst (λ b. CanAsk b fs q t) (some-same (sym at.seat.about ∙ here)) (can-ask s fs (found-there about here fs found) t x next asks))

    pub may-release : IsFreeing g q past x t s → About seat (λ about. (fs : List SemEntry) → IsFound about n seat.seen fs → CanRelease about fs n t)
    may-release frees about here fs found =
        subst (λ m. CanRelease about fs m t) (sym own)
        (subst (λ b. CanRelease b fs q t) (some-same (sym at.seat.about ∙ here)) (can-release s fs (found-there about here fs found) t x next frees))

  -- ---- the seat at the turn of semaphore s has seen more
  module _ (s : ℕ) (low : 1 ≤ s) (high : s - 1 < length seats) (a' : Seat) (d : Seat)
      (same : a' ≡ record (slice_index_or seats (s - 1) d) { seen = a'.seen; raises = a'.raises }) (legal : book.IsLegalSem (book_of p s) a'.seen) where
    abbrev pub seats' : List Seat
    seats' = slice_set seats (s - 1) a'

    abbrev a : Seat
    a = slice_index_or seats (s - 1) d

    pub still-seat : IsSeatAt p q s a'
    still-seat =
        let at = meeting.each (s - 1) d high in
        let position : s - 1 + 1 ≡ s = omega (arith, low) in
        record {
          cpu = ap (λ (k : Seat). k.cpu) same ∙ at.cpu;
          rests = ap (λ (k : Seat). k.holds) same ∙ at.rests;
          about = ap (λ (k : Seat). k.cell.subject) same ∙ subst (λ n. a.cell.subject ≡ Some (book_of p n)) position at.about;
        }

    each-seat : (i : ℕ) (e : Seat) → i < length seats' → IsSeatAt p q (i + 1) (slice_index_or seats' i e)
    each-seat i e h = by_position (nat_eq i (s - 1)) refl
      where
        by_position : (b : Bool) → nat_eq i (s - 1) ≡ b → IsSeatAt p q (i + 1) (slice_index_or seats' i e)
        by_position true k =
            let is : i ≡ s - 1 = eqb-true i (s - 1) k in
            let position : s ≡ i + 1 = omega (arith, low, is) in
            subst (IsSeatAt p q (i + 1)) (sym (ap (λ n. slice_index_or seats' n e) is ∙ get_or-set_same seats (s - 1) a' e high)) (subst (λ n. IsSeatAt p q n a') position still-seat)
        by_position false k =
            let count = length-set seats (s - 1) a' in
            subst (IsSeatAt p q (i + 1)) (sym (get_or-set_other seats (s - 1) i a' e (λ m. equal-clash i (s - 1) m k))) (meeting.each i e (omega (arith, h, count)))

    set-books-legal : (r : ℕ) → book.IsLegalSem (book_of p r) (books_in seats' r)
    set-books-legal r =
        by_number (λ x. book.IsLegalSem (book_of p x) (books_in seats' x)) r s (subst (book.IsLegalSem (book_of p s)) (sym (set-here seats s a' low high)) legal)
        (λ h. subst (book.IsLegalSem (book_of p r)) (sym (set-others seats s a' low high r h)) (meeting.legal r))

    pub meets : (past' : PartPast) → HasSeen g q (books_in seats') past' → IsMeeting p q seats' past'
    meets past' seen = record {
      count = length-set seats (s - 1) a' ∙ meeting.count;
      each = each-seat;
      legal = set-books-legal;
      seen = seen;
    }

  -- ---- an entry that does nothing at a semaphore
  pub alone : (e : SplitEntry) → IsEntryAt g q past e → deeds (after g q e past) ≡ deeds past → IsMeeting p q seats (past_of g q (es ++ e ∷ []))
  alone e at none = record {
    count = meeting.count;
    each = meeting.each;
    legal = meeting.legal;
    seen = subst (HasSeen g q books) (sym (entry_joins g q es e played.legal at).past_is) (seen_alone g q books past part meeting.seen e none);
  }

  -- ---- an entry that does something at semaphore s, whose turn was taken and given back
  module _ (s : ℕ) (low : 1 ≤ s) (high : s - 1 < length seats) (b : SemEntry) (e : SplitEntry) (a' d : Seat) (cpu : b.cpu.0 ≡ q)
      (given : HasGiven (book_of p s) q b (slice_index_or seats (s - 1) d) a') (at : IsEntryAt g q past e)
      (deed : deeds (after g q e past) ≡ deeds past ++ told s b ∷ []) where
    abbrev pub acted-seats : List Seat
    acted-seats = slice_set seats (s - 1) a'

    pub was-found : IsFound (book_of p s) q (books s) given.found
    was-found = subst (λ l. IsFound (book_of p s) q l given.found) (sym (books-at seats s d low high)) given.is_found

    abbrev pub found-books : Books
    found-books = put books s given.found

    pub act-in : IsActIn q s b found-books (books_in acted-seats)
    act-in = record {
      own_cpu = cpu;
      at = set-here seats s a' low high ∙ given.seen ∙ ap (λ l. l ++ b ∷ []) (sym (put-here books s given.found));
      others = λ r h. set-others seats s a' low high r h ∙ sym (put-others books s given.found r h);
    }

    outcome : IsOutcome g s b.act (sem_state g s (found-books s))
    outcome =
        let whole : IsLegalSem g s (given.found ++ b ∷ []) = subst (IsLegalSem g s) given.seen (set-legal s a'.seen given.legal) in
        subst (λ l. IsOutcome g s b.act (sem_state g s l)) (sym (put-here books s given.found))
        (outcome-of g s b.task.0 b.act _ (last-entry g (protocol g s) nobody given.found b whole).act)

    pub acted : IsMeeting p q acted-seats (past_of g q (es ++ e ∷ []))
    acted =
        let seen = (seen_acts g q found-books past part (put-seen s given.found was-found) (books_in acted-seats) s b e (own-seat p q played.of_split) at deed cpu outcome).seen act-in in
        meets s low high a' d given.same given.legal (past_of g q (es ++ e ∷ []))
        (subst (HasSeen g q (books_in acted-seats)) (sym (entry_joins g q es e played.legal at).past_is) seen)
