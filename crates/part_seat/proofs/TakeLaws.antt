-- What a partition has seen, once it took a grant.
use Rattle.std.proofs.Common.{◌≡◌, ℕ, ◌+◌, ◌-◌, ◌<◌, Bool, true, false, List, [], ◌∷◌, ◌++◌, length, Option, None, Some, refl, sym, ap, ◌∙◌, subst, arith, length-append}
use Rattle.std.specs.Prelude.{if◌then◌else◌, nat_lt, slice_get, slice_index_or, slice_set}
use Rattle.std.proofs.lemmas.List.{get_or_append_left, get_or-map, length-map}
use Rattle.std.proofs.lemmas.Option.{get_or_from_slice_get, slice_get-get_or, slice_get_within}
use Rattle.rt_task.specs.declared.Parts.{Parts}
use Rattle.rt_plays.proofs.SetLimits.{sets_are_in_limits}
use Rattle.rt_model.specs.Group.{Group}
use Rattle.rt_rules.specs.Numbers.{has}
use Rattle.turn_cell.specs.SeatViews.{Cell, HasCpu, IsJoined}
use Rattle.turn_cell.specs.Words.{AgreeOn, longer}
use Rattle.split_rules.specs.Matching.{Books, claims, granted_at, granted_in, own, taken_at}
use Rattle.split_rules.specs.PartHistories.{after, past_of}
use Rattle.split_rules.specs.PartPast.{Claim, PartPast, deeds}
use Rattle.split_rules.specs.PartSems.{awaiting}
use Rattle.split_rules.specs.Partitions.{part_group}
use Rattle.split_rules.specs.SemHistories.{seat_of}
use Rattle.split_rules.specs.declared.SemEntry.{SemEntry}
use Rattle.split_rules.specs.declared.SplitEntry.{SplitEntry}
use Rattle.split_inbox.specs.Books as book
use Rattle.split_inbox.specs.Books.{cpu_of}
use Rattle.split_inbox.specs.Grants.{GrantOf, IsGrant}
use Rattle.split_inbox.specs.declared.subject.SemOf.{SemOf}
use Rattle.split_laws.specs.Laws.{IsSeenTake}
use Rattle.split_laws.specs.Parts.{HasSeen, HaveGrown}
use Rattle.split_laws.specs.Posts.{cpu_at, cpu_in}
use Rattle.split_laws.proofs.EntryLaws.{legal_past_is_known}
use Rattle.split_laws.proofs.FreshLaws.{fresh}
use Rattle.split_laws.proofs.RunLaws.{entry_joins}
use Rattle.split_laws.proofs.RunLists.{by_number}
use Rattle.split_laws.proofs.StepLaws.{seen-same}
use Rattle.split_laws.proofs.TheLaws.{seen_takes}
use Rattle.split_turns.specs.SplitTurns.{book_of}
use Rattle.part_player.specs.Players.{IsPlayed, take_entry}
use Rattle.part_player.proofs.OwnParts.{own-seat}
use Rattle.part_seat.specs.AtTurns.{IsFound, IsNext, plain_claim, taken_claim}
use Rattle.part_seat.specs.Partitions.{IsMeeting, IsSeatAt, Seat, books_in, cells_of}
use Rattle.part_seat.proofs.BookLists.{books-at, put, put-here, put-others, set-here, set-others}
use Rattle.part_seat.proofs.MeetingLaws as laws

-- an entry of a history stays where it is as the history grows
pub get-later : (xs ys : List SemEntry) (n : ℕ) (e : SemEntry) → slice_get xs n ≡ Some e → slice_get (xs ++ ys) n ≡ Some e
get-later xs ys n e h =
    let low : n < length xs = slice_get_within xs n e h in
    slice_get-get_or (xs ++ ys) n e (let l = length-append xs ys in omega (arith, low, l)) ∙ ap Some (get_or_append_left xs ys e n low ∙ get_or_from_slice_get xs n e e h)

pub grown-cpu : (q : ℕ) (books books' : Books) → HaveGrown q books books' → (s n r : ℕ) → cpu_at (books s) n ≡ Some r → cpu_at (books' s) n ≡ Some r
grown-cpu q books books' grown s n r h = by_entry (slice_get (books s) n) refl h
  where
    by_entry : (o : Option SemEntry) → slice_get (books s) n ≡ o → cpu_in o ≡ Some r → cpu_at (books' s) n ≡ Some r
    by_entry None e k = cc
    by_entry (Some x) e k = ap (λ l. cpu_in (slice_get l n)) (grown.later s).1 ∙ ap cpu_in (get-later (books s) (grown.later s).0 n x e) ∙ k

-- the longer of two legal histories is legal
longer-legal : (s : SemOf) (xs ys : List SemEntry) → book.IsLegalSem s xs → book.IsLegalSem s ys → book.IsLegalSem s (longer xs ys)
longer-legal s xs ys h k = by_length (nat_lt (length xs) (length ys))
  where
    by_length : (b : Bool) → book.IsLegalSem s (if b then ys else xs)
    by_length true = k
    by_length false = h

pub cell-there : (seats : List Seat) (i : ℕ) (k : Cell SemOf) (d : Seat) → slice_get (cells_of seats) i ≡ Some k → (i < length seats) × (k ≡ (slice_index_or seats i d).cell)
cell-there seats i k d h =
    let low : i < length seats = let a = slice_get_within (cells_of seats) i k h in let b = length-map seats (λ (a : Seat). a.cell) in omega (arith, a, b) in
    (low, sym (get_or_from_slice_get (cells_of seats) i k k h) ∙ get_or-map (λ (a : Seat). a.cell) seats i d k low)

module _ (p : Parts) (q : ℕ) (es : List SplitEntry) (seats : List Seat) (played : IsPlayed p q es) (meeting : IsMeeting p q seats (past_of (part_group p q) q es))
    (gr : GrantOf) (is : IsGrant (cells_of seats) gr) (d a' : Seat) (joined : IsJoined (λ (s : SemOf). cpu_of) (slice_index_or seats (gr.claim.sem - 1) d) gr.seen a')
    (home : seat_of (part_group p q) gr.claim.task ≡ q) (next : IsNext (books_in seats) (past_of (part_group p q) q es) (taken_claim gr.claim)) where
  abbrev pub g : Group
  g = part_group p q

  abbrev pub past : PartPast
  past = past_of g q es

  abbrev pub books : Books
  books = books_in seats

  abbrev pub s : ℕ
  s = gr.claim.sem

  abbrev pub a : Seat
  a = slice_index_or seats (s - 1) d

  abbrev pub seats' : List Seat
  seats' = slice_set seats (s - 1) a'

  abbrev pub k : Claim
  k = plain_claim gr.claim

  pub high : s - 1 < length seats
  high = (cell-there seats (s - 1) gr.seen.cell d is.turn).0

  cell-is : gr.seen.cell ≡ a.cell
  cell-is = (cell-there seats (s - 1) gr.seen.cell d is.turn).1

  at : IsSeatAt p q s a
  at = let back : s - 1 + 1 ≡ s = (let l = is.low in omega (arith, l)) in subst (λ n. IsSeatAt p q n a) back (meeting.each (s - 1) d high)

  joined-legal : book.IsLegalSem (book_of p s) a'.seen
  joined-legal =
      subst (book.IsLegalSem (book_of p s)) (sym joined.longest)
      (longer-legal (book_of p s) a.seen gr.seen.seen (subst (book.IsLegalSem (book_of p s)) (books-at seats s d is.low high) (meeting.legal s))
      (is.legal (book_of p s) (ap (λ (c : Cell SemOf). c.subject) cell-is ∙ at.about)))

  has-cpu : HasCpu a
  has-cpu = let c = at.cpu in let t = played.of_split.there in let few = (sets_are_in_limits p played.of_split.valid).few_cpus in omega (arith, c, t, few)

  found : IsFound (book_of p s) q (books s) a'.seen
  found =
      subst (λ l. IsFound (book_of p s) q l a'.seen) (sym (books-at seats s d is.low high))
      (record { legal = joined-legal; later = joined.later; mine = subst (λ n. AgreeOn cpu_of n a'.seen a.seen) at.cpu (joined.mine has-cpu (book_of p s) at.about) })

  same-books : (r : ℕ) → books_in seats' r ≡ put books s a'.seen r
  same-books r =
      by_number (λ x. books_in seats' x ≡ put books s a'.seen x) r s (set-here seats s a' is.low high ∙ sym (put-here books s a'.seen))
      (λ h. set-others seats s a' is.low high r h ∙ sym (put-others books s a'.seen r h))

  pub take-grown : HaveGrown q books (books_in seats')
  take-grown =
      let grown = laws.grown p q es seats played meeting s a'.seen found in
      record {
        later = λ r. ((grown.later r).0, same-books r ∙ (grown.later r).1);
        own_same = λ r. ap (own q) (same-books r) ∙ grown.own_same r;
      }

  seen-before : HasSeen g q (books_in seats') past
  seen-before = seen-same g q (put books s a'.seen) (books_in seats') past past (laws.put-seen p q es seats played meeting s a'.seen found) refl same-books

  -- the release stands in what was seen
  there : slice_get (books_in seats' s) gr.claim.no ≡ slice_get gr.seen.seen gr.claim.no
  there =
      ap (λ l. slice_get l gr.claim.no) (set-here seats s a' is.low high ∙ joined.further.1)
      ∙ get-later gr.seen.seen joined.further.0 gr.claim.no _ is.granted.1 ∙ sym is.granted.1

  granted : granted_at (books_in seats' s) gr.claim.no ≡ Some gr.claim.task
  granted = ap granted_in (there ∙ is.granted.1)

  pub from-there : cpu_at (books_in seats' s) gr.claim.no ≡ Some gr.claim.from
  from-there = ap cpu_in (there ∙ is.granted.1)

  not-taken : has gr.claim.no (taken_at gr.claim.task s (claims (deeds past))) ≡ false
  not-taken =
      fresh (books_in seats') next.taken (claims (deeds past)) gr.claim.from k next.took
      (λ x m. grown-cpu q books (books_in seats') take-grown x.claim.sem x.claim.no x.from (next.from x m)) from-there next.above

  takes : IsSeenTake g q (books_in seats') past k
  takes = seen_takes g q (books_in seats') past (legal_past_is_known g q es (own-seat p q played.of_split) played.legal) seen-before k home granted not-taken

  pub waits : awaiting gr.claim.task past ≡ Some s
  waits = takes.waits

  abbrev pub e : SplitEntry
  e = take_entry past (record { 0 = s }) gr.claim.no (record { 0 = gr.claim.task })

  pub taken-meets : IsMeeting p q seats' (past_of g q (es ++ e ∷ []))
  unfolding after
  taken-meets =
      laws.meets p q es seats played meeting s is.low high a' d joined.same joined-legal (past_of g q (es ++ e ∷ []))
      (subst (HasSeen g q (books_in seats')) (sym (entry_joins g q es e played.legal (waits, refl, refl)).past_is) takes.seen)
