-- What a split run has come to, once each partition took what was left of its inbox and the books were closed.
use Rattle.std.proofs.Common.{◌≡◌, ℕ, zero, suc, ◌+◌, ◌<◌, ◌≤◌, Bool, true, false, inl, inr, List, [], ◌∷◌, ◌++◌, length, map, None, Some, refl, sym, ap, ◌∙◌, subst, append-nil, arith, ltb-true}
use Rattle.std.specs.Prelude.{◌==◌, All, if◌then◌else◌, nat_lt, option_map, slice_get, slice_index_or}
use Rattle.std.proofs.lemmas.Bool.{ltb-false}
use Rattle.std.proofs.lemmas.List.{get_or-map, get_or_past, length-map, map-append}
use Rattle.std.proofs.lemmas.Option.{get_or_from_slice_get, slice_get-get_or, slice_get-map, slice_get_within}
use Rattle.rt_task.specs.Validity.{IsValid}
use Rattle.rt_task.specs.declared.Parts.{Parts}
use Rattle.rt_rules.proofs.MemberLaws.{equal_self}
use Rattle.rt_model.specs.Group.{Group}
use Rattle.rt_plays.specs.Plays.{group_with}
use Rattle.rt_plays.specs.Room.{processor_count}
use Rattle.turn_cell.specs.SeatViews.{Cell, TurnOf}
use Rattle.split_rules.specs.Matching.{Books, DoMatch, claims, granted_at, granted_by, own}
use Rattle.split_rules.specs.PartHistories.{IsLegalFrom, past_of, steps_of}
use Rattle.split_rules.specs.PartPast.{Claim, deeds}
use Rattle.split_rules.specs.PartSems.{holding}
use Rattle.split_rules.specs.Partitions.{group_no, part_group}
use Rattle.split_rules.specs.SemHistories.{IsLegalSem, seat_of, sem_state}
use Rattle.split_rules.specs.declared.SemEntry.{SemEntry}
use Rattle.split_rules.specs.declared.SplitEntry.{SplitEntry}
use Rattle.split_inbox.specs.Grants.{GrantOf}
use Rattle.split_inbox.specs.Inboxes.{PosterOf, TakerOf}
use Rattle.split_inbox.specs.Posting.{AreNamed, of_poster}
use Rattle.split_inbox.specs.declared.rule.Claim as inbox
use Rattle.split_inbox.specs.declared.subject.SemOf.{SemOf}
use Rattle.split_laws.specs.Parts.{Among, HasSeen, HaveGrown, IsPartPast}
use Rattle.split_laws.specs.Posts.{HasPosted, claims_of, cpu_at, given, given_from, given_to}
use Rattle.split_laws.proofs.EntryLaws.{legal_past_is_known}
use Rattle.split_laws.proofs.PostLaws.{among-left, among-right, posted-grown, sem-among}
use Rattle.split_laws.proofs.StepLaws.{same-holder, same-legal, same-seat, some-same}
use Rattle.split_laws.proofs.TheLaws.{may_release_law, seen_grows, seen_matches}
use Rattle.split_turns.specs.SplitTurns.{book_of}
use Rattle.split_turns.proofs.SetLaws.{histories_are_of_set, some-cpu}
use Rattle.part_player.specs.Players.{IsPlayed, own_script}
use Rattle.part_player.proofs.OwnParts.{own-seat}
use Rattle.part_seat.specs.AtTurns.{IsFound, plain_claim, taken_claim}
use Rattle.part_seat.specs.Partitions.{IsMeeting, PartOf, Seat, books_in, books_of, cells_of, past_at}
use Rattle.part_seat.specs.PartSeats.{IsPartSeat, IsPartition, PartSeatView, inboxes_of, posted_in}
use Rattle.part_seat.proofs.BookLists.{own-entries}
use Rattle.split_part.specs.Closings.{AreRests, AreResting, CanTake, CanTakeEach, HasTakenAll, HasTakenAt, HaveTaken, IsRest, IsRestAt, IsTold, claims_in}
use Rattle.split_part.specs.Columns.{AreBoth, AreFrom, IsColumn}
use Rattle.split_part.specs.Ends.{AllGoOn, AllPlayed, EndOf, GoesOn, HavePlayed, IsSplitEnd, books_at, history_at, past_in}
use Rattle.split_part.specs.Openings.{inboxes_at}
use Rattle.split_part.specs.Splits.{AreSeatsOf, IsSeatOf, SplitOf}
use Rattle.split_part.proofs.ColumnLaws.{all-get, both-get, both-length, from-each, from-first, got, same-list}
use Rattle.split_part.proofs.GrantLaws.{grant-of-set}
use Rattle.split_part.proofs.RestLaws.{steps-joined}

-- ---- lists of grants

map-joined : {A B : Type 0} (f : A → B) (xs ys : List A) → map f (xs ++ ys) ≡ map f xs ++ map f ys
map-joined f xs ys = map-append f xs ys

plain-taken : (cs : List inbox.Claim) → claims_of (map taken_claim cs) ≡ map plain_claim cs
plain-taken [] = refl
plain-taken (c ∷ cs) = ap (λ l. plain_claim c ∷ l) (plain-taken cs)

of-poster-among : (k : Claim) (q : ℕ) (cs : List inbox.Claim) → Among k (map plain_claim (of_poster q cs)) → Among k (map plain_claim cs)
of-poster-among k q [] a = a
of-poster-among k q (c ∷ cs) a = by_poster (c.from == q) a (of-poster-among k q cs)
  where
    by_poster : (b : Bool) → Among k (map plain_claim (if b then c ∷ of_poster q cs else of_poster q cs)) → (Among k (map plain_claim (of_poster q cs)) → Among k (map plain_claim cs))
        → Among k (plain_claim c ∷ map plain_claim cs)
    by_poster true (inl e) later = inl e
    by_poster true (inr m) later = inr (later m)
    by_poster false m later = inr (later m)

-- a grant by an entry of a processor is among those that it gives
given-by : (g : Group) (q s n u k : ℕ) (es : List SemEntry) → granted_at es k ≡ Some u → cpu_at es k ≡ Some q
    → Among (record { sem = s; no = n + k; task = u }) (given_from g q (seat_of g u) s n es)
given-by g q s n u zero [] h c = cc
given-by g q s n u (suc k) [] h c = cc
given-by g q s n u zero (e ∷ es) h c =
    let z : n + 0 ≡ n = omega arith in
    let r : ℕ = seat_of g u in
    let mine : e.cpu.0 == q ≡ true = ap (λ m. m == q) (some-same c) ∙ equal_self q in
    let to : given g q r s n e ≡ record { sem = s; no = n; task = u } ∷ [] =
    ap (λ (b : Bool). if b then given_to g r s n (granted_by e.act) else []) mine
    ∙ ap (given_to g r s n) h ∙ ap (λ (b : Bool). if b then record { sem = s; no = n; task = u } ∷ [] else []) (equal_self r) in
    among-left _ (given g q r s n e) (given_from g q r s (suc n) es) (rw to (rw z (inl refl)))
given-by g q s n u (suc k) (e ∷ es) h c =
    let z : n + suc k ≡ suc n + k = omega arith in
    among-right _ (given g q (seat_of g u) s n e) (given_from g q (seat_of g u) s (suc n) es) (rw z (given-by g q s (suc n) u k es h c))

posted-by : (g : Group) (q : ℕ) (books : Books) (posted : ℕ → List Claim) → HasPosted g q books posted → (s n u : ℕ) → granted_at (books s) n ≡ Some u → cpu_at (books s) n ≡ Some q
    → Among (record { sem = s; no = n; task = u }) (posted (seat_of g u))
posted-by g q books posted has s n u h c =
    let z : 0 + n ≡ n = omega arith in
    let k : Claim = record { sem = s; no = n; task = u } in
    sem-among s k (posted (seat_of g u))
    (subst (Among k) (sym (has (seat_of g u) s)) (subst (λ (m : ℕ). Among (record { sem = s; no = m; task = u }) (given_from g q (seat_of g u) s 0 (books s))) z (given-by g q s 0 u n (books s) h c)))

-- ---- histories of books that were closed

found-none : (about : SemOf) (q : ℕ) → IsFound about q [] []
found-none about q = record { legal = tt; later = ([], refl); mine = refl }

module _ (p : Parts) (q : ℕ) (seats : List Seat) (es : List SplitEntry) (meeting : IsMeeting p q seats (past_of (part_group p q) q es)) (sems : List (List SemEntry)) (told : AreBoth IsTold seats sems) where
  found-there : (n : ℕ) → n < length seats → IsFound (book_of p (n + 1)) q (books_in seats (suc n)) (books_of sems (suc n))
  found-there n low =
      let a = got seats n low in
      let b = got sems n (let l = both-length IsTold seats sems told in omega (arith, low, l)) in
      let seat = subst (λ (k : Seat). k.cpu ≡ q) (get_or_from_slice_get seats n a.0 a.0 a.1) (meeting.each n a.0 low).cpu in
      let about = subst (λ (k : Seat). k.cell.subject ≡ Some (book_of p (n + 1))) (get_or_from_slice_get seats n a.0 a.0 a.1) (meeting.each n a.0 low).about in
      let here = both-get IsTold seats sems n a.0 b.0 told a.1 b.1 (book_of p (n + 1)) about in
      let seen : books_in seats (suc n) ≡ a.0.seen = get_or-map (λ (k : Seat). k.seen) seats n a.0 [] low ∙ ap (λ (k : Seat). k.seen) (get_or_from_slice_get seats n a.0 a.0 a.1) in
      let book : books_of sems (suc n) ≡ b.0 = get_or_from_slice_get sems n b.0 [] b.1 in
      subst (λ l. IsFound (book_of p (n + 1)) q (books_in seats (suc n)) l) (sym book)
      (subst (λ l. IsFound (book_of p (n + 1)) q l b.0) (sym seen) (subst (λ r. IsFound (book_of p (n + 1)) r a.0.seen b.0) seat here))

  pub found-all : (s : ℕ) → IsFound (book_of p s) q (books_in seats s) (books_of sems s)
  found-all zero = found-none (book_of p 0) q
  found-all (suc n) = by_view (nat_lt n (length seats)) refl
    where
      by_view : (b : Bool) → nat_lt n (length seats) ≡ b → IsFound (book_of p (suc n)) q (books_in seats (suc n)) (books_of sems (suc n))
      by_view true h = let e : n + 1 ≡ suc n = omega arith in subst (λ m. IsFound (book_of p m) q (books_in seats (suc n)) (books_of sems (suc n))) e (found-there n (ltb-true _ _ h))
      by_view false h =
          let high = ltb-false n (length seats) h in
          let l = both-length IsTold seats sems told in
          let m = length-map seats (λ (k : Seat). k.seen) in
          let seen : books_in seats (suc n) ≡ [] = get_or_past (map (λ (k : Seat). k.seen) seats) n [] (omega (arith, high, m)) in
          let book : books_of sems (suc n) ≡ [] = get_or_past sems n [] (omega (arith, high, l)) in
          subst (λ k. IsFound (book_of p (suc n)) q (books_in seats (suc n)) k) (sym book) (subst (λ k. IsFound (book_of p (suc n)) q k []) (sym seen) (found-none (book_of p (suc n)) q))

  pub found-grown : HaveGrown q (books_in seats) (books_of sems)
  found-grown = record {
    later = λ s. (found-all s).later;
    own_same = λ s. sym (own-entries q (books_of sems s)) ∙ (found-all s).mine ∙ own-entries q (books_in seats s);
  }

-- ---- each processor

module _ (x : SplitOf) (turns : List (Cell SemOf)) (views : List PartSeatView) (seats : AreSeatsOf x views) (kept : All (IsPartSeat turns) views) where
  abbrev pub rows_at : List (List PosterOf)
  rows_at = map (λ (a : PartSeatView). a.posters) views

  abbrev pub takers_at : List TakerOf
  takers_at = map (λ (a : PartSeatView). a.taker) views

  abbrev pub parts_at : List PartOf
  parts_at = map (λ (a : PartSeatView). a.part) views

  -- its seat
  pub record IsHere (q : ℕ) : Type 0 where
    pub view : PartSeatView
    pub here : slice_get views q ≡ Some view
    pub seat : IsSeatOf x view
    pub cpu : view.part.cpu ≡ q
    pub seat_kept : IsPartSeat turns view

  pub here-at : (q : ℕ) → q < length views → IsHere q
  here-at q low =
      let a = got views q low in
      let is = get_or_from_slice_get views q a.0 a.0 a.1 in
      let both = seats.each q a.0 low in
      record {
        view = a.0;
        here = a.1;
        seat = subst (IsSeatOf x) is both.0;
        cpu = ap (λ (k : PartSeatView). k.part.cpu) (sym is) ∙ both.1;
        seat_kept = all-get (IsPartSeat turns) views q a.0 kept a.1;
      }

  pub mapped-get : {B : Type 0} (f : PartSeatView → B) (q : ℕ) (a : PartSeatView) → slice_get views q ≡ Some a → slice_get (map f views) q ≡ Some (f a)
  mapped-get f q a h = slice_get-map f views q ∙ ap (option_map f) h

  -- what holds of each seat holds of what it has
  pub mapped-all : {B : Type 0} (P : B → Type 0) (f : PartSeatView → B) → ((q : ℕ) (h : IsHere q) → P (f h.view)) → All P (map f views)
  mapped-all P f each i d low =
      let l = length-map views f in
      let h = here-at i (omega (arith, low, l)) in
      subst P (sym (get_or_from_slice_get (map f views) i (f h.view) d (mapped-get f i h.view h.here))) (each i h)

  -- ---- before the inboxes are closed

  inbox-count : 0 < processor_count x.setup → length x.inboxes ≡ length views
  inbox-count some =
      let n = seats.count in
      let h = here-at 0 (omega (arith, some, n)) in
      ap length h.seat.seat.posters_are ∙ length-map h.view.posters (λ (b : PosterOf). b.inbox) ∙ h.seat_kept.posters_are.count ∙ ap processor_count h.seat.setup ∙ sym n

  pub takers-are : 0 < processor_count x.setup → x.inboxes ≡ inboxes_at takers_at
  takers-are some =
      let n = inbox-count some in
      let l = length-map views (λ (a : PartSeatView). a.taker) in
      let m = length-map takers_at (λ (t : TakerOf). t.inbox) in
      same-list x.inboxes (inboxes_at takers_at) (omega (arith, n, l, m))
      (λ i low. let h = here-at i (omega (arith, low, n)) in
      ap (slice_get x.inboxes) (sym h.cpu) ∙ h.seat.seat.taker_is ∙ sym (slice_get-map (λ (t : TakerOf). t.inbox) takers_at i ∙ ap (option_map (λ (t : TakerOf). t.inbox)) (mapped-get (λ a. a.taker) i h.view h.here)))

  pub posters-are : All (λ row. inboxes_of row ≡ x.inboxes) rows_at
  posters-are = mapped-all (λ row. inboxes_of row ≡ x.inboxes) (λ a. a.posters) (λ q h. sym h.seat.seat.posters_are)

  pub parts-turns : All (λ (a : PartOf). map (λ (t : TurnOf SemOf). t.cell) x.turns ≡ cells_of a.seats) parts_at
  parts-turns = mapped-all (λ (a : PartOf). map (λ (t : TurnOf SemOf). t.cell) x.turns ≡ cells_of a.seats) (λ a. a.part) (λ q h. h.seat.seat.turns_are)

  pub parts-names : All (λ (a : PartOf). cells_of a.seats ≡ turns) parts_at
  parts-names = mapped-all (λ (a : PartOf). cells_of a.seats ≡ turns) (λ a. a.part) (λ q h. h.seat_kept.cells_are)

  -- ---- once they are closed
  module _ (rests : List (List GrantOf)) (left : AreRests rows_at takers_at rests) where
    pub rests-count : length rests ≡ length parts_at
    rests-count = left.count ∙ length-map views (λ (a : PartSeatView). a.taker) ∙ sym (length-map views (λ (a : PartSeatView). a.part))

    pub can-take-each : CanTakeEach parts_at rests
    can-take-each q a rest there at =
        let l = length-map views (λ (k : PartSeatView). k.part) in
        let low = slice_get_within parts_at q a there in
        let h = here-at q (omega (arith, low, l)) in
        let is_rest = from-first (IsRestAt rows_at takers_at) rests q rest left.each at h.view.taker (mapped-get (λ k. k.taker) q h.view h.here) in
        subst (λ (k : PartOf). CanTake k (claims_in rest)) (some-same (sym (mapped-get (λ k. k.part) q h.view h.here) ∙ there))
        (record { taken = h.view.taker.taken; took = h.seat_kept.took; from = h.seat_kept.from; named = subst (λ ts. AreNamed ts (claims_in rest)) h.seat_kept.taker_tasks is_rest.named; rising = is_rest.rising })

    -- ---- once the partitions took what was left
    module _ (parts : List PartOf) (taken : HaveTaken parts_at rests parts) (after : All IsPartition parts) where
      -- what has become of a processor
      pub record IsBack (q : ℕ) : Type 0 where
        pub at : IsHere q
        pub rest : List GrantOf
        pub rest_is : IsRest rows_at q at.view.taker (claims_in rest)
        pub part : PartOf
        pub there : slice_get parts q ≡ Some part
        pub took : HasTakenAll at.view.part part (claims_in rest)
        pub part_kept : IsPartition part

      pub back-at : (q : ℕ) → q < length views → IsBack q
      back-at q low =
          let h = here-at q low in
          let count = left.count in
          let lt = length-map views (λ (b : PartSeatView). b.taker) in
          let r = got rests q (omega (arith, low, count, lt)) in
          let many = taken.count in
          let lp = length-map views (λ (b : PartSeatView). b.part) in
          let b = got parts q (omega (arith, low, many, lp)) in
          record {
            at = h;
            rest = r.0;
            rest_is = from-first (IsRestAt rows_at takers_at) rests q r.0 left.each r.1 h.view.taker (mapped-get (λ k. k.taker) q h.view h.here);
            part = b.0;
            there = b.1;
            took = from-first (HasTakenAt parts_at rests) parts q b.0 taken.each b.1 h.view.part r.0 (mapped-get (λ k. k.part) q h.view h.here) r.1;
            part_kept = all-get IsPartition parts q b.0 after b.1;
          }

      parts-count : length parts ≡ length views
      parts-count = taken.count ∙ length-map views (λ (a : PartSeatView). a.part)

      abbrev pub seat_rows : List (List Seat)
      seat_rows = map (λ (a : PartOf). a.seats) parts

      pub rows-count : length seat_rows ≡ processor_count x.setup
      rows-count = length-map parts (λ (a : PartOf). a.seats) ∙ parts-count ∙ seats.count

      row-there : (i : ℕ) (d : List Seat) → i < length seat_rows → (b : IsBack i) × (slice_index_or seat_rows i d ≡ b.part.seats)
      row-there i d low =
          let l = length-map parts (λ (a : PartOf). a.seats) in
          let n = parts-count in
          let b = back-at i (omega (arith, low, l, n)) in
          (b, get_or_from_slice_get seat_rows i b.part.seats d (slice_get-map (λ (a : PartOf). a.seats) parts i ∙ ap (option_map (λ (a : PartOf). a.seats)) b.there))

      pub rows-cells : All (λ row. map (λ (t : TurnOf SemOf). t.cell) x.turns ≡ cells_of row) seat_rows
      rows-cells i d low =
          let r = row-there i d low in
          r.0.at.seat.seat.turns_are ∙ sym r.0.took.same.cells ∙ ap cells_of (sym r.1)

      pub rows-resting : AreFrom AreResting 0 seat_rows
      rows-resting = from-each AreResting 0 seat_rows resting
        where
          resting : (i : ℕ) (d : List Seat) → i < length seat_rows → AreResting (0 + i) (slice_index_or seat_rows i d)
          resting i d low =
              let r = row-there i d low in
              let z : i ≡ 0 + i = omega arith in
              let cpu : r.0.part.cpu ≡ 0 + i = r.0.took.same.cpu ∙ r.0.at.cpu ∙ z in
              subst (AreResting (0 + i)) (sym r.1) (λ k a h. let seat = r.0.part_kept.meeting.each k a h in (seat.cpu ∙ cpu, seat.rests))

      -- ---- once the books are closed
      module _ (valid : IsValid x.setup) (e : EndOf) (told : All (λ row. AreBoth IsTold row e.sems) seat_rows) (entries_are : e.parts ≡ map (λ (a : PartOf). a.entries) parts) where
        abbrev p : Parts
        p = x.setup

        pub record IsClosed (q : ℕ) : Type 0 where
          pub back : IsBack q
          pub part_told : AreBoth IsTold back.part.seats e.sems
          pub history : back.part.entries ≡ history_at e q

        pub closed : (q : ℕ) → q < processor_count p → IsClosed q
        closed q low =
            let n = seats.count in
            let b = back-at q (omega (arith, low, n)) in
            record {
              back = b;
              part_told = all-get (λ row. AreBoth IsTold row e.sems) seat_rows q b.part.seats told (slice_get-map (λ (k : PartOf). k.seats) parts q ∙ ap (option_map (λ (k : PartOf). k.seats)) b.there);
              history =
                  sym (ap (λ l. slice_index_or l q []) entries_are
                  ∙ get_or_from_slice_get (map (λ (k : PartOf). k.entries) parts) q b.part.entries [] (slice_get-map (λ (k : PartOf). k.entries) parts q ∙ ap (option_map (λ (k : PartOf). k.entries)) b.there));
            }

        module _ (q : ℕ) (c : IsClosed q) where
          setup_is : c.back.part.setup ≡ p
          setup_is = c.back.took.same.setup ∙ c.back.at.seat.setup

          cpu_is : c.back.part.cpu ≡ q
          cpu_is = c.back.took.same.cpu ∙ c.back.at.cpu

          -- what is said of the partition holds of its history
          at-history : (P : Parts → ℕ → List SplitEntry → Type 0) → P c.back.part.setup c.back.part.cpu c.back.part.entries → P p q (history_at e q)
          at-history P h = subst (P p q) c.history (subst (λ n. P p n c.back.part.entries) cpu_is (subst (λ s. P s c.back.part.cpu c.back.part.entries) setup_is h))

          pub played : IsPlayed p q (history_at e q)
          played = at-history IsPlayed c.back.part_kept.history

          pub meeting : IsMeeting p q c.back.part.seats (past_in p e q)
          meeting = at-history (λ s n es. IsMeeting s n c.back.part.seats (past_of (part_group s n) n es)) c.back.part_kept.meeting

          pub found : (s : ℕ) → IsFound (book_of p s) q (books_in c.back.part.seats s) (books_at e s)
          found = found-all p q c.back.part.seats (history_at e q) meeting e.sems c.part_told

          pub set-legal : (s : ℕ) → IsLegalSem (group_with p 0) s (books_at e s)
          set-legal s = (histories_are_of_set p s (books_at e s) valid (found s).legal).legal

          pub known : IsPartPast (part_group p q) q (past_in p e q)
          known = legal_past_is_known (part_group p q) q (history_at e q) (own-seat p q played.of_split) played.legal

          grown : HaveGrown q (books_in c.back.part.seats) (books_at e)
          grown = found-grown p q c.back.part.seats (history_at e q) meeting e.sems c.part_told

          pub seen : HasSeen (part_group p q) q (books_at e) (past_in p e q)
          seen = seen_grows (part_group p q) q (books_in c.back.part.seats) (past_in p e q) known meeting.seen (books_at e) grown (λ s. same-legal p 0 (group_no p q) s (books_at e s) (set-legal s))

          pub posted : HasPosted (part_group p q) q (books_at e) (posted_in c.back.at.view.posters)
          posted =
              let had = posted-grown _ c.back.at.view.part.cpu (books_in c.back.at.view.part.seats) (books_in c.back.part.seats) (posted_in c.back.at.view.posters) c.back.at.seat_kept.posted c.back.took.grown in
              posted-grown (part_group p q) q (books_in c.back.part.seats) (books_at e) (posted_in c.back.at.view.posters)
              (subst (λ n. HasPosted (part_group p n) n (books_in c.back.part.seats) (posted_in c.back.at.view.posters)) c.back.at.cpu
              (subst (λ s. HasPosted (part_group s c.back.at.view.part.cpu) c.back.at.view.part.cpu (books_in c.back.part.seats) (posted_in c.back.at.view.posters)) c.back.at.seat.setup had)) grown

          pub claims_all : claims (deeds (past_in p e q)) ≡ map plain_claim (c.back.at.view.taker.taken ++ claims_in c.back.rest)
          claims_all =
              sym (at-history (λ s n es. claims (deeds (past_at c.back.part)) ≡ claims (deeds (past_of (part_group s n) n es))) refl)
              ∙ c.back.took.claims_are ∙ ap (λ l. l ++ map plain_claim (claims_in c.back.rest)) (c.back.at.seat_kept.took ∙ plain-taken c.back.at.view.taker.taken)
              ∙ sym (map-joined plain_claim c.back.at.view.taker.taken (claims_in c.back.rest))

        -- ---- what a processor has posted to an inbox was taken there
        module _ (q r : ℕ) (c : IsClosed q) (d : IsClosed r) (low : r < processor_count p) where
          pub posted-taken : (k : Claim) → Among k (posted_in c.back.at.view.posters r) → Among k (claims (deeds (past_in p e r)))
          posted-taken k m =
              let count = c.back.at.seat_kept.posters_are.count in
              let same = ap processor_count c.back.at.seat.setup in
              let b = got c.back.at.view.posters r (omega (arith, low, count, same)) in
              let lh = both-length (λ row y. slice_get row r ≡ Some y) rows_at d.back.rest_is.hand d.back.rest_is.column in
              let lr = length-map views (λ (a : PartSeatView). a.posters) in
              let lq = slice_get_within views q c.back.at.view c.back.at.here in
              let h = got d.back.rest_is.hand q (omega (arith, lh, lr, lq)) in
              let at : slice_get c.back.at.view.posters r ≡ Some h.0 = both-get (λ row y. slice_get row r ≡ Some y) rows_at d.back.rest_is.hand q c.back.at.view.posters h.0 d.back.rest_is.column (mapped-get (λ a. a.posters) q c.back.at.view c.back.at.here) h.1 in
              let is_poster = c.back.at.seat_kept.posters_are.each r h.0 (slice_get_within c.back.at.view.posters r h.0 at) in
              let mine : h.0.cpu ≡ q = ap (λ (y : PosterOf). y.cpu) (sym (get_or_from_slice_get c.back.at.view.posters r h.0 h.0 at)) ∙ is_poster.cpu ∙ c.back.at.cpu in
              let all : h.0.posted ≡ of_poster q (d.back.at.view.taker.taken ++ claims_in d.back.rest) =
              all-get (λ (y : PosterOf). y.posted ≡ of_poster y.cpu (d.back.at.view.taker.taken ++ claims_in d.back.rest)) d.back.rest_is.hand q h.0 d.back.rest_is.all h.1 ∙ ap (λ n. of_poster n (d.back.at.view.taker.taken ++ claims_in d.back.rest)) mine in
              let posted_is : posted_in c.back.at.view.posters r ≡ map plain_claim h.0.posted =
              get_or-map (λ (y : PosterOf). map plain_claim y.posted) c.back.at.view.posters r h.0 [] (slice_get_within c.back.at.view.posters r h.0 at)
              ∙ ap (λ (y : PosterOf). map plain_claim y.posted) (get_or_from_slice_get c.back.at.view.posters r h.0 h.0 at) in
              subst (Among k) (sym (claims_all r d))
              (of-poster-among k q (d.back.at.view.taker.taken ++ claims_in d.back.rest) (subst (Among k) (posted_is ∙ ap (map plain_claim) all) m))

        -- ---- the end
        first_low : 0 < processor_count p
        first_low = some-cpu p valid

        first : IsClosed 0
        first = closed 0 first_low

        part-count : length e.parts ≡ processor_count p
        part-count = ap length entries_are ∙ length-map parts (λ (a : PartOf). a.entries) ∙ taken.count ∙ length-map views (λ (a : PartSeatView). a.part) ∙ seats.count

        holder-one : (s q r t u : ℕ) → q < processor_count p → r < processor_count p → holding t (past_in p e q) ≡ Some s → holding u (past_in p e r) ≡ Some s → t ≡ u
        holder-one s q r t u low high h k =
            let c = closed q low in
            let d = closed r high in
            let one = may_release_law (part_group p q) q (books_at e) (past_in p e q) (known q c) (seen q c) t s h in
            let two = may_release_law (part_group p r) r (books_at e) (past_in p e r) (known r d) (seen r d) u s k in
            some-same (sym one ∙ same-holder p (group_no p q) (group_no p r) s (books_at e s) ∙ two)

        grant-taken : (s n u : ℕ) → granted_at (books_at e s) n ≡ Some u
            → Among (record { sem = s; no = n; task = u }) (claims (deeds (past_in p e (seat_of (group_with p 0) u))))
        grant-taken s n u h =
            let of = grant-of-set p valid (played 0 first).of_split.split s (books_at e s) (found 0 first s).legal n u h in
            let c = closed of.cpu of.cpu_there in
            let d = closed (seat_of (group_with p 0) u) of.home_there in
            let k : Claim = record { sem = s; no = n; task = u } in
            posted-taken of.cpu (seat_of (group_with p 0) u) c d of.home_there k
            (subst (λ r. Among k (posted_in c.back.at.view.posters r)) (same-seat p (group_no p of.cpu) 0 u)
            (posted-by (part_group p of.cpu) of.cpu (books_at e) (posted_in c.back.at.view.posters) (posted of.cpu c) s n u h of.cpu_is))

        pub split-end : IsSplitEnd p e
        split-end = record {
          sem_count = sym (both-length IsTold first.back.part.seats e.sems first.part_told) ∙ (meeting 0 first).count;
          part_count = part-count;
          sems_legal = set-legal 0 first;
          parts_legal = λ q low. (played q (closed q low)).legal;
          match = λ q low. let c = closed q low in seen_matches (part_group p q) q (books_at e) (past_in p e q) (known q c) (seen q c);
          one_holder = holder-one;
          each_taken = grant-taken;
        }

        goes-on : (q : ℕ) → q < processor_count p → (c : IsClosed q) → GoesOn c.back.at.view (history_at e q)
        goes-on q low c = record { more = c.back.took.more; later = sym c.history ∙ c.back.took.entries; takes = c.back.took.takes }

        pub all-go-on : AllGoOn views e
        all-go-on q d low =
            let n = seats.count in
            let there : q < processor_count p = omega (arith, low, n) in
            let c = closed q there in
            subst (λ (a : PartSeatView). GoesOn a (history_at e q)) (sym (get_or_from_slice_get views q c.back.at.view d c.back.at.here)) (goes-on q there c)

        pub all-played : HavePlayed p views → AllPlayed p e
        all-played have q low =
            let n = seats.count in
            let c = closed q low in
            let there : q < length views = omega (arith, low, n) in
            let is = get_or_from_slice_get views q c.back.at.view c.back.at.view c.back.at.here in
            let none : steps_of q c.back.took.more ≡ [] = subst (λ m. steps_of m c.back.took.more ≡ []) c.back.at.cpu c.back.took.takes in
            let grew : history_at e q ≡ c.back.at.view.part.entries ++ c.back.took.more = sym c.history ∙ c.back.took.entries in
            ap (steps_of q) grew ∙ steps-joined q c.back.at.view.part.entries c.back.took.more ∙ ap (λ l. steps_of q c.back.at.view.part.entries ++ l) none ∙ append-nil (steps_of q c.back.at.view.part.entries)
            ∙ ap (λ (a : PartSeatView). steps_of q a.part.entries) (sym is) ∙ have q c.back.at.view there
