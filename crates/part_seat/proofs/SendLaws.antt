-- What a partition passes on, at the inbox of the task's processor.
use Rattle.std.proofs.Common.{◌≡◌, ℕ, zero, suc, ◌+◌, ◌-◌, ◌<◌, ◌≤◌, ◌^◌, Bool, true, false, List, [], ◌∷◌, ◌++◌, length, map, Option, Some, refl, sym, ap, ◌∙◌, subst, append-nil, arith, inl, inr, eqb-true}
use Rattle.std.specs.Prelude.{◌==◌, IfSome, if◌then◌else◌, nat_eq, option_map, slice_get, slice_index, slice_index_or, slice_set}
use Rattle.std.proofs.Math.Seq.{map-set_same}
use Rattle.std.proofs.lemmas.List.{get_or-map, get_or-set_other, get_or-set_same, length-map, length-set, map-set, map_push}
use Rattle.std.proofs.lemmas.Option.{slice_get-get_or, slice_get-map}
use Rattle.rt_task.specs.declared.Act.{Act}
use Rattle.rt_task.specs.declared.Parts.{Parts}
use Rattle.rt_task.specs.declared.Step.{Step}
use Rattle.rt_rules.specs.Numbers.{has, numbers_from}
use Rattle.rt_rules.proofs.MemberLaws.{equal_self, turned}
use Rattle.rt_model.specs.Group.{Group, home}
use Rattle.rt_plays.specs.Drives.{steps_given}
use Rattle.rt_plays.specs.Plays.{group_with}
use Rattle.rt_plays.specs.Room.{processor_count}
use Rattle.rt_plays.specs.Scripts.{script}
use Rattle.turn_cell.specs.SeatViews.{Cell, split_off}
use Rattle.split_set.specs.declared.TheConstants.{MOST_SPLIT_STEPS}
use Rattle.split_rules.specs.PartLinks.{tasks}
use Rattle.split_rules.specs.PartPast.{Claim, PartPast}
use Rattle.split_rules.specs.Partitions.{group_no, part_group}
use Rattle.split_rules.specs.SemHistories.{seat_of}
use Rattle.split_rules.specs.declared.SemAct.TheVariants as acts
use Rattle.split_inbox.specs.Grants.{IsGrant, claim}
use Rattle.split_inbox.specs.Inboxes.{InboxId, PosterOf}
use Rattle.split_inbox.specs.Posting.{AreBelow, nos_of}
use Rattle.split_inbox.specs.Books as book
use Rattle.split_inbox.specs.declared.rule.Claim as inbox
use Rattle.split_inbox.specs.declared.subject.SemOf.{SemOf}
use Rattle.split_laws.specs.Counts.{count_steps}
use Rattle.split_laws.specs.Parts.{Among}
use Rattle.split_laws.proofs.StepLaws.{same-seat, some-same}
use Rattle.split_counts.specs.Room.{is_unlock}
use Rattle.split_turns.specs.SplitTurns.{book_of}
use Rattle.part_player.specs.Players.{IsOfSplit, own_script}
use Rattle.part_player.proofs.OwnParts.{IsHomePart, few-steps, home-task}
use Rattle.part_seat.specs.AtTurns.{IsPassedAt, claim_passed, plain_claim}
use Rattle.part_seat.specs.Partitions.{IsMeeting, IsSeatAt, Seat, books_in, cells_of}
use Rattle.part_seat.specs.PartSeats.{ArePosters, IsPosterAt, inboxes_of, passed_to, posted_in, unlocks_of}
use Rattle.part_seat.specs.declared.passed.Passed.{Passed}
use Rattle.part_seat.proofs.BookLists.{books-at}

-- ---- lists

equal-clash : (i j : ℕ) → i ≡ j → nat_eq i j ≡ false → ⊥
equal-clash i j e k = let t = equal_self j in let u = ap (λ x. nat_eq x j) e in cc

index-from : (f : ℕ → ℕ) (a n i : ℕ) → i < n → slice_index (map f (numbers_from a n)) i ≡ f (a + i)
index-from f a zero i h = absurd (omega (arith, h))
index-from f a (suc n) zero h = let e : a ≡ a + 0 = omega arith in ap f e
index-from f a (suc n) (suc i) h = let e : suc a + i ≡ a + suc i = omega arith in index-from f (suc a) n i (omega (arith, h)) ∙ ap f e

pub unlocks-at : (p : Parts) (q : ℕ) → q < processor_count p → slice_index (unlocks_of p) q ≡ count_steps is_unlock (own_script p q)
unlocks-at p q low = let e : 0 + q ≡ q = omega arith in index-from (λ r. count_steps is_unlock (own_script p r)) 0 (processor_count p) q low ∙ ap (λ r. count_steps is_unlock (own_script p r)) e

count-within : (test : Act → Bool) (xs : List Step) → count_steps test xs ≤ length xs
count-within test [] = omega arith
count-within test (x ∷ xs) = by_test (test x.act) (count-within test xs)
  where
    by_test : (b : Bool) → count_steps test xs ≤ length xs → (if b then suc (count_steps test xs) else count_steps test xs) ≤ suc (length xs)
    by_test true h = omega (arith, h)
    by_test false h = omega (arith, h)

script-within : (q : ℕ) (xs : List Step) → length (script xs q) ≤ length xs
script-within q [] = omega arith
script-within q (x ∷ xs) = by_cpu (x.cpu.0 == q) (script-within q xs)
  where
    by_cpu : (b : Bool) → length (script xs q) ≤ length xs → length (if b then x ∷ script xs q else script xs q) ≤ suc (length xs)
    by_cpu true h = omega (arith, h)
    by_cpu false h = omega (arith, h)

pub unlocks-few : (p : Parts) (q : ℕ) → IsOfSplit p q → count_steps is_unlock (own_script p q) ≤ MOST_SPLIT_STEPS
unlocks-few p q of =
    let a = count-within is_unlock (own_script p q) in
    let b = script-within q (steps_given p.drive) in
    let c = few-steps p of.valid of.split in
    omega (arith, a, b, c)

-- numbers that are below another
below-all : (s n : ℕ) (cs : List inbox.Claim) → ((k : Claim) → Among k (map plain_claim cs) → k.sem ≡ s → k.no < n) → AreBelow n (nos_of s cs)
below-all s n [] all = tt
below-all s n (c ∷ cs) all = by_sem (c.sem == s) refl (below-all s n cs (λ k m. all k (inr m)))
  where
    by_sem : (b : Bool) → c.sem == s ≡ b → AreBelow n (nos_of s cs) → AreBelow n (if b then c.no ∷ nos_of s cs else nos_of s cs)
    by_sem true e h = (all (plain_claim c) (inl refl) (eqb-true c.sem s e), h)
    by_sem false e h = h

pub posted-at : (posters : List PosterOf) (r : ℕ) (d : PosterOf) → r < length posters → posted_in posters r ≡ map plain_claim (slice_index_or posters r d).posted
posted-at posters r d low = get_or-map (λ (b : PosterOf). map plain_claim b.posted) posters r d [] low

pub inbox-at : (posters : List PosterOf) (inboxes : List InboxId) (r : ℕ) (d : PosterOf) (i : InboxId) → inboxes ≡ inboxes_of posters → r < length posters
    → (slice_index_or posters r d).inbox ≡ slice_index_or inboxes r i
inbox-at posters inboxes r d i same low = sym (get_or-map (λ (b : PosterOf). b.inbox) posters r d i low) ∙ ap (λ l. slice_index_or l r i) (sym same)

module _ (p : Parts) (q : ℕ) (of : IsOfSplit p q) (posters : List PosterOf) (are : ArePosters p q posters) (seats : List Seat) (c : Passed)
    (passed : IsPassedAt p q seats c) (h : ℕ) (at : h ≡ home (group_with p 0) c.task.0) where
  home-is : IsHomePart p c.task.0
  home-is = home-task p c.task.0 of.valid of.split passed.task_low passed.task_high

  pub low-position : h < length posters
  low-position = let a = home-is.there in let n = are.count in omega (arith, at, a, n)

  module _ (d : PosterOf) where
    abbrev pub g : Group
    g = part_group p q

    low : h < length posters
    low = low-position

    abbrev pub b : PosterOf
    b = slice_index_or posters h d

    pub poster : IsPosterAt p q h b
    poster = are.each h d low

    pub named : has c.task.0 b.tasks ≡ true
    named = subst (λ ts. has c.task.0 ts ≡ true) (ap (λ r. tasks (part_group p r) r) (sym at) ∙ sym poster.tasks_are) home-is.member

    quota-is : slice_index b.quotas b.cpu ≡ count_steps is_unlock (own_script p q)
    quota-is = ap (λ l. slice_index l b.cpu) poster.quotas_are ∙ ap (slice_index (unlocks_of p)) poster.cpu ∙ unlocks-at p q of.there

    pub in-quota : length (posted_in posters h) < count_steps is_unlock (own_script p q) → length b.posted < slice_index b.quotas b.cpu
    in-quota room =
        let a = ap length (posted-at posters h d low) ∙ length-map b.posted plain_claim in
        let e = quota-is in
        omega (arith, a, e, room)

    pub few-quota : slice_index b.quotas b.cpu < 2 ^ 32
    few-quota = let e = quota-is in let f = unlocks-few p q of in omega (arith, e, f)

    pub rises : ((k : Claim) → Among k (posted_in posters h) → k.sem ≡ c.sem.0 → k.no < c.no) → AreBelow c.no (nos_of c.sem.0 b.posted)
    rises all = below-all c.sem.0 c.no b.posted (λ k m. all k (subst (Among k) (sym (posted-at posters h d low)) m))

    -- ---- after the post
    module _ (from seq : ℕ) (b' : PosterOf) (is : b' ≡ record b { posted = b.posted ++ claim c.sem.0 c.no c.task.0 from seq ∷ [] }) where
      abbrev pub posters' : List PosterOf
      posters' = slice_set posters h b'

      pub same-inboxes : inboxes_of posters' ≡ inboxes_of posters
      same-inboxes = map-set_same (λ (x : PosterOf). x.inbox) posters h b' d (ap (λ (x : PosterOf). x.inbox) is)

      each-poster : (r : ℕ) (e : PosterOf) → r < length posters' → IsPosterAt p q r (slice_index_or posters' r e)
      each-poster r e below = by_position (nat_eq r h) refl
        where
          still : IsPosterAt p q h b'
          still = record {
            cpu = ap (λ (x : PosterOf). x.cpu) is ∙ poster.cpu;
            tasks_are = ap (λ (x : PosterOf). x.tasks) is ∙ poster.tasks_are;
            quotas_are = ap (λ (x : PosterOf). x.quotas) is ∙ poster.quotas_are;
          }

          by_position : (k : Bool) → nat_eq r h ≡ k → IsPosterAt p q r (slice_index_or posters' r e)
          by_position true k =
              let same : r ≡ h = eqb-true r h k in
              subst (λ n. IsPosterAt p q n (slice_index_or posters' n e)) (sym same) (subst (IsPosterAt p q h) (sym (get_or-set_same posters h b' e low)) still)
          by_position false k =
              let count = length-set posters h b' in
              subst (IsPosterAt p q r) (sym (get_or-set_other posters h r b' e (λ m. equal-clash r h m k))) (are.each r e (omega (arith, below, count)))

      pub still-posters : ArePosters p q posters'
      still-posters = record { count = length-set posters h b' ∙ are.count; each = each-poster }

      pub has-posted : (r : ℕ) → posted_in posters' r ≡ posted_in posters r ++ passed_to g r c
      has-posted r = by_position (nat_eq r h) refl
        where
          seat : seat_of g c.task.0 ≡ h
          seat = same-seat p (group_no p q) 0 c.task.0 ∙ home-is.seat ∙ sym at

          lists : List (List Claim)
          lists = map (λ (x : PosterOf). map plain_claim x.posted) posters

          by_position : (k : Bool) → nat_eq r h ≡ k → posted_in posters' r ≡ posted_in posters r ++ passed_to g r c
          by_position true k =
              let same : r ≡ h = eqb-true r h k in
              let count = length-set posters h b' in
              let to : passed_to g h c ≡ claim_passed c ∷ [] = ap (λ n. if n == h then claim_passed c ∷ [] else []) seat ∙ ap (λ x. if x then claim_passed c ∷ [] else []) (equal_self h) in
              subst (λ n. posted_in posters' n ≡ posted_in posters n ++ passed_to g n c) (sym same)
              (posted-at posters' h d (let l = low in omega (arith, l, count))
              ∙ ap (λ (x : PosterOf). map plain_claim x.posted) (get_or-set_same posters h b' d low ∙ is)
              ∙ map_push plain_claim b.posted (claim c.sem.0 c.no c.task.0 from seq)
              ∙ ap (λ l. l ++ claim_passed c ∷ []) (sym (posted-at posters h d low))
              ∙ ap (λ l. posted_in posters h ++ l) (sym to))
          by_position false k =
              let other : h == r ≡ false = turned h r ∙ k in
              let to : passed_to g r c ≡ [] = ap (λ n. if n == r then claim_passed c ∷ [] else []) seat ∙ ap (λ x. if x then claim_passed c ∷ [] else []) other in
              ap (λ l. slice_index_or l r []) (map-set (λ (x : PosterOf). map plain_claim x.posted) posters h b')
              ∙ get_or-set_other (map (λ (x : PosterOf). map plain_claim x.posted) posters) h r (map plain_claim b'.posted) [] (λ m. equal-clash r h m k)
              ∙ sym (append-nil (posted_in posters r)) ∙ ap (λ l. posted_in posters r ++ l) (sym to)

-- ---- the grant
pub is-grant : (p : Parts) (q : ℕ) (seats : List Seat) (past : PartPast) (meeting : IsMeeting p q seats past) (c : Passed) (passed : IsPassedAt p q seats c) (turns : List (Cell SemOf))
    → cells_of seats ≡ turns → (from seq : ℕ) → from ≡ q → (seen : Seat) → IfSome (slice_get seats (c.sem.0 - 1)) (λ a. seen ≡ split_off a)
    → IsGrant turns (record { claim = claim c.sem.0 c.no c.task.0 from seq; seen = seen })
is-grant p q seats past meeting c passed turns names from seq mine seen copy =
    let n = meeting.count in
    let l = passed.sem_low in
    let h = passed.sem_high in
    let low : c.sem.0 - 1 < length seats = omega (arith, n, l, h) in
    let a : Seat = slice_index_or seats (c.sem.0 - 1) seen in
    let there : slice_get seats (c.sem.0 - 1) ≡ Some a = slice_get-get_or seats (c.sem.0 - 1) seen low in
    let is : seen ≡ split_off a = subst (λ (o : Option Seat). IfSome o (λ x. seen ≡ split_off x)) there copy in
    let back : c.sem.0 - 1 + 1 ≡ c.sem.0 = omega (arith, l) in
    let seat = subst (λ m. IsSeatAt p q m a) back (meeting.each (c.sem.0 - 1) seen low) in
    let cell : seen.cell ≡ a.cell = ap (λ (x : Seat). x.cell) is in
    let same : books_in seats c.sem.0 ≡ seen.seen = books-at seats c.sem.0 seen l low ∙ ap (λ (x : Seat). x.seen) (sym is) in
    record {
      split_off = ap (λ (x : Seat). x.cpu) is;
      rests = ap (λ (x : Seat). x.holds) is;
      low = l;
      turn = ap (λ k. slice_get k (c.sem.0 - 1)) (sym names) ∙ slice_get-map (λ (x : Seat). x.cell) seats (c.sem.0 - 1) ∙ ap (option_map (λ (x : Seat). x.cell)) there ∙ ap Some (sym cell);
      granted = (
        passed.task,
        ap (λ k. slice_get k c.no) (sym same) ∙ passed.granted
            ∙ ap (λ m. Some (record { cpu = record { 0 = m }; task = passed.task; act = acts.Release (Some c.task) })) (sym mine),
      );
      legal = λ s here.
          let about : book_of p c.sem.0 ≡ s = some-same (sym seat.about ∙ ap (λ (x : Cell SemOf). x.subject) (sym cell) ∙ here) in
          subst (λ x. book.IsLegalSem x seen.seen) about (subst (book.IsLegalSem (book_of p c.sem.0)) same (meeting.legal c.sem.0));
    }
