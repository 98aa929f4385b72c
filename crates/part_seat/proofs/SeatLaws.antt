-- What a seat keeps, after a step of its script and after a grant.
use Rattle.std.proofs.Common.{◌≡◌, ◌⊎◌, inl, inr, ℕ, true, List, [], ◌∷◌, ◌++◌, map, Some, sym, ap, ◌∙◌, subst}
use Rattle.std.proofs.lemmas.List.{map_push}
use Rattle.rt_base.specs.declared.SemNo.{SemNo}
use Rattle.rt_base.specs.declared.TaskNo.{TaskNo}
use Rattle.rt_task.specs.declared.Parts.{Parts}
use Rattle.rt_rules.specs.Numbers.{has}
use Rattle.rt_model.specs.Group.{Group}
use Rattle.turn_cell.specs.SeatViews.{Cell}
use Rattle.split_rules.specs.Matching.{claims}
use Rattle.split_rules.specs.PartHistories.{after, past_from, past_of}
use Rattle.split_rules.specs.PartLinks.{tasks}
use Rattle.split_rules.specs.PartPast.{Gets, PartPast, deeds}
use Rattle.split_rules.specs.Partitions.{part_group}
use Rattle.split_rules.specs.SemHistories.{seat_of}
use Rattle.split_rules.specs.declared.SplitEntry.{SplitEntry}
use Rattle.split_inbox.specs.Inboxes.{PosterOf, TakerOf}
use Rattle.split_inbox.specs.Posting.{AreRising}
use Rattle.split_inbox.specs.declared.rule.Claim as inbox
use Rattle.split_inbox.specs.declared.subject.SemOf.{SemOf}
use Rattle.split_laws.specs.Parts.{Among}
use Rattle.split_laws.specs.Posts.{HasPosted, TakenGrant, claims_of, cpu_at}
use Rattle.split_laws.proofs.PostLaws.{among-either, posted-grown}
use Rattle.split_laws.proofs.RunLaws.{opened_part}
use Rattle.split_laws.proofs.RunLists.{claims-joined}
use Rattle.split_laws.proofs.StepLaws.{past-push}
use Rattle.part_player.specs.Players.{take_entry}
use Rattle.part_player.proofs.OwnParts.{own-task}
use Rattle.part_seat.specs.AtTurns.{HasTaken, IsNext, IsSamePart, plain_claim, taken_claim}
use Rattle.part_seat.specs.Partitions.{PartOf, books_in, group_of, past_at}
use Rattle.part_seat.specs.PartSeats.{ArePosters, IsPartSeat, IsPartition, IsUnplayed, PartSeatView, posted_in, taken_in}
use Rattle.part_seat.specs.Steps.{HasStepped}
use Rattle.part_seat.specs.declared.passed.Played2.{Played2}
use Rattle.part_seat.proofs.RisingLaws.{last-is-greatest}
use Rattle.part_seat.proofs.TakeLaws.{grown-cpu}

-- a grant that is taken
pub take-claims : (g : Group) (q : ℕ) (es : List SplitEntry) (s : SemNo) (n : ℕ) (t : TaskNo)
    → claims (deeds (past_of g q (es ++ take_entry (past_of g q es) s n t ∷ []))) ≡ claims (deeds (past_of g q es)) ++ record { sem = s.0; no = n; task = t.0 } ∷ []
unfolding after deeds
take-claims g q es s n t =
    ap (λ (p : PartPast). claims (deeds p)) (past-push g q es (take_entry (past_of g q es) s n t))
    ∙ claims-joined (deeds (past_of g q es)) (record { task = t.0; sem = s.0; deed = Gets n } ∷ [])

-- what is said of a set and a processor holds of those of the same partition
pub carried : (P : Parts → ℕ → Type 0) (a a' : PartOf) → IsSamePart a a' → P a.setup a.cpu → P a'.setup a'.cpu
carried P a a' same h = subst (λ p. P p a'.cpu) (sym same.setup) (subst (P a.setup) (sym same.cpu) h)

module _ (turns : List (Cell SemOf)) (part : PartOf) (posters : List PosterOf) (taker : TakerOf)
    (seat : IsPartSeat turns (record { part = part; posters = posters; taker = taker })) where
  same-tasks : (part' : PartOf) → IsSamePart part part' → taker.tasks ≡ tasks (group_of part') part'.cpu
  same-tasks part' same = carried (λ p q. taker.tasks ≡ tasks (part_group p q) q) part part' same seat.taker_tasks

  pub stepped : (r : Played2) (part' : PartOf) (posters' : List PosterOf) (taker' : TakerOf) → HasStepped r part part' → ArePosters part'.setup part'.cpu posters'
      → HasPosted (group_of part') part'.cpu (books_in part'.seats) (posted_in posters') → taker'.tasks ≡ taker.tasks → taker'.taken ≡ taker.taken
      → IsPartSeat turns (record { part = part'; posters = posters'; taker = taker' })
  stepped r part' posters' taker' step are posted tasks_are taken = record {
    cells_are = step.same.cells ∙ seat.cells_are;
    posters_are = are;
    taker_tasks = tasks_are ∙ same-tasks part' step.same;
    posted = posted;
    took = step.claims_are ∙ seat.took ∙ ap (λ l. claims_of (map taken_claim l)) (sym taken);
    from = λ x m. step.kept x.claim.sem x.claim.no x.from (seat.from x (subst (λ l. Among x (map taken_claim l)) taken m));
  }

  module _ (kept : IsPartition part) where
    pub grant-home : (t : ℕ) → has t taker.tasks ≡ true → seat_of (group_of part) t ≡ part.cpu
    grant-home t h = (own-task part.setup part.cpu kept.history.of_split t (subst (λ ts. has t ts ≡ true) seat.taker_tasks h)).1

  pub is-next : (c : inbox.Claim) → AreRising (taker.taken ++ c ∷ []) → IsNext (books_in part.seats) (past_at part) (taken_claim c)
  is-next c rising = record { taken = taken_in taker; took = seat.took; from = seat.from; above = last-is-greatest c taker.taken rising }

  module _ (part' : PartOf) (c : inbox.Claim) (e : SplitEntry) (took : HasTaken part part' c e) (taker' : TakerOf) (takes : ℕ)
      (is : taker' ≡ record taker { takes = takes; taken = taker.taken ++ c ∷ [] }) where
    claims-taken : claims (deeds (past_at part')) ≡ claims (deeds (past_at part)) ++ plain_claim c ∷ []
    claims-taken =
        carried (λ p q. claims (deeds (past_of (part_group p q) q part'.entries)) ≡ claims (deeds (past_at part)) ++ plain_claim c ∷ []) part part' took.same
        (ap (λ (l : List SplitEntry). claims (deeds (past_of (group_of part) part.cpu l))) (took.entries ∙ ap (λ (x : SplitEntry). part.entries ++ x ∷ []) took.entry)
        ∙ take-claims (group_of part) part.cpu part.entries (record { 0 = c.sem }) c.no (record { 0 = c.task }))

    taken-is : taken_in taker' ≡ taken_in taker ++ taken_claim c ∷ []
    taken-is = ap taken_in is ∙ map_push taken_claim taker.taken c

    from-taken : (x : TakenGrant) → Among x (taken_in taker') → cpu_at (books_in part'.seats x.claim.sem) x.claim.no ≡ Some x.from
    from-taken x m = by_position (among-either x (taken_in taker) (taken_claim c ∷ []) (subst (Among x) taken-is m))
      where
        by_position : Among x (taken_in taker) ⊎ Among x (taken_claim c ∷ []) → cpu_at (books_in part'.seats x.claim.sem) x.claim.no ≡ Some x.from
        by_position (inl k) = grown-cpu part.cpu (books_in part.seats) (books_in part'.seats) took.grown x.claim.sem x.claim.no x.from (seat.from x k)
        by_position (inr (inl k)) = subst (λ (y : TakenGrant). cpu_at (books_in part'.seats y.claim.sem) y.claim.no ≡ Some y.from) (sym k) took.from
        by_position (inr (inr k)) = elim k [ ]

    pub after-grant : IsPartSeat turns (record { part = part'; posters = posters; taker = taker' })
    after-grant = record {
      cells_are = took.same.cells ∙ seat.cells_are;
      posters_are = carried (λ p q. ArePosters p q posters) part part' took.same seat.posters_are;
      taker_tasks = ap (λ (t : TakerOf). t.tasks) is ∙ same-tasks part' took.same;
      posted =
          carried (λ p q. HasPosted (part_group p q) q (books_in part'.seats) (posted_in posters)) part part' took.same
          (posted-grown (group_of part) part.cpu (books_in part.seats) (books_in part'.seats) (posted_in posters) seat.posted took.grown);
      took = claims-taken ∙ ap (λ l. l ++ plain_claim c ∷ []) seat.took ∙ sym (map_push (λ (x : TakenGrant). x.claim) (taken_in taker) (taken_claim c)) ∙ ap claims_of (sym taken-is);
      from = from-taken;
    }

-- room for entries changes nothing
pub reserved : (turns : List (Cell SemOf)) (part : PartOf) (posters : List PosterOf) (taker : TakerOf) (room : ℕ)
    → IsPartSeat turns (record { part = part; posters = posters; taker = taker })
    → IsPartSeat turns (record { part = record part { room = room }; posters = posters; taker = taker })
reserved turns part posters taker room seat = record {
  cells_are = seat.cells_are;
  posters_are = seat.posters_are;
  taker_tasks = seat.taker_tasks;
  posted = seat.posted;
  took = seat.took;
  from = seat.from;
}

-- nothing was played
pub unplayed-seat : (turns : List (Cell SemOf)) (a : PartSeatView) → IsUnplayed turns a → IsPartSeat turns a
unfolding past_of past_from deeds
unplayed-seat turns a un = record {
  cells_are = un.cells_are;
  posters_are = un.posters_are;
  taker_tasks = un.taker_tasks;
  posted = (opened_part (group_of a.part) a.part.cpu (books_in a.part.seats) (posted_in a.posters) un.unseen un.unposted).posted_none;
  took = ap (λ (l : List SplitEntry). claims (deeds (past_of (group_of a.part) a.part.cpu l))) un.entries ∙ ap (λ l. claims_of (map taken_claim l)) (sym un.untaken);
  from = λ x m. elim (subst (λ l. Among x (map taken_claim l)) un.untaken m) [ ];
}
