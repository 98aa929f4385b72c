-- A partition takes what is left of its inbox, grant by grant.
use Rattle.std.proofs.Common.{◌≡◌, ◌⊎◌, inl, inr, ℕ, true, List, [], ◌∷◌, ◌++◌, map, Option, None, Some, refl, sym, ap, ◌∙◌, subst, append-nil, append_assoc}
use Rattle.std.specs.List.{filter_map}
use Rattle.std.proofs.lemmas.List.{map_push}
use Rattle.rt_base.specs.declared.SemNo.{SemNo}
use Rattle.rt_base.specs.declared.TaskNo.{TaskNo}
use Rattle.rt_rules.specs.Numbers.{has}
use Rattle.rt_task.specs.declared.Step.{Step}
use Rattle.split_rules.specs.Matching.{Books, claims}
use Rattle.split_rules.specs.PartHistories.{past_of, step_by, steps_of}
use Rattle.split_rules.specs.PartLinks.{tasks}
use Rattle.split_rules.specs.PartPast.{deeds}
use Rattle.split_rules.specs.Partitions.{part_group}
use Rattle.split_rules.specs.SemHistories.{seat_of}
use Rattle.split_rules.specs.declared.SplitEntry.{SplitEntry}
use Rattle.split_inbox.specs.Posting.{AreNamed, AreRising, IsRising, nos_of, of_poster}
use Rattle.split_inbox.specs.declared.rule.Claim as inbox
use Rattle.split_inbox.proofs.Claims.{nos-append, of-append, rising-front}
use Rattle.split_laws.specs.Parts.{Among, HaveGrown}
use Rattle.split_laws.specs.Posts.{TakenGrant, claims_of, cpu_at}
use Rattle.split_laws.proofs.PostLaws.{among-either}
use Rattle.part_player.proofs.OwnParts.{own-task}
use Rattle.part_seat.specs.AtTurns.{HasTaken, IsNext, IsSamePart, plain_claim, taken_claim}
use Rattle.part_seat.specs.Partitions.{PartOf, books_in, group_of, past_at}
use Rattle.part_seat.specs.PartSeats.{IsPartition}
use Rattle.part_seat.proofs.RisingLaws.{last-is-greatest}
use Rattle.part_seat.proofs.SeatLaws.{carried, take-claims}
use Rattle.part_seat.proofs.TakeLaws.{grown-cpu}
use Rattle.split_part.specs.Closings.{CanTake, HasTakenAll}

-- ---- steps of a script

abbrev cons_step : Option Step → List Step → List Step
cons_step None xs = xs
cons_step (Some x) xs = x ∷ xs

pub steps-joined : (q : ℕ) (es fs : List SplitEntry) → steps_of q (es ++ fs) ≡ steps_of q es ++ steps_of q fs
steps-joined q [] fs = refl
steps-joined q (e ∷ es) fs = by_step (step_by q e.act e) (steps-joined q es fs)
  where
    by_step : (o : Option Step) → steps_of q (es ++ fs) ≡ steps_of q es ++ steps_of q fs → cons_step o (steps_of q (es ++ fs)) ≡ cons_step o (steps_of q es) ++ steps_of q fs
    by_step None h = h
    by_step (Some x) h = ap (λ l. x ∷ l) h

-- ---- histories that grow twice

pub grown-twice : (q : ℕ) (a b c : Books) → HaveGrown q a b → HaveGrown q b c → HaveGrown q a c
grown-twice q a b c h k = record {
  later = λ s. ((h.later s).0 ++ (k.later s).0, (k.later s).1 ∙ ap (λ l. l ++ (k.later s).0) (h.later s).1 ∙ append_assoc (a s) (h.later s).0 (k.later s).0);
  own_same = λ s. k.own_same s ∙ h.own_same s;
}

pub grown-none : (q : ℕ) (a : Books) → HaveGrown q a a
grown-none q a = record { later = λ s. ([], sym (append-nil (a s))); own_same = λ s. refl }

-- ---- parts of what rises and of what is named

named-first : (ts : List ℕ) (c : inbox.Claim) (cs : List inbox.Claim) → AreNamed ts (c ∷ cs) → has c.task ts ≡ true
named-first ts c cs h = h.0

pub rising-first : (xs ys : List inbox.Claim) → AreRising (xs ++ ys) → AreRising xs
rising-first xs ys h q s =
    rising-front (nos_of s (of_poster q xs)) (nos_of s (of_poster q ys)) (subst IsRising (ap (nos_of s) (of-append q xs ys) ∙ nos-append s (of_poster q xs) (of_poster q ys)) (h q s))

-- ---- the first of the grants that are left

module _ (a : PartOf) (kept : IsPartition a) (c : inbox.Claim) (cs : List inbox.Claim) (can : CanTake a (c ∷ cs)) where
  rising-more : AreRising ((can.taken ++ c ∷ []) ++ cs)
  rising-more = subst AreRising (sym (append_assoc can.taken (c ∷ []) cs)) can.rising

  pub grant-home : seat_of (group_of a) c.task ≡ a.cpu
  grant-home = (own-task a.setup a.cpu kept.history.of_split c.task (named-first (tasks (group_of a) a.cpu) c cs can.named)).1

  pub grant-next : IsNext (books_in a.seats) (past_at a) (taken_claim c)
  grant-next = record { taken = map taken_claim can.taken; took = can.took; from = can.from; above = last-is-greatest c can.taken (rising-first (can.taken ++ c ∷ []) cs rising-more) }

  module _ (a' : PartOf) (e : SplitEntry) (took : HasTaken a a' c e) where
    pub claims-more : claims (deeds (past_at a')) ≡ claims (deeds (past_at a)) ++ plain_claim c ∷ []
    claims-more =
        carried (λ p q. claims (deeds (past_of (part_group p q) q a'.entries)) ≡ claims (deeds (past_at a)) ++ plain_claim c ∷ []) a a' took.same
        (ap (λ (l : List SplitEntry). claims (deeds (past_of (group_of a) a.cpu l))) (took.entries ∙ ap (λ (x : SplitEntry). a.entries ++ x ∷ []) took.entry)
        ∙ take-claims (group_of a) a.cpu a.entries (record { 0 = c.sem }) c.no (record { 0 = c.task }))

    taken-is : map taken_claim (can.taken ++ c ∷ []) ≡ map taken_claim can.taken ++ taken_claim c ∷ []
    taken-is = map_push taken_claim can.taken c

    from-more : (x : TakenGrant) → Among x (map taken_claim (can.taken ++ c ∷ [])) → cpu_at (books_in a'.seats x.claim.sem) x.claim.no ≡ Some x.from
    from-more x m = by_view (among-either x (map taken_claim can.taken) (taken_claim c ∷ []) (subst (Among x) taken-is m))
      where
        by_view : Among x (map taken_claim can.taken) ⊎ Among x (taken_claim c ∷ []) → cpu_at (books_in a'.seats x.claim.sem) x.claim.no ≡ Some x.from
        by_view (inl k) = grown-cpu a.cpu (books_in a.seats) (books_in a'.seats) took.grown x.claim.sem x.claim.no x.from (can.from x k)
        by_view (inr (inl k)) = subst (λ (y : TakenGrant). cpu_at (books_in a'.seats y.claim.sem) y.claim.no ≡ Some y.from) (sym k) took.from
        by_view (inr (inr k)) = elim k [ ]

    pub can-more : CanTake a' cs
    can-more = record {
      taken = can.taken ++ c ∷ [];
      took = claims-more ∙ ap (λ l. l ++ plain_claim c ∷ []) can.took ∙ sym (map_push (λ (x : TakenGrant). x.claim) (map taken_claim can.taken) (taken_claim c)) ∙ ap claims_of (sym taken-is);
      from = from-more;
      named = carried (λ p q. AreNamed (tasks (part_group p q) q) cs) a a' took.same can.named.1;
      rising = rising-more;
    }

-- ---- grants that were taken

pub taken-none : (a : PartOf) → HasTakenAll a a []
taken-none a = record {
  same = record { setup = refl; cpu = refl; cells = refl };
  more = [];
  entries = sym (append-nil a.entries);
  takes = refl;
  claims_are = sym (append-nil (claims (deeds (past_at a))));
  grown = grown-none a.cpu (books_in a.seats);
}

same-twice : (a b c : PartOf) → IsSamePart a b → IsSamePart b c → IsSamePart a c
same-twice a b c h k = record { setup = k.setup ∙ h.setup; cpu = k.cpu ∙ h.cpu; cells = k.cells ∙ h.cells }

pub taken-more : (a b b' : PartOf) (c : inbox.Claim) (cs : List inbox.Claim) (e : SplitEntry) → HasTakenAll a b cs → HasTaken b b' c e
    → claims (deeds (past_at b')) ≡ claims (deeds (past_at b)) ++ plain_claim c ∷ [] → HasTakenAll a b' (cs ++ c ∷ [])
taken-more a b b' c cs e all one claims_are = record {
  same = same-twice a b b' all.same one.same;
  more = all.more ++ e ∷ [];
  entries = one.entries ∙ ap (λ l. l ++ e ∷ []) all.entries ∙ append_assoc a.entries all.more (e ∷ []);
  takes = steps-joined a.cpu all.more (e ∷ []) ∙ ap (λ l. l ++ steps_of a.cpu (e ∷ [])) all.takes ∙ ap (λ (x : SplitEntry). steps_of a.cpu (x ∷ [])) one.entry;
  claims_are =
      claims_are ∙ ap (λ l. l ++ plain_claim c ∷ []) all.claims_are ∙ append_assoc (claims (deeds (past_at a))) (map plain_claim cs) (plain_claim c ∷ [])
      ∙ ap (λ l. claims (deeds (past_at a)) ++ l) (sym (map_push plain_claim cs c));
  grown = grown-twice a.cpu (books_in a.seats) (books_in b.seats) (books_in b'.seats) all.grown (subst (λ q. HaveGrown q (books_in b.seats) (books_in b'.seats)) all.same.cpu one.grown);
}

-- room for entries changes nothing
pub can-reserved : (a : PartOf) (room : ℕ) (cs : List inbox.Claim) → CanTake a cs → CanTake (record a { room = room }) cs
can-reserved a room cs can = record { taken = can.taken; took = can.took; from = can.from; named = can.named; rising = can.rising }

pub taken-reserved : (a b : PartOf) (room : ℕ) (cs : List inbox.Claim) → HasTakenAll a b cs → HasTakenAll a (record b { room = room }) cs
taken-reserved a b room cs all = record {
  same = record { setup = all.same.setup; cpu = all.same.cpu; cells = all.same.cells };
  more = all.more;
  entries = all.entries;
  takes = all.takes;
  claims_are = all.claims_are;
  grown = all.grown;
}
