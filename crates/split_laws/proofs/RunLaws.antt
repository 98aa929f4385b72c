-- What holds of each state that the steps of a split run make.
use Rattle.std.proofs.Common.{◌≡◌, ℕ, ◌<◌, Bool, true, false, inl, List, [], ◌∷◌, ◌++◌, length, map, Some, refl, sym, ap, ◌∙◌, subst, eqb-true, append_assoc, append-nil, arith}
use Rattle.std.specs.Prelude.{◌==◌, if◌then◌else◌}
use Rattle.std.proofs.lemmas.List.{map-append}
use Rattle.rt_task.specs.declared.Parts.{Parts}
use Rattle.rt_rules.specs.Numbers.{has}
use Rattle.rt_rules.proofs.MemberLaws.{equal_self, turned}
use Rattle.rt_model.specs.Past.{now}
use Rattle.rt_plays.specs.Plays.{group_with}
use Rattle.split_rules.specs.Matching.{claims, granted_at, own, rise_from, taken_at, told}
use Rattle.split_rules.specs.PartHistories.{IsEntryAt, IsLegalFrom, after, past_from, past_of}
use Rattle.split_rules.specs.PartPast.{Claim, Gets, PartPast, Took, deeds, moves}
use Rattle.split_rules.specs.PartSems.{awaiting, holding}
use Rattle.split_rules.specs.Partitions.{group_no, part_group}
use Rattle.split_rules.specs.SemHistories.{IsLegalSem, seat_of, sem_state}
use Rattle.split_rules.specs.declared.SemEntry.{SemEntry}
use Rattle.split_rules.specs.declared.SplitEntry.{SplitEntry}
use Rattle.split_laws.proofs.ActLaws.{seen-took, taker_waits}
use Rattle.split_laws.proofs.EntryLaws.{none-some, part-entry, part-opening}
use Rattle.split_laws.proofs.FreshLaws.{IsGivenAt, fresh, given-at, poster-taken, taken-poster}
use Rattle.split_laws.proofs.MatchLaws.{seen-matches}
use Rattle.split_laws.proofs.PostLaws.{among-left, among-right, among-sem, posted-acted, posted-grown, posted-there, sem-joined}
use Rattle.split_laws.proofs.RunLists.{by_number, claims-joined, claims-told, given-rise, numbers_of, poster-push, rise-before}
use Rattle.split_laws.proofs.SeenLaws.{may_release, own-joined, seen-grown}
use Rattle.split_laws.proofs.StepLaws.{ShowsAct, act-legal, legal-push, past-push, same-holder, same-legal, same-posted, same-seat, some-same, seen-act, seen-same, shows-act}
use Rattle.split_laws.specs.Parts.{Among, HasSeen, HaveGrown, IsActIn, IsPartPast}
use Rattle.split_laws.specs.Laws.{EntryJoins, OpenedPart}
use Rattle.split_laws.specs.Posts.{HasPosted, TakenGrant, by_poster, claims_of, cpu_at, given, given_from, of_sem}
use Rattle.split_laws.specs.Tales.{tale_from}
use Rattle.split_laws.specs.Runs.{GrantsAreTaken, HasEntry, IsActing, IsAlone, IsOpening, IsRun, IsSplitPlay, IsTaking, RunsArePlays, SplitState, opened, alone, acting, taking, past_at, take_of}

pub record IsSound (p : Parts) (st : SplitState) : Type 0 where
  pub legal : (q : ℕ) → IsLegalFrom (part_group p q) q [] (st.history q)
  pub part : (q : ℕ) → IsPartPast (part_group p q) q (past_at p st q)
  pub seen : (q : ℕ) → HasSeen (part_group p q) q st.books (past_at p st q)
  pub posted : (q : ℕ) → HasPosted (part_group p q) q st.books (st.posted q)
  pub begun : (q r : ℕ) → (rest : List Claim) × (st.posted q r ≡ by_poster q (st.taken r) ++ rest)
  pub claims_are : (q : ℕ) → claims (deeds (past_at p st q)) ≡ claims_of (st.taken q)

module _ (p : Parts) (st st' : SplitState) (sound : IsSound p st) where
  -- the histories after one entry
  module _ (q : ℕ) (e : SplitEntry) (has : HasEntry p q e st st') where
    past_own : past_at p st' q ≡ after (part_group p q) q e (past_at p st q)
    past_own = ap (past_of (part_group p q) q) has.own ∙ past-push (part_group p q) q (st.history q) e

    past_other : (r : ℕ) → r == q ≡ false → past_at p st' r ≡ past_at p st r
    past_other r h = ap (past_of (part_group p r) r) (has.others r h)

    legal_now : IsEntryAt (part_group p q) q (past_at p st q) e → (r : ℕ) → IsLegalFrom (part_group p r) r [] (st'.history r)
    unfolding past_of
    legal_now answered r = by_number (λ x. IsLegalFrom (part_group p x) x [] (st'.history x)) r q
        (subst (IsLegalFrom (part_group p q) q []) (sym has.own) (legal-push (part_group p q) q (st.history q) e [] (sound.legal q) answered))
        (λ h. subst (IsLegalFrom (part_group p r) r []) (sym (has.others r h)) (sound.legal r))

    part_now : IsEntryAt (part_group p q) q (past_at p st q) e → (r : ℕ) → IsPartPast (part_group p r) r (past_at p st' r)
    part_now answered r = by_number (λ x. IsPartPast (part_group p x) x (past_at p st' x)) r q
        (subst (IsPartPast (part_group p q) q) (sym past_own) (part-entry (part_group p q) q has.seat (past_at p st q) (sound.part q) e answered))
        (λ h. subst (IsPartPast (part_group p r) r) (sym (past_other r h)) (sound.part r))

  -- a step that does nothing at a semaphore
  sound-alone : (q : ℕ) (e : SplitEntry) → IsAlone p q e st st' → IsSound p st'
  sound-alone q e step = record {
    legal = legal_now q e step.entry step.answered;
    part = part_now q e step.entry step.answered;
    seen = λ r. by_number (λ x. HasSeen (part_group p x) x st'.books (past_at p st' x)) r q
        (subst (HasSeen (part_group p q) q st'.books) (sym (past_own q e step.entry))
        (seen-same (part_group p q) q st.books st'.books (past_at p st q) (after (part_group p q) q e (past_at p st q)) (sound.seen q) step.no_deed step.books_same))
        (λ h. subst (HasSeen (part_group p r) r st'.books) (sym (past_other q e step.entry r h))
        (seen-same (part_group p r) r st.books st'.books (past_at p st r) (past_at p st r) (sound.seen r) refl step.books_same));
    posted = λ r i s. ap (of_sem s) (step.posted_same r i) ∙ sound.posted r i s ∙ ap (given_from (part_group p r) r i s 0) (sym (step.books_same s));
    begun = λ r i. ((sound.begun r i).0, step.posted_same r i ∙ (sound.begun r i).1 ∙ ap (λ (l : List TakenGrant). by_poster r l ++ (sound.begun r i).0) (sym (step.taken_same i)));
    claims_are = λ r. by_number (λ x. claims (deeds (past_at p st' x)) ≡ claims_of (st'.taken x)) r q
        (ap (λ (x : PartPast). claims (deeds x)) (past_own q e step.entry) ∙ ap claims step.no_deed ∙ sound.claims_are q ∙ ap claims_of (sym (step.taken_same q)))
        (λ h. ap (λ (x : PartPast). claims (deeds x)) (past_other q e step.entry r h) ∙ sound.claims_are r ∙ ap claims_of (sym (step.taken_same r)));
  }

  -- a step that acts at a semaphore
  module _ (q s : ℕ) (b : SemEntry) (e : SplitEntry) (step : IsActing p q s b e st st') where
    act_in : IsActIn q s b st.books st'.books
    act_in = record { own_cpu = step.own_cpu; at = step.book; others = step.books_others }

    act_grown : (r : ℕ) → r == q ≡ false → HaveGrown r st.books st'.books
    act_grown r h = record {
      later = λ x. by_number (λ y. (more : List SemEntry) × (st'.books y ≡ st.books y ++ more)) x s (b ∷ [], step.book) (λ k. ([], step.books_others x k ∙ sym (append-nil (st.books x))));
      own_same = λ x. by_number (λ y. own r (st'.books y) ≡ own r (st.books y)) x s
          (ap (own r) step.book ∙ own-joined r (st.books s) (b ∷ [])
          ∙ ap (λ (c : Bool). own r (st.books s) ++ (if c then b ∷ [] else [])) (let z : b.cpu.0 == r ≡ false = rw step.own_cpu (turned q r ∙ h) in z)
          ∙ append-nil (own r (st.books s)))
          (λ k. ap (own r) (step.books_others x k));
    }

    act_shown : ShowsAct (part_group p q) q s b (past_at p st q) e
    act_shown = shows-act (part_group p q) q step.entry.seat (past_at p st q) (sound.part q) s b e step.answered step.deed

    act_books : (r : ℕ) → IsLegalSem (part_group p q) r (st'.books r)
    act_books r = by_number (λ x. IsLegalSem (part_group p q) x (st'.books x)) r s
        (subst (IsLegalSem (part_group p q) s) (sym step.book)
        (act-legal (part_group p q) q step.entry.seat (past_at p st q) (sound.part q) s b e st.books (sound.seen q) act_shown step.own_cpu step.came_out))
        (λ h. subst (IsLegalSem (part_group p q) r) (sym (step.books_others r h)) ((sound.seen q).books_legal r))

    sound-acting : IsSound p st'
    sound-acting = record {
      legal = legal_now q e step.entry step.answered;
      part = part_now q e step.entry step.answered;
      seen = λ r. by_number (λ x. HasSeen (part_group p x) x st'.books (past_at p st' x)) r q
          (subst (HasSeen (part_group p q) q st'.books) (sym (past_own q e step.entry))
          (seen-act (part_group p q) q step.entry.seat (past_at p st q) (sound.part q) s b e st.books st'.books (sound.seen q) act_shown act_in act_books))
          (λ h. subst (HasSeen (part_group p r) r st'.books) (sym (past_other q e step.entry r h))
          (seen-grown (part_group p r) r st.books st'.books (past_at p st r) (sound.seen r) (act_grown r h)
          (λ x. same-legal p (group_no p q) (group_no p r) x (st'.books x) (act_books x))));
      posted = λ r. by_number (λ x. HasPosted (part_group p x) x st'.books (st'.posted x)) r q
          (posted-acted (part_group p q) q s b st.books st'.books (st.posted q) (st'.posted q) (sound.posted q) act_in step.posts)
          (λ h i x. ap (of_sem x) (step.posted_others r i h) ∙ posted-grown (part_group p r) r st.books st'.books (st.posted r) (sound.posted r) (act_grown r h) i x);
      begun = λ r i. by_number (λ x. (rest : List Claim) × (st'.posted x i ≡ by_poster x (st'.taken i) ++ rest)) r q (
        (sound.begun q i).0 ++ given (part_group p q) q i s (length (st.books s)) b,
        step.posts i ∙ ap (λ (l : List Claim). l ++ given (part_group p q) q i s (length (st.books s)) b) (sound.begun q i).1
            ∙ append_assoc (by_poster q (st.taken i)) (sound.begun q i).0 (given (part_group p q) q i s (length (st.books s)) b)
            ∙ ap (λ (l : List TakenGrant). by_poster q l ++ ((sound.begun q i).0 ++ given (part_group p q) q i s (length (st.books s)) b)) (sym (step.taken_same i)),
      )
          (λ h. ((sound.begun r i).0, step.posted_others r i h ∙ (sound.begun r i).1 ∙ ap (λ (l : List TakenGrant). by_poster r l ++ (sound.begun r i).0) (sym (step.taken_same i))));
      claims_are = λ r. by_number (λ x. claims (deeds (past_at p st' x)) ≡ claims_of (st'.taken x)) r q
          (ap (λ (x : PartPast). claims (deeds x)) (past_own q e step.entry) ∙ ap claims step.deed
          ∙ claims-joined (deeds (past_at p st q)) (told s b ∷ []) ∙ ap (λ (l : List Claim). claims (deeds (past_at p st q)) ++ l) (claims-told s b)
          ∙ append-nil (claims (deeds (past_at p st q))) ∙ sound.claims_are q ∙ ap claims_of (sym (step.taken_same q)))
          (λ h. ap (λ (x : PartPast). claims (deeds x)) (past_other q e step.entry r h) ∙ sound.claims_are r ∙ ap claims_of (sym (step.taken_same r)));
    }

-- what was taken was given by an entry of the processor that posted it
taken-right : (p : Parts) (st : SplitState) → IsSound p st → (q : ℕ) (x : TakenGrant) → Among x (st.taken q) → cpu_at (st.books x.claim.sem) x.claim.no ≡ Some x.from
taken-right p st sound q x a =
    let b = sound.begun x.from q in
    let posted : Among x.claim (st.posted x.from q) = subst (Among x.claim) (sym b.1) (among-left x.claim (by_poster x.from (st.taken q)) b.0 (taken-poster x (st.taken q) a)) in
    let w = given-at (part_group p x.from) x.from q x.claim.sem 0 x.claim (st.books x.claim.sem)
    (subst (Among x.claim) (sound.posted x.from q x.claim.sem) (among-sem x.claim (st.posted x.from q) posted)) in
    let same : w.position ≡ x.claim.no = (let z = w.number in omega arith) in
    subst (λ (n : ℕ). cpu_at (st.books x.claim.sem) n ≡ Some x.from) same w.cpu

-- the next grant of a processor's, which is taken
module _ (p : Parts) (st st' : SplitState) (sound : IsSound p st) (q from : ℕ) (k : Claim) (rest : List Claim) (step : IsTaking p q from k rest st st') where
  taking_given : IsGivenAt (part_group p from) from q k.sem 0 k (st.books k.sem)
  taking_given = given-at (part_group p from) from q k.sem 0 k (st.books k.sem)
      (subst (Among k) (sound.posted from q k.sem) (among-sem k (st.posted from q)
      (subst (Among k) (sym step.next) (among-right k (by_poster from (st.taken q)) (k ∷ rest) (inl refl)))))

  taking_position : taking_given.position ≡ k.no
  taking_position = let z = taking_given.number in omega arith

  taking_above : (x : TakenGrant) → Among x (st.taken q) → x.from ≡ from → x.claim.sem ≡ k.sem → x.claim.no < k.no
  taking_above x a f s =
      let front = of_sem k.sem (by_poster from (st.taken q)) in
      let back = of_sem k.sem rest in
      let split : given_from (part_group p from) from q k.sem 0 (st.books k.sem) ≡ front ++ k ∷ back =
      sym (sound.posted from q k.sem) ∙ ap (of_sem k.sem) step.next ∙ sem-joined k.sem (by_poster from (st.taken q)) (k ∷ rest)
      ∙ ap (λ (c : Bool). front ++ (if c then k ∷ back else back)) (equal_self k.sem) in
      rise-before 0 front k back x.claim
      (ap (λ (l : List Claim). rise_from 0 (numbers_of l)) (sym split) ∙ given-rise (part_group p from) from q k.sem 0 (st.books k.sem))
      (subst (λ (n : ℕ). Among x.claim (of_sem n (by_poster from (st.taken q)))) s (among-sem x.claim (by_poster from (st.taken q))
      (subst (λ (n : ℕ). Among x.claim (by_poster n (st.taken q))) f (taken-poster x (st.taken q) a))))

  taking_home : seat_of (part_group p q) k.task ≡ q
  taking_home = same-seat p (group_no p q) (group_no p from) k.task ∙ taking_given.home

  taking_there : granted_at (st.books k.sem) k.no ≡ Some k.task
  taking_there = subst (λ (n : ℕ). granted_at (st.books k.sem) n ≡ Some k.task) taking_position taking_given.there

  taking_fresh : has k.no (taken_at k.task k.sem (claims (deeds (past_at p st q)))) ≡ false
  taking_fresh = fresh st.books (st.taken q) (claims (deeds (past_at p st q))) from k (sound.claims_are q) (taken-right p st sound q)
      (subst (λ (n : ℕ). cpu_at (st.books k.sem) n ≡ Some from) taking_position taking_given.cpu) taking_above

  taking_waits : awaiting k.task (past_at p st q) ≡ Some k.sem
  taking_waits = taker_waits (part_group p q) q st.books (past_at p st q) (sound.part q).known (sound.seen q) k taking_home taking_there taking_fresh

  taking_entry : IsEntryAt (part_group p q) q (past_at p st q) (take_of (now (moves (past_at p st q))) k)
  taking_entry = (taking_waits, refl, refl)

  taking_past : past_at p st' q ≡ Took k ∷ past_at p st q
  unfolding after
  taking_past = past_own p st st' sound q (take_of (now (moves (past_at p st q))) k) step.entry

  taking_deeds : claims (deeds (Took k ∷ past_at p st q)) ≡ claims (deeds (past_at p st q)) ++ k ∷ []
  unfolding deeds
  taking_deeds = claims-joined (deeds (past_at p st q)) (record { task = k.task; sem = k.sem; deed = Gets k.no } ∷ [])

  sound-taking : IsSound p st'
  sound-taking = record {
    legal = legal_now p st st' sound q (take_of (now (moves (past_at p st q))) k) step.entry taking_entry;
    part = part_now p st st' sound q (take_of (now (moves (past_at p st q))) k) step.entry taking_entry;
    seen = λ r. by_number (λ x. HasSeen (part_group p x) x st'.books (past_at p st' x)) r q
        (subst (HasSeen (part_group p q) q st'.books) (sym taking_past)
        (seen-same (part_group p q) q st.books st'.books (Took k ∷ past_at p st q) (Took k ∷ past_at p st q)
        (seen-took (part_group p q) q st.books (past_at p st q) (sound.part q).known (sound.seen q) k taking_home taking_there taking_fresh) refl step.books_same))
        (λ h. subst (HasSeen (part_group p r) r st'.books) (sym (past_other p st st' sound q (take_of (now (moves (past_at p st q))) k) step.entry r h))
        (seen-same (part_group p r) r st.books st'.books (past_at p st r) (past_at p st r) (sound.seen r) refl step.books_same));
    posted = λ r i s. ap (of_sem s) (step.posted_same r i) ∙ sound.posted r i s ∙ ap (given_from (part_group p r) r i s 0) (sym (step.books_same s));
    begun = λ r i. by_number (λ x. (more : List Claim) × (st'.posted r x ≡ by_poster r (st'.taken x) ++ more)) i q
        (by_number (λ x. (more : List Claim) × (st'.posted x q ≡ by_poster x (st'.taken q) ++ more)) r from (
          rest,
          step.posted_same from q ∙ step.next ∙ sym (append_assoc (by_poster from (st.taken q)) (k ∷ []) rest)
              ∙ ap (λ (c : Bool). (by_poster from (st.taken q) ++ (if c then k ∷ [] else [])) ++ rest) (sym (equal_self from))
              ∙ ap (λ (l : List Claim). l ++ rest) (sym (ap (by_poster from) step.takes ∙ poster-push from (st.taken q) (record { from = from; claim = k }))),
        )
        (λ h. (
          (sound.begun r q).0,
          step.posted_same r q ∙ (sound.begun r q).1
              ∙ ap (λ (l : List Claim). l ++ (sound.begun r q).0) (sym (ap (by_poster r) step.takes ∙ poster-push r (st.taken q) (record { from = from; claim = k })
              ∙ ap (λ (c : Bool). by_poster r (st.taken q) ++ (if c then k ∷ [] else [])) (turned from r ∙ h) ∙ append-nil (by_poster r (st.taken q)))),
        )))
        (λ h. ((sound.begun r i).0, step.posted_same r i ∙ (sound.begun r i).1 ∙ ap (λ (l : List TakenGrant). by_poster r l ++ (sound.begun r i).0) (sym (step.taken_others i h))));
    claims_are = λ r. by_number (λ x. claims (deeds (past_at p st' x)) ≡ claims_of (st'.taken x)) r q
        (ap (λ (x : PartPast). claims (deeds x)) taking_past ∙ taking_deeds ∙ ap (λ (l : List Claim). l ++ k ∷ []) (sound.claims_are q)
        ∙ sym (map-append (λ (x : TakenGrant). x.claim) (st.taken q) (record { from = from; claim = k } ∷ [])) ∙ ap claims_of (sym step.takes))
        (λ h. ap (λ (x : PartPast). claims (deeds x)) (past_other p st st' sound q (take_of (now (moves (past_at p st q))) k) step.entry r h) ∙ sound.claims_are r ∙ ap claims_of (sym (step.taken_others r h)));
  }

-- at the opening
sound-opened : (p : Parts) (st : SplitState) → IsOpening p st → IsSound p st
unfolding past_of past_from deeds
sound-opened p st o = record {
  legal = λ q. subst (IsLegalFrom (part_group p q) q []) (sym (o.history q)) tt;
  part = λ q. subst (λ (l : List SplitEntry). IsPartPast (part_group p q) q (past_from (part_group p q) q [] l)) (sym (o.history q)) (part-opening (part_group p q) q);
  seen = λ q. subst (λ (l : List SplitEntry). HasSeen (part_group p q) q st.books (past_from (part_group p q) q [] l)) (sym (o.history q)) (seen-none q);
  posted = λ q r s. ap (of_sem s) (o.posted q r) ∙ ap (given_from (part_group p q) q r s 0) (sym (o.books s));
  begun = λ q r. ([], o.posted q r ∙ ap (λ (l : List TakenGrant). by_poster q l ++ []) (sym (o.taken r)));
  claims_are = λ q. ap (λ (l : List SplitEntry). claims (deeds (past_from (part_group p q) q [] l))) (o.history q) ∙ none ∙ ap claims_of (sym (o.taken q));
}
  where
    none : claims (deeds []) ≡ []
    none = refl

    seen-none : (q : ℕ) → HasSeen (part_group p q) q st.books []
    seen-none q = record {
      books_legal = λ s. subst (IsLegalSem (part_group p q) s) (sym (o.books s)) tt;
      did = λ s. ap (λ (l : List SemEntry). map (told s) (own q l)) (o.books s);
      tales = λ t s home. record { more = []; parts = ap (tale_from t 0) (o.books s); grants = refl };
    }

pub run-sound : (p : Parts) (st : SplitState) → IsRun p st → IsSound p st
run-sound p st (opened o) = sound-opened p st o
run-sound p st (alone {st = before} q e run step) = sound-alone p before st (run-sound p before run) q e step
run-sound p st (acting {st = before} q s b e run step) = sound-acting p before st (run-sound p before run) q s b e step
run-sound p st (taking {st = before} q from k rest run step) = sound-taking p before st (run-sound p before run) q from k rest step

-- who holds a semaphore by its partition holds it by the semaphore's history
pub part-holds : (p : Parts) (st : SplitState) → IsSound p st → (s q t : ℕ) → holding t (past_at p st q) ≡ Some s → (sem_state (part_group p q) s (st.books s)).holder ≡ Some t
part-holds p st sound s q t h = may_release (part_group p q) q st.books (past_at p st q) (sound.part q).known (sound.seen q) t s (at_home (seat_of (part_group p q) t == q) refl) h
  where
    at_home : (b : Bool) → seat_of (part_group p q) t == q ≡ b → seat_of (part_group p q) t ≡ q
    at_home true k = eqb-true (seat_of (part_group p q) t) q k
    at_home false k = absurd (none-some (sym ((sound.part q).known.home t k).0 ∙ h))

pub sound-plays : (p : Parts) (st : SplitState) → IsSound p st → IsSplitPlay p st
sound-plays p st sound = record {
  books_legal = λ s. same-legal p (group_no p 0) 0 s (st.books s) ((sound.seen 0).books_legal s);
  parts_legal = sound.legal;
  match = λ q. seen-matches (part_group p q) q st.books (past_at p st q) (sound.part q).known (sound.seen q);
  one_holder = λ s q r t u h k.
      some-same (sym (part-holds p st sound s q t h) ∙ same-holder p (group_no p q) (group_no p r) s (st.books s) ∙ part-holds p st sound s r u k);
}

pub runs_are_plays : RunsArePlays
runs_are_plays p st run = sound-plays p st (run-sound p st run)

pub grants_are_taken : GrantsAreTaken
grants_are_taken p st run all s n u h =
    let sound = run-sound p st run in
    let z = posted-there (group_with p 0) st.books st.posted (λ q. same-posted p (group_no p q) 0 q st.books (st.posted q) (sound.posted q)) s n u h in
    let q = seat_of (group_with p 0) u in
    let k : Claim = record { sem = s; no = n; task = u } in
    subst (Among k) (sym (sound.claims_are q)) (poster-taken z.0 k (st.taken q) (subst (Among k) (all z.0 q) z.1))

-- a partition at the opening
pub opened_part : OpenedPart
unfolding deeds
opened_part g q books posted none nothing = record {
  part = part-opening g q;
  seen = record {
    books_legal = λ s. subst (IsLegalSem g s) (sym (none s)) tt;
    did = λ s. ap (λ (l : List SemEntry). map (told s) (own q l)) (none s);
    tales = λ t s home. record { more = []; parts = ap (tale_from t 0) (none s); grants = refl };
  };
  posted_none = λ r s. ap (of_sem s) (nothing r) ∙ ap (given_from g q r s 0) (sym (none s));
}

pub entry_joins : EntryJoins
unfolding past_of
entry_joins g q es e legal answered = record { legal = legal-push g q es e [] legal answered; past_is = past-push g q es e }
