-- What a partition has seen, after each entry of its own.
use Rattle.std.proofs.Common.{◌≡◌, ℕ, suc, List, [], ◌∷◌, ◌++◌, length, map, Option, None, Some, refl, sym, ap, ◌∙◌, subst, arith, length-append}
use Rattle.std.specs.Prelude.{◌==◌, if◌then◌else◌}
use Rattle.rt_base.specs.declared.Ask.{Ask}
use Rattle.rt_task.specs.declared.Act.{Act}
use Rattle.rt_task.specs.declared.Parts.{Parts}
use Rattle.rt_task.specs.declared.Protocol.{Protocol}
use Rattle.rt_task.specs.declared.Protocol.TheVariants as protocols
use Rattle.rt_rules.specs.declared.history.Reply.{Reply}
use Rattle.rt_rules.specs.Numbers.{has}
use Rattle.rt_rules.specs.Mpcp.{passed_on}
use Rattle.rt_rules.specs.SemState.{SemState}
use Rattle.rt_model.specs.BaseKeys.{above, base_key, key_by}
use Rattle.rt_model.specs.Group.{Group, first_cpu, home, protocol, sem, task, resv, served_by}
use Rattle.rt_model.specs.Jobs.{done}
use Rattle.rt_model.specs.Past.{Acted, Clock}
use Rattle.rt_model.specs.Releases.{arrivals, deadline, release, release_by}
use Rattle.rt_model.specs.Runs.{runs}
use Rattle.rt_plays.specs.Plays.{group_with}
use Rattle.split_rules.specs.Matching.{Books, deed_told, done_at, granted_by, own, told}
use Rattle.split_rules.specs.PartAnswers.{answer, part_act}
use Rattle.split_rules.specs.PartHistories.{IsEntryAt, IsEntryBy, after, after_entry, past_from, past_of}
use Rattle.split_rules.specs.PartHistories as parts
use Rattle.split_rules.specs.PartPast.{Claim, Gets, Moved, PartEvent, PartPast, TaskDeed, deed_in, deed_of, deeds, moves, with_deed}
use Rattle.split_rules.specs.PartSems.{awaiting, holding}
use Rattle.split_rules.specs.SemHistories.{IsActAt, IsAskAt, IsLegalFrom, IsLegalSem, IsReleaseAt, after_act, next_by, nobody, seat_of, sem_state, state_from}
use Rattle.split_rules.specs.SemHistories as sems
use Rattle.split_rules.specs.declared.SemAct.{SemAct}
use Rattle.split_rules.specs.declared.SemAct.TheVariants as acts
use Rattle.split_rules.specs.declared.SemEntry.{SemEntry}
use Rattle.split_rules.specs.declared.SplitAct.{SplitAct}
use Rattle.split_rules.specs.declared.SplitAct.TheVariants as split
use Rattle.split_rules.specs.declared.SplitEntry.{SplitEntry}
use Rattle.split_laws.proofs.ActLaws.{seen-acted}
use Rattle.split_laws.proofs.EntryLaws.{act-deed, part-clock}
use Rattle.split_laws.proofs.KnownLaws.{IsDeedOk, Suits}
use Rattle.split_laws.proofs.SeenLaws.{may_ask, may_release}
use Rattle.split_laws.specs.Parts.{HasSeen, IsActIn, IsBehind, IsKnown, IsPartPast, IsSeat}
use Rattle.split_laws.specs.Posts.{HasPosted, given, given_from, given_to}
use Rattle.split_laws.specs.Runs.{IsOutcome}
use Rattle.split_laws.specs.Tales.{tale_from, tale_in}

-- histories joined
pub past-joined : (g : Group) (q : ℕ) (xs ys : List SplitEntry) (past : PartPast) → past_from g q past (xs ++ ys) ≡ past_from g q (past_from g q past xs) ys
unfolding past_from
past-joined g q [] ys past = refl
past-joined g q (x ∷ xs) ys past = past-joined g q xs ys (after g q x past)

pub past-push : (g : Group) (q : ℕ) (es : List SplitEntry) (e : SplitEntry) → past_of g q (es ++ e ∷ []) ≡ after g q e (past_of g q es)
unfolding past_of past_from
past-push g q es e = past-joined g q es (e ∷ []) []

pub legal-push : (g : Group) (q : ℕ) (xs : List SplitEntry) (e : SplitEntry) (past : PartPast) → parts.IsLegalFrom g q past xs → IsEntryAt g q (past_from g q past xs) e → parts.IsLegalFrom g q past (xs ++ e ∷ [])
unfolding past_from
legal-push g q [] e past h k = (k, tt)
legal-push g q (x ∷ xs) e past h k = (h.0, legal-push g q xs e (after g q x past) h.1 k)

pub sem-push : (g : Group) (p : Protocol) (xs : List SemEntry) (e : SemEntry) (l : SemState) → IsLegalFrom g p l xs → sems.IsEntryAt g p (state_from g p l xs) e → IsLegalFrom g p l (xs ++ e ∷ [])
sem-push g p [] e l h k = (k, tt)
sem-push g p (x ∷ xs) e l h k = (h.0, sem-push g p xs e (after_act g p x.task.0 x.act l) h.1 k)

-- the groups of one set have the same semaphores and the same tasks
pub same-seat : (p : Parts) (m n t : ℕ) → seat_of (group_with p m) t ≡ seat_of (group_with p n) t
unfolding seat_of home task first_cpu
same-seat p m n t = refl

same-next : (p : Parts) (m n : ℕ) (x : Protocol) (ts : List ℕ) → next_by (group_with p m) x ts ≡ next_by (group_with p n) x ts
unfolding next_by above base_key key_by task resv served_by deadline release release_by done arrivals
same-next p m n protocols.Mpcp ts = refl
same-next p m n protocols.Fmlp ts = refl
same-next p m n protocols.Omlp ts = refl
same-next p m n protocols.Pcp ts = refl
same-next p m n protocols.Srp ts = refl

module _ (p : Parts) (m n : ℕ) where
  same-after : (x : Protocol) (t : ℕ) (a : SemAct) (l : SemState) → after_act (group_with p m) x t a l ≡ after_act (group_with p n) x t a l
  same-after x t (acts.Ask a) l = refl
  same-after x t (acts.Release o) l = ap (λ (u : Option ℕ). passed_on u l.waiting) (same-next p m n x l.waiting)

  same-act : (x : Protocol) (t : ℕ) (a : SemAct) (l : SemState) → IsActAt (group_with p m) x t a l → IsActAt (group_with p n) x t a l
  same-act x t (acts.Ask a) l h = record { free_hands = h.free_hands; outside = h.outside; answer = h.answer }
  same-act x t (acts.Release o) l h = record { holds = h.holds; next = h.next ∙ same-next p m n x l.waiting }

  same-from : (x : Protocol) (es : List SemEntry) (l : SemState) → IsLegalFrom (group_with p m) x l es → IsLegalFrom (group_with p n) x l es
  same-from x [] l h = tt
  same-from x (e ∷ es) l h = (
    record { at_home = h.0.at_home ∙ same-seat p m n e.task.0; act = same-act x e.task.0 e.act l h.0.act },
    subst (λ (k : SemState). IsLegalFrom (group_with p n) x k es) (same-after x e.task.0 e.act l) (same-from x es (after_act (group_with p m) x e.task.0 e.act l) h.1),
  )

  same-protocol : (s : ℕ) → protocol (group_with p m) s ≡ protocol (group_with p n) s
  unfolding protocol sem
  same-protocol s = refl

  pub same-legal : (s : ℕ) (es : List SemEntry) → IsLegalSem (group_with p m) s es → IsLegalSem (group_with p n) s es
  same-legal s es h = subst (λ (x : Protocol). IsLegalFrom (group_with p n) x nobody es) (same-protocol s) (same-from (protocol (group_with p m) s) es nobody h)

  same-state : (x : Protocol) (es : List SemEntry) (l : SemState) → state_from (group_with p m) x l es ≡ state_from (group_with p n) x l es
  same-state x [] l = refl
  same-state x (e ∷ es) l = same-state x es (after_act (group_with p m) x e.task.0 e.act l) ∙ ap (λ (k : SemState). state_from (group_with p n) x k es) (same-after x e.task.0 e.act l)

  pub same-holder : (s : ℕ) (es : List SemEntry) → (sem_state (group_with p m) s es).holder ≡ (sem_state (group_with p n) s es).holder
  same-holder s es = ap (λ (k : SemState). k.holder) (same-state (protocol (group_with p m) s) es nobody ∙ ap (λ (x : Protocol). state_from (group_with p n) x nobody es) (same-protocol s))

  same-given : (q r s i : ℕ) (es : List SemEntry) → given_from (group_with p m) q r s i es ≡ given_from (group_with p n) q r s i es
  same-given q r s i [] = refl
  same-given q r s i (e ∷ es) = ap (λ (l : List Claim). given (group_with p m) q r s i e ++ l) (same-given q r s (suc i) es) ∙ ap (λ (l : List Claim). l ++ given_from (group_with p n) q r s (suc i) es) one
    where
      to : (o : Option ℕ) → given_to (group_with p m) r s i o ≡ given_to (group_with p n) r s i o
      to None = refl
      to (Some u) = ap (λ (x : ℕ). if x == r then record { sem = s; no = i; task = u } ∷ [] else []) (same-seat p m n u)

      one : given (group_with p m) q r s i e ≡ given (group_with p n) q r s i e
      one = ap (λ (l : List Claim). if e.cpu.0 == q then l else []) (to (granted_by e.act))

  pub same-posted : (q : ℕ) (books : Books) (posted : ℕ → List Claim) → HasPosted (group_with p m) q books posted → HasPosted (group_with p n) q books posted
  same-posted q books posted has r s = has r s ∙ same-given q r s 0 (books s)

-- what was seen, where the deeds and the histories are the same
pub seen-same : (g : Group) (q : ℕ) (books books' : Books) (past past' : PartPast) → HasSeen g q books past → deeds past' ≡ deeds past → ((s : ℕ) → books' s ≡ books s) → HasSeen g q books' past'
seen-same g q books books' past past' seen same books_same = record {
  books_legal = λ s. subst (IsLegalSem g s) (sym (books_same s)) (seen.books_legal s);
  did = λ s. ap (λ (l : List SemEntry). map (told s) (own q l)) (books_same s) ∙ seen.did s ∙ ap (done_at s) (sym same);
  tales = λ t s home. subst (λ (l : List SemEntry). IsBehind (tale_from t 0 l) (tale_in t s (deeds past'))) (sym (books_same s))
      (subst (λ (l : List TaskDeed). IsBehind (tale_from t 0 (books s)) (tale_in t s l)) (sym same) (seen.tales t s home));
}

-- one deed more
one-more : (ds : List TaskDeed) (o : Option TaskDeed) (d : TaskDeed) → with_deed ds o ≡ ds ++ d ∷ [] → o ≡ Some d
one-more ds None d h = absurd (let k = ap length h in omega (arith, k, length-append ds (d ∷ [])))
one-more ds (Some x) d h = ap Some (last ds h)
  where
    last : (ds : List TaskDeed) → ds ++ x ∷ [] ≡ ds ++ d ∷ [] → x ≡ d
    last [] h = cc
    last (y ∷ ds) h = last ds (cc)

-- an act at a semaphore is a step of the script
abbrev got_deed : ℕ → ℕ → ℕ → TaskDeed
got_deed t r n = record { task = t; sem = r; deed = Gets n }

pub some-same : {A : Type 0} {x y : A} → Some x ≡ Some y → x ≡ y
some-same h = cc

got-differs : (n : ℕ) (x : SemAct) → Gets n ≡ deed_told x → ⊥
got-differs n (acts.Ask a) k = cc
got-differs n (acts.Release o) k = cc

not-taken : (s : ℕ) (b : SemEntry) (ds : List TaskDeed) (t r n : ℕ) → ds ++ got_deed t r n ∷ [] ≡ ds ++ told s b ∷ [] → ⊥
not-taken s b ds t r n h = got-differs n b.act (ap (λ (d : TaskDeed). d.deed) (some-same (one-more ds (Some (got_deed t r n)) (told s b) h)))

-- what an entry that acts at a semaphore shows
pub record ShowsAct (g : Group) (q s : ℕ) (b : SemEntry) (past : PartPast) (e : SplitEntry) : Type 0 where
  pub before : PartPast
  pub event : PartEvent
  pub after_is : after g q e past ≡ event ∷ before
  pub deed : deed_in event ≡ Some (told s b)
  pub same_deeds : deeds before ≡ deeds past
  pub known : IsKnown g q before
  pub ok : IsDeedOk g q before (told s b)
  pub ok_now : IsDeedOk g q past (told s b)

module _ (g : Group) (q : ℕ) (seat : IsSeat g q) (past : PartPast) (is : IsPartPast g q past) (s : ℕ) (b : SemEntry) (e : SplitEntry) where
  abbrev clocked : PartPast
  clocked = Moved (Clock e.tick.0) ∷ past

  plain-act : (act : Act) (a : Ask) → e.reply ≡ answer g q act a (Moved (Clock e.tick.0) ∷ past) → (o : Option TaskDeed)
      → deed_of act e.reply (runs q (moves past)) ≡ o → o ≡ Some (told s b) → IsDeedOk g q (Moved (Clock e.tick.0) ∷ past) (told s b)
  unfolding runs
  plain-act act a replied o is_o h =
      let clock_is = part-clock g q seat past is e.tick.0 in
      act-deed g q a (Moved (Clock e.tick.0) ∷ past) act (λ u k. (clock_is.runs_home u k, clock_is.runs_free u k)) (told s b)
      (ap (λ (r : Reply). deed_of act r (runs q (moves past))) (sym replied) ∙ is_o ∙ h)

  pub shows-act : IsEntryAt g q past e → deeds (after g q e past) ≡ deeds past ++ told s b ∷ [] → ShowsAct g q s b past e
  unfolding after deeds part_act awaiting holding runs
  shows-act h k = by_act e.act refl h k
    where
      by_act : (x : SplitAct) → e.act ≡ x → IsEntryBy g q x past e → deeds (after_entry g q x e past) ≡ deeds past ++ told s b ∷ [] → ShowsAct g q s b past e
      by_act (split.Take r n t) is_x h k = absurd (not-taken s b (deeds past) t.0 r.0 n k)
      by_act (split.Plain act) is_x h k =
          let o = deed_of act e.reply (runs q (moves past)) in
          let one : deed_of act e.reply (runs q (moves past)) ≡ Some (told s b) = one-more (deeds past) o (told s b) k in
          let ok = plain-act act h.0 h.1 o refl one in
          record {
            before = Moved (Clock e.tick.0) ∷ past;
            event = Moved (Acted (part_act g q act e.reply (Moved (Clock e.tick.0) ∷ past)));
            after_is = ap (λ (x : SplitAct). after_entry g q x e past) is_x;
            deed = one;
            same_deeds = refl;
            known = (part-clock g q seat past is e.tick.0).known;
            ok = ok;
            ok_now = record { home = ok.home; suits = ok.suits };
          }

  -- the outcome of an act at a semaphore that was seen makes its entry legal
  pub act-legal : (books : Books) → HasSeen g q books past → ShowsAct g q s b past e → b.cpu.0 ≡ q → IsOutcome g s b.act (sem_state g s (books s)) → IsLegalSem g s (books s ++ b ∷ [])
  act-legal books seen shown cpu out =
      sem-push g (protocol g s) (books s) b nobody (seen.books_legal s)
      (record { at_home = cpu ∙ sym shown.ok_now.home; act = by_act b.act shown.ok_now.suits out })
    where
      by_act : (x : SemAct) → Suits s (deed_told x) (holding b.task.0 past) (awaiting b.task.0 past) → IsOutcome g s x (sem_state g s (books s)) → IsActAt g (protocol g s) b.task.0 x (sem_state g s (books s))
      by_act (acts.Ask a) k o =
          let f = may_ask g q books past is.known seen b.task.0 s shown.ok_now.home k.0 k.1 in
          record { free_hands = f.0; outside = f.1; answer = o }
      by_act (acts.Release r) k o = record { holds = may_release g q books past is.known seen b.task.0 s shown.ok_now.home k.0; next = o }

  -- and its partition goes on seeing
  pub seen-act : (books books' : Books) → HasSeen g q books past → ShowsAct g q s b past e → IsActIn q s b books books' → ((r : ℕ) → IsLegalSem g r (books' r)) → HasSeen g q books' (after g q e past)
  seen-act books books' seen shown is_act legal =
      subst (HasSeen g q books') (sym shown.after_is)
      (seen-acted g q s b books books' shown.before shown.known (seen-same g q books books past shown.before seen shown.same_deeds (λ r. refl)) shown.ok is_act shown.event shown.deed legal)
