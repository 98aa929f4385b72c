-- What a step of the script leaves of what was posted and what was taken.
use Rattle.std.proofs.Common.{◌≡◌, ◌⊎◌, inl, inr, ℕ, ◌<◌, List, [], ◌∷◌, ◌++◌, length, Option, None, Some, refl, sym, ap, ◌∙◌, subst, append-nil, arith, length-append}
use Rattle.std.specs.Prelude.{◌==◌, if◌then◌else◌, option_map, slice_get}
use Rattle.rt_base.specs.declared.Ask.TheVariants as asks
use Rattle.rt_base.specs.declared.SemNo.{SemNo}
use Rattle.rt_task.specs.declared.Act.{Act}
use Rattle.rt_task.specs.declared.Act.TheVariants as acts
use Rattle.rt_task.specs.declared.Op.TheVariants as ops
use Rattle.rt_rules.specs.declared.history.Reply.{Reply}
use Rattle.rt_rules.specs.declared.history.Reply.TheVariants as replies
use Rattle.rt_task.specs.declared.Parts.{Parts}
use Rattle.rt_rules.proofs.MemberLaws.{equal_self}
use Rattle.rt_model.specs.Group.{Group}
use Rattle.rt_model.specs.Runs.{runs}
use Rattle.split_rules.specs.Matching.{Books, claims, granted_by}
use Rattle.split_rules.specs.PartAnswers.{part_act}
use Rattle.split_rules.specs.PartHistories.{after, after_entry, past_of}
use Rattle.split_rules.specs.PartPast.{Asks, Claim, Frees, PartPast, TaskDeed, deed_of, deeds, moves, with_deed}
use Rattle.split_rules.specs.Partitions.{part_group}
use Rattle.split_rules.specs.SemHistories.{seat_of}
use Rattle.split_rules.specs.declared.SemEntry.{SemEntry}
use Rattle.split_rules.specs.declared.SplitAct.{SplitAct}
use Rattle.split_rules.specs.declared.SplitAct.TheVariants as split
use Rattle.split_rules.specs.declared.SplitEntry.{SplitEntry}
use Rattle.split_laws.specs.Parts.{Among, IsActIn}
use Rattle.split_laws.specs.Posts.{HasPosted, cpu_at, cpu_in, given, given_to, of_sem}
use Rattle.split_laws.proofs.PostLaws.{posted-acted, posted-below, posted-grown}
use Rattle.split_laws.proofs.RunLists.{by_number, claims-joined}
use Rattle.split_laws.proofs.StepLaws.{past-push, some-same}
use Rattle.split_counts.proofs.RoomLaws.{posts_have_room}
use Rattle.split_counts.specs.Room.{is_unlock}
use Rattle.split_laws.specs.Counts.{count_steps}
use Rattle.part_player.specs.Players.{own_script}
use Rattle.part_seat.specs.AtTurns.{HasActed, HasPlayed, claim_passed}
use Rattle.part_seat.specs.Partitions.{PartOf, books_in, group_of, past_at}
use Rattle.part_seat.specs.PartSeats.{IsPartition, passed_to}
use Rattle.part_seat.specs.declared.passed.Passed.{Passed}
use Rattle.part_seat.specs.declared.passed.PlayedStep.{PlayedStep}
use Rattle.part_seat.proofs.TakeLaws.{get-later, grown-cpu}

-- ---- a step of the script takes no grant

module _ (ds : List TaskDeed) where
  one : (d : TaskDeed) → claims (d ∷ []) ≡ [] → claims (ds ++ d ∷ []) ≡ claims ds
  one d e = claims-joined ds (d ∷ []) ∙ ap (λ l. claims ds ++ l) e ∙ append-nil (claims ds)

  lock-claims : (s : SemNo) (reply : Reply) (o : Option ℕ) → claims (with_deed ds (deed_of (acts.Do (ops.Lock s)) reply o)) ≡ claims ds
  lock-claims s replies.Granted (Some t) = one (record { task = t; sem = s.0; deed = Asks asks.Granted }) refl
  lock-claims s replies.Queued (Some t) = one (record { task = t; sem = s.0; deed = Asks asks.Queued }) refl
  lock-claims s _ o = refl

  unlock-claims : (s : SemNo) (reply : Reply) (o : Option ℕ) → claims (with_deed ds (deed_of (acts.Do (ops.Unlock s)) reply o)) ≡ claims ds
  unlock-claims s replies.Done (Some t) = one (record { task = t; sem = s.0; deed = Frees }) refl
  unlock-claims s _ o = refl

  plain-claims : (act : Act) (reply : Reply) (o : Option ℕ) → claims (with_deed ds (deed_of act reply o)) ≡ claims ds
  plain-claims acts.Tick reply o = refl
  plain-claims acts.Irq reply o = refl
  plain-claims (acts.Arrive t) reply o = refl
  plain-claims (acts.Do (ops.Lock s)) reply o = lock-claims s reply o
  plain-claims (acts.Do (ops.Unlock s)) reply o = unlock-claims s reply o
  plain-claims (acts.Do ops.Work) reply o = refl
  plain-claims (acts.Do (ops.Sleep n)) reply o = refl
  plain-claims (acts.Do ops.NpOn) reply o = refl
  plain-claims (acts.Do ops.NpOff) reply o = refl
  plain-claims (acts.Do ops.End) reply o = refl

pub entry-claims : (g : Group) (q : ℕ) (es : List SplitEntry) (e : SplitEntry) (act : Act) → e.act ≡ split.Plain act
    → claims (deeds (past_of g q (es ++ e ∷ []))) ≡ claims (deeds (past_of g q es))
unfolding after deeds part_act runs
entry-claims g q es e act k =
    ap (λ (p : PartPast). claims (deeds p)) (past-push g q es e)
    ∙ ap (λ (x : SplitAct). claims (deeds (after_entry g q x e (past_of g q es)))) k
    ∙ plain-claims (deeds (past_of g q es)) act e.reply (runs q (moves (past_of g q es)))

-- ---- what an entry gives is what its release passes on

abbrev pub sent : Group → ℕ → Option Passed → List Claim
sent g r None = []
sent g r (Some c) = passed_to g r c

sent-to : (g : Group) (r s n : ℕ) (o : Option Passed) (u : Option ℕ) → option_map claim_passed o ≡ option_map (λ t. record { sem = s; no = n; task = t }) u → given_to g r s n u ≡ sent g r o
sent-to g r s n None None e = refl
sent-to g r s n None (Some u) e = cc
sent-to g r s n (Some c) None e = cc
sent-to g r s n (Some c) (Some u) e = ap (λ (k : Claim). if seat_of g k.task == r then k ∷ [] else []) (sym (some-same e))

given-sent : (g : Group) (q r s n : ℕ) (e : SemEntry) (o : Option Passed) → e.cpu.0 ≡ q
    → option_map claim_passed o ≡ option_map (λ t. record { sem = s; no = n; task = t }) (granted_by e.act) → given g q r s n e ≡ sent g r o
given-sent g q r s n e o cpu same =
    ap (λ b. if b then given_to g r s n (granted_by e.act) else []) (ap (λ m. m == q) cpu ∙ equal_self q) ∙ sent-to g r s n o (granted_by e.act) same

position-is : (s n : ℕ) (o : Option Passed) (u : Option ℕ) → option_map claim_passed o ≡ option_map (λ t. record { sem = s; no = n; task = t }) u → (c : Passed) → o ≡ Some c
    → (c.sem.0 ≡ s) × (c.no ≡ n)
position-is s n o None e c some = let f : option_map claim_passed o ≡ Some (claim_passed c) = ap (option_map claim_passed) some in cc
position-is s n o (Some u) e c some =
    let f : claim_passed c ≡ record { sem = s; no = n; task = u } = some-same (sym (ap (option_map claim_passed) some) ∙ e) in
    (ap (λ (k : Claim). k.sem) f, ap (λ (k : Claim). k.no) f)

-- ---- a step that was played

acted-cpu : (q s : ℕ) (b : SemEntry) (books books' : Books) → IsActIn q s b books books' → (r n m : ℕ) → cpu_at (books r) n ≡ Some m → cpu_at (books' r) n ≡ Some m
acted-cpu q s b books books' act r n m h =
    by_number (λ x. cpu_at (books x) n ≡ Some m → cpu_at (books' x) n ≡ Some m) r s (λ k. by_entry (slice_get (books s) n) refl k) (λ other k. ap (λ l. cpu_at l n) (act.others r other) ∙ k) h
  where
    by_entry : (o : Option SemEntry) → slice_get (books s) n ≡ o → cpu_in o ≡ Some m → cpu_at (books' s) n ≡ Some m
    by_entry None e k = cc
    by_entry (Some x) e k = ap (λ l. cpu_at l n) act.at ∙ ap cpu_in (get-later (books s) (b ∷ []) n x e) ∙ k

module _ (a a' : PartOf) (r : PlayedStep) (played : HasPlayed a a' r) where
  pub play-claims : claims (deeds (past_at a')) ≡ claims (deeds (past_at a))
  play-claims =
      ap (λ (es : List SplitEntry). claims (deeds (past_of (group_of a') a'.cpu es))) played.entries
      ∙ ap (λ (p : Parts). claims (deeds (past_of (part_group p a'.cpu) a'.cpu (a.entries ++ r.entry ∷ [])))) played.same.setup
      ∙ ap (λ q. claims (deeds (past_of (part_group a.setup q) q (a.entries ++ r.entry ∷ [])))) played.same.cpu
      ∙ entry-claims (group_of a) a.cpu a.entries r.entry played.plain.0 played.plain.1

  pub play-kept : (s n q : ℕ) → cpu_at (books_in a.seats s) n ≡ Some q → cpu_at (books_in a'.seats s) n ≡ Some q
  play-kept s n q h = by_acts played.acts
    where
      by_acts : ((books_in a'.seats ≡ books_in a.seats) × (r.passed ≡ None)) ⊎ HasActed a.cpu (books_in a.seats) (books_in a'.seats) r.passed → cpu_at (books_in a'.seats s) n ≡ Some q
      by_acts (inl same) = ap (λ (b : Books). cpu_at (b s) n) same.0 ∙ h
      by_acts (inr act) = acted-cpu a.cpu act.sem act.entry act.found (books_in a'.seats) act.act s n q (grown-cpu a.cpu (books_in a.seats) act.found act.grown s n q h)

  module _ (posted : ℕ → List Claim) (has : HasPosted (group_of a) a.cpu (books_in a.seats) posted) where
    pub play-posted : (posted' : ℕ → List Claim) → ((i : ℕ) → posted' i ≡ posted i ++ sent (group_of a) i r.passed) → HasPosted (group_of a) a.cpu (books_in a'.seats) posted'
    play-posted posted' sends = by_acts played.acts
      where
        by_acts : ((books_in a'.seats ≡ books_in a.seats) × (r.passed ≡ None)) ⊎ HasActed a.cpu (books_in a.seats) (books_in a'.seats) r.passed → HasPosted (group_of a) a.cpu (books_in a'.seats) posted'
        by_acts (inl same) =
            let none : (i : ℕ) → posted' i ≡ posted i = λ i. sends i ∙ ap (λ o. posted i ++ sent (group_of a) i o) same.1 ∙ append-nil (posted i) in
            subst (λ (b : Books). HasPosted (group_of a) a.cpu b posted') (sym same.0) (λ i s. ap (of_sem s) (none i) ∙ has i s)
        by_acts (inr act) =
            posted-acted (group_of a) a.cpu act.sem act.entry act.found (books_in a'.seats) posted posted' (posted-grown (group_of a) a.cpu (books_in a.seats) act.found posted has act.grown) act.act
            (λ i. sends i ∙ ap (λ l. posted i ++ l) (sym (given-sent (group_of a) a.cpu i act.sem (length (act.found act.sem)) act.entry r.passed act.act.own_cpu act.passes)))

    pub play-quota : IsPartition a → (c : Passed) → r.passed ≡ Some c → (i : ℕ) → length (posted i) < count_steps is_unlock (own_script a.setup a.cpu)
    play-quota kept c some i =
        let next = (played.passed c some).1 in
        posts_have_room (group_of a) a.cpu i (books_in a.seats) posted a.entries (own_script a.setup a.cpu) next.step kept.meeting.seen has next.next next.unlocks

    pub play-rises : (c : Passed) → r.passed ≡ Some c → (i : ℕ) (k : Claim) → Among k (posted i) → k.sem ≡ c.sem.0 → k.no < c.no
    play-rises c some i k m same = by_acts played.acts
      where
        by_acts : ((books_in a'.seats ≡ books_in a.seats) × (r.passed ≡ None)) ⊎ HasActed a.cpu (books_in a.seats) (books_in a'.seats) r.passed → k.no < c.no
        by_acts (inl none) = let e = none.1 in cc
        by_acts (inr act) =
            let below = posted-below (group_of a) a.cpu (books_in a.seats) posted has i k m in
            let is = position-is act.sem (length (act.found act.sem)) r.passed (granted_by act.entry.act) act.passes c some in
            let sem : k.sem ≡ act.sem = same ∙ is.0 in
            let grew = ap length (act.grown.later act.sem).1 in
            let more = length-append (books_in a.seats act.sem) (act.grown.later act.sem).0 in
            let here = ap (λ s. length (books_in a.seats s)) sem in
            let no_is = is.1 in
            omega (arith, below, grew, more, here, no_is)
