-- A partition's history is played again: what is kept is of the entries so far, and the links are the definition's.
use Rattle.std.proofs.Common.{◌≡◌, ℕ, suc, ◌+◌, ◌<◌, max, Bool, true, false, List, [], ◌∷◌, ◌++◌, length, take, get_or, Option, None, Some, refl, sym, ap, ◌∙◌, subst, arith}
use Rattle.std.proofs.Math.Seq.{take-suc}
use Rattle.std.proofs.lemmas.List.{map-append}
use Rattle.std.specs.Prelude.{not, ◌||◌, if◌then◌else◌, is_some}
use Rattle.rt_base.specs.TaskNos.{number_of_task, numbers_of_tasks}
use Rattle.rt_base.specs.declared.Ask.{Ask}
use Rattle.rt_base.specs.declared.Ask.TheVariants as asks
use Rattle.rt_base.specs.declared.TaskNo.{TaskNo}
use Rattle.rt_base.specs.declared.TheConstants.{TICK_END}
use Rattle.rt_task.specs.declared.Act.{Act}
use Rattle.rt_task.specs.declared.Act.TheVariants as acts
use Rattle.rt_task.specs.declared.Op.{Op}
use Rattle.rt_task.specs.declared.Op.TheVariants as ops
use Rattle.rt_task.specs.declared.Parts.{Parts}
use Rattle.rt_rules.specs.declared.history.Reply.{Reply}
use Rattle.rt_rules.specs.declared.history.Reply.TheVariants as replies
use Rattle.rt_rules.specs.Numbers.{has, same}
use Rattle.rt_model.specs.Answers.{last_work, link_reply, no_budget, work_answer}
use Rattle.rt_model.specs.Group.{Group, declares}
use Rattle.rt_model.specs.Past.{Clock, accepted, now}
use Rattle.rt_model.specs.Runs.{runs}
use Rattle.rt_laws.proofs.GroupLaws.{tasks_of-home}
use Rattle.group_jobs.specs.Facts.{CpuFacts}
use Rattle.group_jobs.proofs.KeptMoves.{task-range}
use Rattle.group_jobs.specs.GroupJobs.{is_op_reply}
use Rattle.mpcp_ceilings.specs.Ceilings.{AreCeilings, CeilingTable}
use Rattle.rt_plays.proofs.ProcessorLaws.{processors-below}
use Rattle.split_rules.specs.PartAnswers.{answer, asked, do_answer, end_answer, irq_answer, lock_answer, op_answer, unlock_answer}
use Rattle.split_rules.specs.PartHistories.{IsEntryBy, after, links_from, past_from, past_of}
use Rattle.split_rules.specs.PartLinks.{linked, part, pending}
use Rattle.split_rules.specs.PartLinks as own
use Rattle.split_rules.specs.PartPast.{Moved, PartPast, moves}
use Rattle.split_rules.specs.PartSems.{holding}
use Rattle.split_rules.specs.Partitions.{part_group}
use Rattle.split_rules.specs.declared.SplitAct.{SplitAct}
use Rattle.split_rules.specs.declared.SplitAct.TheVariants.{Plain, Take}
use Rattle.split_rules.specs.declared.SplitEntry.{SplitEntry}
use Rattle.split_laws.proofs.StepLaws.{past-push}
use Rattle.split_laws.proofs.UserLaws.{legal_past_has_users}
use Rattle.part_state.specs.Entries.{IsPlainGroup, after_entry}
use Rattle.part_state.specs.Reading.{HoldsKnown}
use Rattle.part_state.specs.Reads.{CanRead, link_in}
use Rattle.part_state.specs.States.{IsAt, PartState, opened, with_clock}
use Rattle.part_state.proofs.CanReadLaws.{can_be_read}
use Rattle.part_state.proofs.EntryLaws.{held_is_known, kept_after_entry}
use Rattle.part_state.proofs.KeptLaws.{kept_after_clock, kept_at_opening}
use Rattle.part_state.proofs.ReadLaws.{link_is_read}
use Rattle.split_writer.specs.PartPlays.{IsPartPlay, IsPartition}
use Rattle.split_writer.specs.inside.Replays.{CanAct, CanPlay, CanPlayBy, IsOpReply, IsReplyTo, is_irq_reply}
use Rattle.split_writer.proofs.Moments.{IsMoment, moment, next}
use Rattle.split_writer.proofs.Partitions.{boosts, cpu-count, inside, one, plain, seat}

-- ---- each reply is one that its act can have

abbrev is_fine : Reply → Bool
is_fine r = is_op_reply r || not (accepted r)

either-fine : (b : Bool) (x y : Reply) → is_fine x ≡ true → is_fine y ≡ true → is_fine (if b then x else y) ≡ true
either-fine true x y h k = h
either-fine false x y h k = k

asked-fine : (a : Ask) → is_fine (asked a) ≡ true
asked-fine asks.Granted = refl
asked-fine asks.Queued = refl

module _ (g : Group) (q : ℕ) (a : Ask) (past : PartPast) where
  op-fine : (op : Op) (t : ℕ) → IsOpReply op (op_answer g q op t a past)
  unfolding op_answer work_answer lock_answer unlock_answer end_answer
  op-fine ops.Work t =
      either-fine (same (last_work q (moves past)) (Some (now (moves past)))) replies.Spent _ refl
      (either-fine (no_budget g g.setup.plugin t (moves past)) replies.NoBudget replies.Done refl refl)
  op-fine (ops.Lock s) t =
      either-fine (not (declares g t s.0)) replies.NotDeclared _ refl (either-fine (is_some (holding t past)) replies.Nested (asked a) refl (asked-fine a))
  op-fine (ops.Unlock s) t = either-fine (same (holding t past) (Some s.0)) replies.Done replies.NotHeld refl refl
  op-fine (ops.Sleep n) t = refl
  op-fine ops.NpOn t = refl
  op-fine ops.NpOff t = refl
  op-fine ops.End t = either-fine (is_some (holding t past)) replies.Holding replies.Done refl refl

  idle-fine : (op : Op) → IsOpReply op replies.Idle
  idle-fine ops.Work = refl
  idle-fine (ops.Lock s) = refl
  idle-fine (ops.Unlock s) = refl
  idle-fine (ops.Sleep n) = refl
  idle-fine ops.NpOn = refl
  idle-fine ops.NpOff = refl
  idle-fine ops.End = refl

  do-fine : (op : Op) (o : Option ℕ) → IsOpReply op (do_answer g q op o a past)
  unfolding do_answer
  do-fine op None = idle-fine op
  do-fine op (Some t) = op-fine op t

  irq-fine : is_irq_reply (irq_answer g q past) ≡ true
  unfolding irq_answer link_reply
  irq-fine = by_case (pending g q past)
    where
      by_link : (o : Option ℕ) → is_irq_reply (link_reply g o) ≡ true
      by_link None = refl
      by_link (Some t) = refl

      by_case : (b : Bool) → is_irq_reply (if b then link_reply g (linked g q past) else replies.Quiet) ≡ true
      by_case true = by_link (linked g q past)
      by_case false = refl

  is-reply : (act : Act) → IsReplyTo act (answer g q act a past)
  unfolding answer
  is-reply acts.Tick = tt
  is-reply acts.Irq = irq-fine
  is-reply (acts.Arrive t) = refl
  is-reply (acts.Do op) = do-fine op (runs q (moves past))

-- ---- after the first entries

-- an entry, where a place of a list has none
abbrev pub no_entry : SplitEntry
no_entry = record { tick = record { 0 = 0 }; act = Plain acts.Tick; reply = replies.Done }

-- what is kept, and the links so far
pub record IsPlayed (p : Parts) (q : ℕ) (es : List SplitEntry) (s : PartState) (ls : List (Option TaskNo)) : Type 0 where
  pub at : IsAt (part_group p q) (past_of (part_group p q) q es) s
  pub links : numbers_of_tasks ls ≡ linked (part_group p q) q [] ∷ links_from (part_group p q) q [] es

module _ (p : Parts) (q : ℕ) (is : IsPartition p q) where
  in-limits : IsPlainGroup (part_group p q) q
  in-limits = record { inside = inside p q is; plain = λ t h. plain p q is t }

  module _ (c : CeilingTable) (ceilings : AreCeilings (part_group p q) c) where
    module _ (es : List SplitEntry) (m : IsMoment (part_group p q) q es) (s : PartState) (at : IsAt (part_group p q) (past_of (part_group p q) q es) s) where
      known : HoldsKnown (part_group p q) (past_of (part_group p q) q es)
      known = held_is_known (part_group p q) q es is.valid m.legal

      pub can-read : (ts : List ℕ) → ts ≡ own.tasks (part_group p q) q → (t : ℕ) → has t ts ≡ true → CanRead p s t
      unfolding own.tasks
      can-read ts all t h =
          can_be_read (part_group p q) t (past_of (part_group p q) q es) s is.valid m.few m.low known at
          (tasks_of-home (part_group p q) (part (part_group p q) q) t (subst (λ us. has t us ≡ true) all h)).0

      pub link-is : (ts : List ℕ) → ts ≡ own.tasks (part_group p q) q → link_in p c s ts ≡ linked (part_group p q) q (past_of (part_group p q) q es)
      link-is ts all =
          ap (link_in p c s) all
          ∙ link_is_read (part_group p q) q (past_of (part_group p q) q es) c s (seat p q is) (one p q is) (record { boost = boosts p q is; ceilings = ceilings; known = known }) at

module _ (p : Parts) (q : ℕ) (es : List SplitEntry) (is : IsPartition p q) (play : IsPartPlay p q es) where
  abbrev past-at : ℕ → PartPast
  past-at i = past_of (part_group p q) q (take i es)

  past-next : (i : ℕ) (d : SplitEntry) → i < length es → past-at (i + 1) ≡ after (part_group p q) q (get_or es i d) (past-at i)
  past-next i d low = let e : i + 1 ≡ suc i = omega arith in rw (e, take-suc es i d low) (past-push (part_group p q) q (take i es) (get_or es i d))

  clock-next : (i : ℕ) (d : SplitEntry) → i < length es → now (moves (after (part_group p q) q (get_or es i d) (past-at i))) < TICK_END
  clock-next i d low = subst (λ (x : PartPast). now (moves x) < TICK_END) (past-next i d low) (moment p q es is play (i + 1)).low

  -- an entry can be played
  module _ (i : ℕ) (s : PartState) (at : IsAt (part_group p q) (past-at i) s) where
    can-act : (act : Act) (tick : ℕ) (a : Ask) (reply : Reply) → max (now (moves (past-at i))) tick < TICK_END
        → reply ≡ answer (part_group p q) q act a (Moved (Clock tick) ∷ past-at i) → CanAct p.tasks q act reply (with_clock tick s)
    unfolding runs holding
    can-act act tick a reply low is_answer =
        let m = moment p q es is play i in
        let past : PartPast = Moved (Clock tick) ∷ past-at i in
        let now_at : IsAt (part_group p q) past (with_clock tick s) = kept_after_clock (part_group p q) tick (past-at i) s at in
        let users = legal_past_has_users (part_group p q) q (take i es) m.legal in
        record {
          cpu = now_at.kept.cpus_room q (inside p q is);
          runs = λ t h.
              (can_be_read (part_group p q) t past (with_clock tick s) is.valid m.few low (held_is_known (part_group p q) q (take i es) is.valid m.legal) now_at
              (users.runs_in t (sym (ap (λ (x : CpuFacts). x.runs) (now_at.kept.cpus_are q (inside p q is))) ∙ h))).task;
          answered = rw is_answer (is-reply (part_group p q) q a past act);
        }

    can-by : (x : SplitAct) (e : SplitEntry) → e.act ≡ x → now (moves (after (part_group p q) q e (past-at i))) < TICK_END → IsEntryBy (part_group p q) q x (past-at i) e → CanPlayBy p.tasks q x e s
    unfolding after
    can-by (Plain act) e act_is low h = can-act act e.tick.0 h.0 e.reply (rw act_is at low) h.1
    can-by (Take r n t) e act_is low h =
        let range = task-range (part_group p q) t.0 ((legal_past_has_users (part_group p q) q (take i es) (moment p q es is play i).legal).waiters t.0 r.0 h.0).there in
        let all = at.kept.jobs_length in
        (range.0, omega (arith, range.1, all))

    pub can-play : (d : SplitEntry) → i < length es → CanPlay p.tasks q (get_or es i d) s
    can-play d low = can-by (get_or es i d).act (get_or es i d) refl (clock-next i d low) (next p q es is play i d low)

  links-push : (xs : List SplitEntry) (e : SplitEntry) (past : PartPast) → links_from (part_group p q) q past (xs ++ e ∷ []) ≡ links_from (part_group p q) q past xs ++ linked (part_group p q) q (after (part_group p q) q e (past_from (part_group p q) q past xs)) ∷ []
  unfolding links_from past_from
  links-push [] e past = refl
  links-push (x ∷ xs) e past = ap (λ zs. linked (part_group p q) q (after (part_group p q) q x past) ∷ zs) (links-push xs e (after (part_group p q) q x past))

  -- at the opening
  pub opened-at : (s : PartState) (n m : ℕ) → n ≡ length p.tasks → m ≡ length p.clusters → s ≡ opened n m → IsAt (part_group p q) (past-at 0) s
  unfolding past_of past_from
  opened-at s n m all cpus state_is =
      rw (state_is, all, cpus) (kept_at_opening (part_group p q) (length p.clusters)
      (λ r h. let low = processors-below (part_group p q) r h in let count = cpu-count p q is in omega (arith, low, count)))

  pub first-played : (s : PartState) (o : Option TaskNo) → IsAt (part_group p q) (past-at 0) s → number_of_task o ≡ linked (part_group p q) q (past-at 0)
      → IsPlayed p q (take 0 es) s (o ∷ [])
  unfolding past_of past_from links_from
  first-played s o at link_is = record { at = at; links = ap (λ x. x ∷ []) link_is }

  -- one entry more
  pub at-next : (i : ℕ) (d : SplitEntry) (s s' : PartState) → i < length es → IsAt (part_group p q) (past-at i) s
      → s' ≡ after_entry p.tasks q (get_or es i d) s → IsAt (part_group p q) (past-at (i + 1)) s'
  at-next i d s s' low at state_is =
      let e : SplitEntry = get_or es i d in
      subst (λ (x : PartPast). IsAt (part_group p q) x s') (sym (past-next i d low))
      (subst (λ (x : PartState). IsAt (part_group p q) (after (part_group p q) q e (past-at i)) x) (sym state_is)
      (kept_after_entry (part_group p q) q (take i es) e s (in-limits p q is) (moment p q es is play i).legal (next p q es is play i d low) at))

  pub played-next : (i : ℕ) (d : SplitEntry) (s s' : PartState) (ls : List (Option TaskNo)) (o : Option TaskNo) → i < length es → IsPlayed p q (take i es) s ls
      → IsAt (part_group p q) (past-at (i + 1)) s' → number_of_task o ≡ linked (part_group p q) q (past-at (i + 1)) → IsPlayed p q (take (i + 1) es) s' (ls ++ o ∷ [])
  unfolding past_of
  played-next i d s s' ls o low played at link_is =
      let e : SplitEntry = get_or es i d in
      let one_more : i + 1 ≡ suc i = omega arith in
      let taken : take (i + 1) es ≡ take i es ++ e ∷ [] = rw one_more (take-suc es i d low) in
      record {
        at = at;
        links =
            map-append number_of_task ls (o ∷ []) ∙ ap (λ xs. xs ++ number_of_task o ∷ []) played.links
            ∙ ap (λ x. linked (part_group p q) q [] ∷ (links_from (part_group p q) q [] (take i es) ++ x ∷ [])) (link_is ∙ ap (linked (part_group p q) q) (past-next i d low))
            ∙ ap (λ xs. linked (part_group p q) q [] ∷ xs) (sym (links-push (take i es) e []) ∙ ap (links_from (part_group p q) q []) (sym taken));
      }
