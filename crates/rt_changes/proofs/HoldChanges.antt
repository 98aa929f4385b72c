-- What tasks hold and wait for after a Lock or an Unlock.
use Rattle.std.proofs.Common.{Bool, eqb-true, false, inl, inr, not, refl, subst, sym, true, ℕ, ◌&&◌, ◌||◌, ◌∙◌, ◌∷◌, ◌≡◌, ◌⊎◌}
use Rattle.std.specs.Prelude.{None, Option, Some, if◌then◌else◌, ◌==◌}
use Rattle.rt_rules.specs.declared.history.Reply.TheVariants as replies
use Rattle.rt_rules.specs.Numbers.{has, is}
use Rattle.rt_rules.specs.Pcp.{TaskSem, granted}
use Rattle.rt_rules.specs.SemState.{Asks, Frees}
use Rattle.rt_model.specs.Answers.{is_granted}
use Rattle.rt_model.specs.Ceilings.{is_pcp, pcp}
use Rattle.rt_model.specs.Group.{Group, protocol, sems}
use Rattle.rt_model.specs.Holders.{awaits, holder, holds, sem_state}
use Rattle.rt_model.specs.Reachable.{IsReachable}
use Rattle.rt_model.specs.Outcomes.{past_act}
use Rattle.rt_model.specs.Past.{Acted, Event, Past, PastAct, sem_act}
use Rattle.rt_model.specs.Semaphores.{cluster_of}
use Rattle.rt_model.proofs.Steps.{past_act-reply}
use Rattle.rt_rules.proofs.BoolLaws.{both, clash, either, or_true, unless}
use Rattle.rt_rules.proofs.MemberLaws.{equal_self, is-some, is_one, some-is, turned}
use Rattle.rt_rules.proofs.PairLaws.{has_pair, has_pair-without_pair}
use Rattle.rt_laws.proofs.semaphores.Asked.{IsAsked}
use Rattle.rt_laws.proofs.jobs.Engaged.{holder-engaged}
use Rattle.rt_laws.proofs.semaphores.Holding.{holds-one, one-holds}
use Rattle.rt_laws.proofs.Moves.{IsMove, clock_moves, cpu_acts, last_move, moved}
use Rattle.rt_laws.proofs.semaphores.OneWait.{awaits-is, waits_once}
use Rattle.rt_laws.proofs.pcp.PcpState.{first-pcp, pcp-first, pcp-holder, pcp_kept}
use Rattle.rt_laws.proofs.semaphores.Requests.{asks}
use Rattle.rt_laws.proofs.Rules.{MeetsRules}
use Rattle.rt_laws.proofs.ValidSets.{rules_of}
use Rattle.rt_laws.proofs.semaphores.Waiting.{awaits-waits, none-waits, waiting-step, waits-none}
use Rattle.rt_changes.specs.HoldChanges.{IsGrant, IsQueueing, IsRelease, IsServed, KeepsHolds, LockGrants, LockIsAnswered, LockQueues, UnlockReleases}
use Rattle.rt_changes.specs.Owners.{is_beside}
use Rattle.rt_changes.proofs.Acting.{IsParty, all_parties, freeing, party-home, stack-home}
use Rattle.rt_changes.proofs.Apart.{apart, asks-holds_not}
use Rattle.rt_changes.proofs.Freeing.{freed-gone, freer-waits_not}
use Rattle.rt_changes.proofs.Left.{awaits-left, holder-left, holds-left}
use Rattle.rt_changes.proofs.Lists.{agree}
use Rattle.rt_changes.proofs.Moving.{held-before, holds-on, queued-holder, stands-after, waits-on, what_next}
use Rattle.rt_changes.proofs.PcpForms.{IsFreed, freed-form, freed_state}
use Rattle.rt_changes.proofs.SemChanges.{left, lock-left}
use Rattle.rt_changes.proofs.Stays.{engaged-asks}

-- ---- replies

lock-answer : (g : Group) {past : Past} {e : Event} → IsMove g past e → (t s : ℕ) (d : PastAct) → e ≡ Acted d → sem_act e ≡ Asks t s → d.reply ≡ (if is_granted g (protocol g s) s t past then replies.Granted else replies.Queued)
lock-answer g (clock_moves tick) t s d k h = cc
lock-answer g {past} (cpu_acts q a) t s d k h = let same : past_act g q a past ≡ d = cc in rw (← same) (past_act-reply g q a past ∙ (asks g q a past t s h).reply)

pub lock_is_answered : LockIsAnswered
lock_is_answered g e past valid made t s d k h = lock-answer g (last_move g made).1 t s d k h

-- ---- a Lock

module _ (g : Group) (rules : MeetsRules g) (e : Event) (past : Past) (made : IsReachable g past) (move : IsMove g past e) (t s : ℕ) (h : sem_act e ≡ Asks t s) where
  a : IsAsked g t s past
  a = (what_next g rules e past made move).asked t s h

  party : IsParty g t s
  party = record { known = a.known; user = a.user }

  no_free : (u r : ℕ) → sem_act e ≡ Frees u r → ⊥
  no_free u r k = cc

  -- another semaphore
  other_state : (r : ℕ) → s == r ≡ false → sem_state g r (e ∷ past) ≡ sem_state g r past
  other_state r n = lock-left g t s r e past h n

  other_holder : (r : ℕ) → s == r ≡ false → holder g r (e ∷ past) ≡ holder g r past
  other_holder r n = holder-left g r e past (other_state r n)

  held_on : (u r : ℕ) → is u (holder g r past) ≡ true → is u (holder g r (e ∷ past)) ≡ true
  held_on u r k = split (holds-on g rules e past made move u r k)
    where
      split : (is u (holder g r (e ∷ past)) ≡ true) ⊎ (sem_act e ≡ Frees u r) → is u (holder g r (e ∷ past)) ≡ true
      split (inl m) = m
      split (inr m) = absurd (no_free u r m)

  -- who waits after it did before, but for the task that asks
  waited : (u r : ℕ) → u == t ≡ false → has u (sem_state g r (e ∷ past)).waiting ≡ true → has u (sem_state g r past).waiting ≡ true
  waited u r ne k = split (waiting-step g rules u r e past k)
    where
      split : (has u (sem_state g r past).waiting ≡ true) ⊎ (sem_act e ≡ Asks u r) × (is_granted g (protocol g r) r u past ≡ false) → has u (sem_state g r past).waiting ≡ true
      split (inl m) = m
      split (inr m) = let ask : sem_act e ≡ Asks u r = m.0 in let same : u ≡ t = cc in absurd (clash _ (equal_self t) (rw same at ne))

  -- others wait as before, where none of those that wait comes to hold
  others_wait : (u : ℕ) → u == t ≡ false → (has u (sem_state g s past).waiting ≡ true → is u (holder g s (e ∷ past)) ≡ false) → awaits g u (e ∷ past) ≡ awaits g u past
  others_wait u ne idle = awaits-left g u e past (λ r there. by_sem r (s == r) refl)
    where
      goes_on : has u (sem_state g s past).waiting ≡ true → ((is u (holder g s (e ∷ past)) ≡ true) ⊎ (has u (sem_state g s (e ∷ past)).waiting ≡ true)) ⊎ (sem_act e ≡ Frees u s) → has u (sem_state g s (e ∷ past)).waiting ≡ true
      goes_on w (inl (inl m)) = absurd (clash _ m (idle w))
      goes_on w (inl (inr m)) = m
      goes_on w (inr m) = absurd (no_free u s m)

      here : has u (sem_state g s (e ∷ past)).waiting ≡ has u (sem_state g s past).waiting
      here = agree _ _ (waited u s ne) (λ w. goes_on w (waits-on g rules e past made move u s w))

      by_sem : (r : ℕ) (b : Bool) → s == r ≡ b → has u (sem_state g r (e ∷ past)).waiting ≡ has u (sem_state g r past).waiting
      by_sem r true k = subst (λ n. has u (sem_state g n (e ∷ past)).waiting ≡ has u (sem_state g n past).waiting) (eqb-true s r k) here
      by_sem r false k = rw (other_state r k)

  stands : (is t (holder g s (e ∷ past)) ≡ true) ⊎ (has t (sem_state g s (e ∷ past)).waiting ≡ true)
  stands = stands-after g rules e past made move t s (engaged-asks g t s e past (stack-home g rules t s party) h)

  pub grant : is_granted g (protocol g s) s t past ≡ true → IsGrant g t s e past
  grant may = record {
    holder_is = is-some t (holder g s (e ∷ past)) holds_it;
    gains = λ r. agree _ _ (λ k. gains_only r (s == r) refl (one-holds g t r (e ∷ past) k)) (λ k. gains_all r (either (r == s) (has r (holds g t past)) k));
    waits_not = none-waits g t (e ∷ past) free;
    others = λ u ne. record { held = others_hold u ne; awaited = others_wait u ne (λ w. others_not u ne) };
  }
    where
      free : (r : ℕ) → has r (sems g) ≡ true → has t (sem_state g r (e ∷ past)).waiting ≡ false
      free r there = unless _ (λ w. split (waiting-step g rules t r e past w))
        where
          split : (has t (sem_state g r past).waiting ≡ true) ⊎ (sem_act e ≡ Asks t r) × (is_granted g (protocol g r) r t past ≡ false) → ⊥
          split (inl m) = clash _ m (a.waits_none r there)
          split (inr m) = let ask : sem_act e ≡ Asks t r = m.0 in let same : s ≡ r = cc in clash _ may (subst (λ n. is_granted g (protocol g n) n t past ≡ false) (sym same) m.1)

      holds_it : is t (holder g s (e ∷ past)) ≡ true
      holds_it = split stands
        where
          split : (is t (holder g s (e ∷ past)) ≡ true) ⊎ (has t (sem_state g s (e ∷ past)).waiting ≡ true) → is t (holder g s (e ∷ past)) ≡ true
          split (inl m) = m
          split (inr m) = absurd (clash _ m (free s a.known))

      others_not : (u : ℕ) → u == t ≡ false → is u (holder g s (e ∷ past)) ≡ false
      others_not u ne = unless _ (λ m. let same : u ≡ t = is_one u t (holder g s (e ∷ past)) m holds_it in clash _ (equal_self t) (rw same at ne))

      gains_only : (r : ℕ) (b : Bool) → s == r ≡ b → (has r (sems g) ≡ true) × (is t (holder g r (e ∷ past)) ≡ true) → r == s || has r (holds g t past) ≡ true
      gains_only r true k q = rw (turned r s, k)
      gains_only r false k q = rw (holds-one g t r past q.0 (rw (other_holder r k) at q.1)) (or_true (r == s))

      gains_all : (r : ℕ) → (r == s ≡ true) ⊎ (has r (holds g t past) ≡ true) → has r (holds g t (e ∷ past)) ≡ true
      gains_all r (inl k) = subst (λ n. has n (holds g t (e ∷ past)) ≡ true) (sym (eqb-true r s k)) (holds-one g t s (e ∷ past) a.known holds_it)
      gains_all r (inr k) = let q = one-holds g t r past k in holds-one g t r (e ∷ past) q.0 (held_on t r q.1)

      others_hold : (u : ℕ) → u == t ≡ false → holds g u (e ∷ past) ≡ holds g u past
      others_hold u ne = holds-left g u e past (λ r there. by_sem r (s == r) refl)
        where
          here : is u (holder g s (e ∷ past)) ≡ is u (holder g s past)
          here = rw (others_not u ne, unless (is u (holder g s past)) (λ m. clash _ (held_on u s m) (others_not u ne)))

          by_sem : (r : ℕ) (b : Bool) → s == r ≡ b → is u (holder g r (e ∷ past)) ≡ is u (holder g r past)
          by_sem r true k = subst (λ n. is u (holder g n (e ∷ past)) ≡ is u (holder g n past)) (eqb-true s r k) here
          by_sem r false k = rw (other_holder r k)

  pub queueing : is_granted g (protocol g s) s t past ≡ false → IsQueueing g t s e past
  queueing may_not = record {
    waits = awaits-is g t s (e ∷ past) (waits_once g rules (moved g made move)) a.known waits_here;
    holders = holders;
    held = λ u. holds-left g u e past (λ r there. rw (holders r));
    others = λ u ne. others_wait u ne (λ w. unless _ (λ m. clash _ w (apart g rules made u s a.known (rw here at m))));
  }
    where
      here : holder g s (e ∷ past) ≡ holder g s past
      here = queued-holder g t s e past (party-home g rules t s party) h may_not

      holders : (r : ℕ) → holder g r (e ∷ past) ≡ holder g r past
      holders r = by_sem (s == r) refl
        where
          by_sem : (b : Bool) → s == r ≡ b → holder g r (e ∷ past) ≡ holder g r past
          by_sem true k = subst (λ n. holder g n (e ∷ past) ≡ holder g n past) (eqb-true s r k) here
          by_sem false k = other_holder r k

      waits_here : has t (sem_state g s (e ∷ past)).waiting ≡ true
      waits_here = split stands
        where
          split : (is t (holder g s (e ∷ past)) ≡ true) ⊎ (has t (sem_state g s (e ∷ past)).waiting ≡ true) → has t (sem_state g s (e ∷ past)).waiting ≡ true
          split (inl m) = absurd (clash _ (rw here at m) (asks-holds_not g t s past a))
          split (inr m) = m

pub lock_grants : LockGrants
lock_grants g e past valid made t s h may = let last = last_move g made in grant g (rules_of g valid) e past last.0 last.1 t s h may

pub lock_queues : LockQueues
lock_queues g e past valid made t s h may_not = let last = last_move g made in queueing g (rules_of g valid) e past last.0 last.1 t s h may_not

-- ---- an Unlock

module _ (g : Group) (rules : MeetsRules g) (e : Event) (past : Past) (made : IsReachable g past) (move : IsMove g past e) (t s : ℕ) (h : sem_act e ≡ Frees t s) where
  held : is t (holder g s past) ≡ true
  held = (what_next g rules e past made move).freed t s h

  owns : IsParty g t s
  owns = all_parties g rules made t s (holder-engaged g t s past held)

  made_after : IsReachable g (e ∷ past)
  made_after = moved g made move

  free_before : (r : ℕ) → has r (sems g) ≡ true → has t (sem_state g r past).waiting ≡ false
  free_before r there = freer-waits_not g rules made move t s r h there

  gone : is t (holder g s (e ∷ past)) ≡ false
  gone = freed-gone g rules t s e past made owns held (free_before s owns.known) h

  -- who holds after it held before it, or waited
  had : (u r : ℕ) → is u (holder g r (e ∷ past)) ≡ true → (is u (holder g r past) ≡ true) ⊎ (has u (sem_state g r past).waiting ≡ true)
  had u r k = split (held-before g rules e past made move u r k)
    where
      split : (is u (holder g r past) ≡ true) ⊎ ((has u (sem_state g r past).waiting ≡ true) ⊎ (sem_act e ≡ Asks u r)) → (is u (holder g r past) ≡ true) ⊎ (has u (sem_state g r past).waiting ≡ true)
      split (inl m) = inl m
      split (inr (inl m)) = inr m
      split (inr (inr m)) = absurd cc

  -- others hold on
  keeps : (u r : ℕ) → u == t ≡ false → is u (holder g r past) ≡ true → is u (holder g r (e ∷ past)) ≡ true
  keeps u r ne k = split (holds-on g rules e past made move u r k)
    where
      split : (is u (holder g r (e ∷ past)) ≡ true) ⊎ (sem_act e ≡ Frees u r) → is u (holder g r (e ∷ past)) ≡ true
      split (inl m) = m
      split (inr m) = let same : u ≡ t = cc in absurd (clash _ (equal_self t) (rw same at ne))

  -- who waits after it did before it
  waited_before : (u r : ℕ) → has u (sem_state g r (e ∷ past)).waiting ≡ true → has u (sem_state g r past).waiting ≡ true
  waited_before u r k = split (waiting-step g rules u r e past k)
    where
      split : (has u (sem_state g r past).waiting ≡ true) ⊎ (sem_act e ≡ Asks u r) × (is_granted g (protocol g r) r u past ≡ false) → has u (sem_state g r past).waiting ≡ true
      split (inl m) = m
      split (inr m) = let ask : sem_act e ≡ Asks u r = m.0 in absurd cc

  -- a task that waited at r waited at no other
  at_one : (u r o : ℕ) → awaits g u past ≡ Some r → has o (sems g) ≡ true → has u (sem_state g o past).waiting ≡ true → o ≡ r
  at_one u r o k there w = let q = awaits-waits g u r past k in waits_once g rules made u o r there q.0 w q.1

  loses : (r : ℕ) → has r (holds g t (e ∷ past)) ≡ not (r == s) && has r (holds g t past)
  loses r = agree _ _ (λ k. only (r == s) refl (one-holds g t r (e ∷ past) k)) (λ k. all (r == s) refl k)
    where
      only : (b : Bool) → r == s ≡ b → (has r (sems g) ≡ true) × (is t (holder g r (e ∷ past)) ≡ true) → not b && has r (holds g t past) ≡ true
      only true m q = absurd (clash _ (subst (λ n. is t (holder g n (e ∷ past)) ≡ true) (eqb-true r s m) q.1) gone)
      only false m q = split (had t r q.1)
        where
          split : (is t (holder g r past) ≡ true) ⊎ (has t (sem_state g r past).waiting ≡ true) → has r (holds g t past) ≡ true
          split (inl n) = holds-one g t r past q.0 n
          split (inr n) = absurd (clash _ n (free_before r q.0))

      all : (b : Bool) → r == s ≡ b → not b && has r (holds g t past) ≡ true → has r (holds g t (e ∷ past)) ≡ true
      all true m k = cc
      all false m k = let q = one-holds g t r past k in split q.0 (holds-on g rules e past made move t r q.1)
        where
          split : has r (sems g) ≡ true → (is t (holder g r (e ∷ past)) ≡ true) ⊎ (sem_act e ≡ Frees t r) → has r (holds g t (e ∷ past)) ≡ true
          split there (inl n) = holds-one g t r (e ∷ past) there n
          split there (inr n) = let same : r ≡ s = cc in absurd (clash _ (equal_self s) (rw same at m))

  -- another task, where it comes to hold nothing
  kept : (u : ℕ) → u == t ≡ false → ((r : ℕ) → has r (sems g) ≡ true → has u (sem_state g r past).waiting ≡ true → has u (sem_state g r (e ∷ past)).waiting ≡ true) → KeepsHolds g u e past
  kept u ne still = record { held = holds-left g u e past (λ r there. agree _ _ (λ k. only r there k (had u r k)) (keeps u r ne)); awaited = awaits-left g u e past (λ r there. agree _ _ (waited_before u r) (still r there)) }
    where
      only : (r : ℕ) → has r (sems g) ≡ true → is u (holder g r (e ∷ past)) ≡ true → (is u (holder g r past) ≡ true) ⊎ (has u (sem_state g r past).waiting ≡ true) → is u (holder g r past) ≡ true
      only r there k (inl m) = m
      only r there k (inr m) = absurd (clash _ (still r there m) (apart g rules made_after u r there k))

  served : (u r : ℕ) → u == t ≡ false → awaits g u past ≡ Some r → has u (sem_state g r (e ∷ past)).waiting ≡ false → IsServed g u r e past
  served u r ne k w = record {
    waited = k;
    waits_not = none-waits g u (e ∷ past) (λ o there. unless _ (λ m. clash _ (subst (λ n. has u (sem_state g n (e ∷ past)).waiting ≡ true) (at_one u r o k there (waited_before u o m)) m) w));
    holder_is = is-some u (holder g r (e ∷ past)) holds_it;
    gains = λ o. agree _ _ (λ m. let q = one-holds g u o (e ∷ past) m in only o q.0 (had u o q.1)) (λ m. all o (either (o == r) (has o (holds g u past)) m));
  }
    where
      before : (has r (sems g) ≡ true) × (has u (sem_state g r past).waiting ≡ true)
      before = awaits-waits g u r past k

      holds_it : is u (holder g r (e ∷ past)) ≡ true
      holds_it = split (waits-on g rules e past made move u r before.1)
        where
          split : ((is u (holder g r (e ∷ past)) ≡ true) ⊎ (has u (sem_state g r (e ∷ past)).waiting ≡ true)) ⊎ (sem_act e ≡ Frees u r) → is u (holder g r (e ∷ past)) ≡ true
          split (inl (inl m)) = m
          split (inl (inr m)) = absurd (clash _ m w)
          split (inr m) = let same : u ≡ t = cc in absurd (clash _ (equal_self t) (rw same at ne))

      only : (o : ℕ) → has o (sems g) ≡ true → (is u (holder g o past) ≡ true) ⊎ (has u (sem_state g o past).waiting ≡ true) → o == r || has o (holds g u past) ≡ true
      only o there (inl m) = rw (holds-one g u o past there m) (or_true (o == r))
      only o there (inr m) = rw (at_one u r o k there m, equal_self r)

      all : (o : ℕ) → (o == r ≡ true) ⊎ (has o (holds g u past) ≡ true) → has o (holds g u (e ∷ past)) ≡ true
      all o (inl m) = subst (λ n. has n (holds g u (e ∷ past)) ≡ true) (sym (eqb-true o r m)) (holds-one g u r (e ∷ past) before.0 holds_it)
      all o (inr m) = let q = one-holds g u o past m in holds-one g u o (e ∷ past) q.0 (keeps u o ne q.1)

  others : (u : ℕ) → u == t ≡ false → KeepsHolds g u e past ⊎ ((r : ℕ) × IsServed g u r e past)
  others u ne = by_wait (awaits g u past) refl
    where
      at : (r : ℕ) → awaits g u past ≡ Some r → (b : Bool) → has u (sem_state g r (e ∷ past)).waiting ≡ b → KeepsHolds g u e past ⊎ ((o : ℕ) × IsServed g u o e past)
      at r k true w = inl (kept u ne (λ o there m. subst (λ n. has u (sem_state g n (e ∷ past)).waiting ≡ true) (sym (at_one u r o k there m)) w))
      at r k false w = inr (r, served u r ne k w)

      by_wait : (o : Option ℕ) → awaits g u past ≡ o → KeepsHolds g u e past ⊎ ((r : ℕ) × IsServed g u r e past)
      by_wait None k = inl (kept u ne (λ r there m. absurd (clash _ m (waits-none g u past k r there))))
      by_wait (Some r) k = at r k (has u (sem_state g r (e ∷ past)).waiting) refl

  -- who comes to hold a semaphore was served
  new_holder : (u r : ℕ) → has r (sems g) ≡ true → is u (holder g r past) ≡ false → is u (holder g r (e ∷ past)) ≡ true → IsServed g u r e past
  new_holder u r there n k = split (had u r k)
    where
      split : (is u (holder g r past) ≡ true) ⊎ (has u (sem_state g r past).waiting ≡ true) → IsServed g u r e past
      split (inl m) = absurd (clash _ m n)
      split (inr m) = served u r (unless _ (λ z. let same : u ≡ t = eqb-true u t z in clash _ (rw same at m) (free_before r there))) (awaits-is g u r past (waits_once g rules made) there m) (apart g rules made_after u r there k)

  -- who was served waited at a semaphore that the Unlock could change
  beside : (u r : ℕ) → IsServed g u r e past → is_beside g s r ≡ true
  beside u r k = by_case (is_beside g s r) refl
    where
      q : (has r (sems g) ≡ true) × (has u (sem_state g r past).waiting ≡ true)
      q = awaits-waits g u r past k.waited

      by_case : (b : Bool) → is_beside g s r ≡ b → b ≡ true
      by_case true m = refl
      by_case false m = absurd (clash _ (rw (left g rules s r e past (record { task = t; act = rw h freeing; party = owns }) m) q.1) (waits-none g u (e ∷ past) k.waits_not r q.0))

  at_own : (u r : ℕ) → IsServed g u r e past → is_pcp (protocol g s) ≡ false → r ≡ s
  at_own u r k n = sym (eqb-true s r (rw n at (beside u r k)))

  -- under PCP it holds a pair that it did not hold before
  held_after : (u r : ℕ) → IsServed g u r e past → is_pcp (protocol g r) ≡ true → cluster_of g r ≡ cluster_of g s → has_pair u r (pcp g (cluster_of g s) (e ∷ past)).held ≡ true
  held_after u r k n c = subst (λ x. has_pair u r (pcp g x (e ∷ past)).held ≡ true) c (first-pcp u r (pcp g (cluster_of g r) (e ∷ past)) (rw (pcp-holder g r (e ∷ past) n) at (some-is u (holder g r (e ∷ past)) k.holder_is)))

  held_not_before : (u r : ℕ) → IsServed g u r e past → is_pcp (protocol g r) ≡ true → cluster_of g r ≡ cluster_of g s → has_pair u r (pcp g (cluster_of g s) past).held ≡ false
  held_not_before u r k n c = unless _ (λ m. clash _ (awaits-waits g u r past k.waited).1 (apart g rules made u r (awaits-waits g u r past k.waited).0 (rw (pcp-holder g r past n) (pcp-first g (cluster_of g r) u r (pcp g (cluster_of g r) past) (pcp_kept g rules (cluster_of g r) made) (subst (λ x. has_pair u r (pcp g x past).held ≡ true) (sym c) m)))))

  -- it is the one request that was granted
  was_granted : (u r : ℕ) → IsServed g u r e past → is_pcp (protocol g s) ≡ true → (p : TaskSem) → pcp g (cluster_of g s) (e ∷ past) ≡ granted p (freed_state t s (pcp g (cluster_of g s) past)) → u ≡ p.task
  was_granted u r k n p form = eqb-true u p.task (both (u == p.task) (r == p.sem) is_it).0
    where
      parts : (is_pcp (protocol g r) ≡ true) × (cluster_of g r ≡ cluster_of g s)
      parts = let q = both (is_pcp (protocol g r)) (cluster_of g r == cluster_of g s) (rw n at (beside u r k)) in (q.0, eqb-true (cluster_of g r) (cluster_of g s) q.1)

      after : has_pair u r (pcp g (cluster_of g s) (e ∷ past)).held ≡ true
      after = held_after u r k parts.0 parts.1

      not_before : has_pair u r (pcp g (cluster_of g s) past).held ≡ false
      not_before = held_not_before u r k parts.0 parts.1

      is_it : u == p.task && r == p.sem ≡ true
      is_it = split (either (u == p.task && r == p.sem) _ (rw form at after))
        where
          split : (u == p.task && r == p.sem ≡ true) ⊎ (has_pair u r (freed_state t s (pcp g (cluster_of g s) past)).held ≡ true) → u == p.task && r == p.sem ≡ true
          split (inl m) = m
          split (inr m) = absurd (clash _ (has_pair-without_pair u r (record { task = t; sem = s }) (pcp g (cluster_of g s) past).held m) not_before)

  one : (u v r o : ℕ) → IsServed g u r e past → IsServed g v o e past → u ≡ v
  one u v r o k m = by_kind (is_pcp (protocol g s)) refl
    where
      by_form : is_pcp (protocol g s) ≡ true → IsFreed t s (pcp g (cluster_of g s) past) (pcp g (cluster_of g s) (e ∷ past)) → u ≡ v
      by_form n (inr p) = was_granted u r k n p.0 p.2 ∙ sym (was_granted v o m n p.0 p.2)
      by_form n (inl p) = absurd (none_granted n p)
        where
          none_granted : is_pcp (protocol g s) ≡ true → pcp g (cluster_of g s) (e ∷ past) ≡ freed_state t s (pcp g (cluster_of g s) past) → ⊥
          none_granted i f = clash _ (rw f at after) (unless _ (λ z. clash _ (has_pair-without_pair u r (record { task = t; sem = s }) (pcp g (cluster_of g s) past).held z) not_before))
            where
              parts : (is_pcp (protocol g r) ≡ true) × (cluster_of g r ≡ cluster_of g s)
              parts = let q = both (is_pcp (protocol g r)) (cluster_of g r == cluster_of g s) (rw i at (beside u r k)) in (q.0, eqb-true (cluster_of g r) (cluster_of g s) q.1)

              after : has_pair u r (pcp g (cluster_of g s) (e ∷ past)).held ≡ true
              after = held_after u r k parts.0 parts.1

              not_before : has_pair u r (pcp g (cluster_of g s) past).held ≡ false
              not_before = held_not_before u r k parts.0 parts.1

      by_kind : (b : Bool) → is_pcp (protocol g s) ≡ b → u ≡ v
      by_kind true n = by_form n (freed-form g rules t s e past made owns n h)
      by_kind false n =
          let a : holder g s (e ∷ past) ≡ Some u = subst (λ x. holder g x (e ∷ past) ≡ Some u) (at_own u r k n) k.holder_is in
          let b : holder g s (e ∷ past) ≡ Some v = subst (λ x. holder g x (e ∷ past) ≡ Some v) (at_own v o m n) m.holder_is in
          cc

  pub release : IsRelease g t s e past
  release = record {
    freed = gone;
    loses = loses;
    waits_not = none-waits g t (e ∷ past) (λ r there. unless _ (λ w. clash _ (waited_before t r w) (free_before r there)));
    others = others;
    new_holder = new_holder;
    at_own = at_own;
    one = one;
  }

pub unlock_releases : UnlockReleases
unlock_releases g e past valid made t s h = let last = last_move g made in release g (rules_of g valid) e past last.0 last.1 t s h
