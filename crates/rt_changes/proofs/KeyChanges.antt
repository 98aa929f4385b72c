-- Whose boost and whose effective key a move can change.
use Rattle.std.proofs.Common.{Bool, eqb-true, false, not, refl, sym, true, ℕ, ◌&&◌, ◌||◌, ◌∙◌, ◌∷◌, ◌≡◌}
use Rattle.std.specs.Prelude.{None, Option, Some, find, if◌then◌else◌, is_some, ◌==◌}
use Rattle.rt_task.specs.Validity.{IsValid}
use Rattle.rt_rules.specs.Numbers.{has, is, is_empty}
use Rattle.rt_rules.specs.SemState.{Asks, Frees, Neither, SemAct}
use Rattle.rt_rules.specs.Walks.{inherited}
use Rattle.rt_model.specs.BaseKeys.{base_key}
use Rattle.rt_model.specs.Boosts.{boost}
use Rattle.rt_model.specs.Ceilings.{is_pcp, pcp}
use Rattle.rt_model.specs.EffectiveKeys.{waits_for}
use Rattle.rt_model.specs.Group.{Group, home, protocol, sems, tasks}
use Rattle.rt_model.specs.Holders.{awaits, holder, holds, sem_state}
use Rattle.rt_model.specs.Reachable.{IsReachable}
use Rattle.rt_model.specs.Past.{Event, Past, sem_act}
use Rattle.rt_model.specs.Semaphores.{cluster_of}
use Rattle.rt_rules.proofs.BoolLaws.{and_false, both, clash, neither, not_true, or_true, unless}
use Rattle.rt_rules.proofs.MemberLaws.{find-none, find-some, has-filter, turned}
use Rattle.rt_laws.proofs.semaphores.SemaphoreLaws.{engaged_keeps_job}
use Rattle.rt_laws.proofs.Moves.{last_move}
use Rattle.rt_laws.proofs.Next.{next}
use Rattle.rt_laws.proofs.semaphores.OneWait.{awaits-is, waits_once}
use Rattle.rt_laws.proofs.pcp.PcpWalks.{walk-stops}
use Rattle.rt_laws.proofs.Rules.{MeetsRules}
use Rattle.rt_laws.proofs.ValidSets.{rules_of}
use Rattle.rt_laws.proofs.semaphores.Waiting.{awaits-waits}
use Rattle.rt_changes.specs.BoostChanges.{BoostStays}
use Rattle.rt_changes.specs.KeysOfWaiters.{waiters}
use Rattle.rt_changes.specs.KeyChanges.{EffectiveKeyFollowsBase, EffectiveKeyStays}
use Rattle.rt_changes.specs.Owners.{is_beside, newest_owner, owner, sem_of, is_touched, is_touched_at}
use Rattle.rt_changes.specs.SemChanges.{LeavesSems}
use Rattle.rt_changes.proofs.Acting.{IsActor, actor, party-home}
use Rattle.rt_changes.proofs.BaseKeys.{base_key-left}
use Rattle.rt_changes.proofs.Boosts.{boost-is, boost-none, boost_by-left}
use Rattle.rt_changes.proofs.KeysOfWaiters.{key_is_of_waiters}
use Rattle.rt_changes.proofs.Left.{granted_at-left, holder-left, pcp-left}
use Rattle.rt_changes.proofs.Lists.{agree, filter-same, inherited-same}
use Rattle.rt_changes.proofs.Owning.{waits-owner}
use Rattle.rt_changes.proofs.SemChanges.{left, outside, quiet}

-- ---- owners

-- semaphores beside one another have one owner
owner-beside : (g : Group) (s r : ℕ) (past : Past) → is_beside g s r ≡ true → owner g r past ≡ owner g s past
owner-beside g s r past h = by_kind (is_pcp (protocol g s)) refl h
  where
    by_kind : (b : Bool) → is_pcp (protocol g s) ≡ b → (if b then is_pcp (protocol g r) && cluster_of g r == cluster_of g s else s == r) ≡ true → owner g r past ≡ (if b then newest_owner g (cluster_of g s) past else holder g s past)
    by_kind true k m = let q = both (is_pcp (protocol g r)) (cluster_of g r == cluster_of g s) m in rw (q.0, eqb-true (cluster_of g r) (cluster_of g s) q.1)
    by_kind false k m = let same : s ≡ r = eqb-true s r m in let n : is_pcp (protocol g r) ≡ false = rw same at k in rw (n, same)

-- the grants of another cluster, or where none of PCP is acted at
cluster-left : (g : Group) → MeetsRules g → (s r : ℕ) (e : Event) (past : Past) → IsActor g s e → is_beside g s r ≡ false → is_pcp (protocol g r) ≡ true → pcp g (cluster_of g r) (e ∷ past) ≡ pcp g (cluster_of g r) past
cluster-left g rules s r e past a h n = pcp-left g (cluster_of g r) e past (outside g a.task s (cluster_of g r) (sem_act e) a.act (by_kind (is_pcp (protocol g s)) refl h))
  where
    by_kind : (b : Bool) → is_pcp (protocol g s) ≡ b → (if b then is_pcp (protocol g r) && cluster_of g r == cluster_of g s else s == r) ≡ false → home g a.task == cluster_of g r && is_pcp (protocol g s) ≡ false
    by_kind true k m = let other : cluster_of g r == cluster_of g s ≡ false = rw n at m in rw (k, party-home g rules a.task s a.party k, turned (cluster_of g s) (cluster_of g r), other)
    by_kind false k m = rw k (and_false (home g a.task == cluster_of g r))

owner-left : (g : Group) → MeetsRules g → (s r : ℕ) (e : Event) (past : Past) → IsActor g s e → is_beside g s r ≡ false → owner g r (e ∷ past) ≡ owner g r past
owner-left g rules s r e past a h = by_kind (is_pcp (protocol g r)) refl
  where
    by_kind : (b : Bool) → is_pcp (protocol g r) ≡ b → (if b then newest_owner g (cluster_of g r) (e ∷ past) else holder g r (e ∷ past)) ≡ (if b then newest_owner g (cluster_of g r) past else holder g r past)
    by_kind true k = rw (cluster-left g rules s r e past a h k)
    by_kind false k = holder-left g r e past (left g rules s r e past a h)

-- the holder of a semaphore that is none of PCP is its owner
pub holder-owner : (g : Group) (r u : ℕ) (past : Past) → is_pcp (protocol g r) ≡ false → is u (holder g r past) ≡ true → is u (owner g r past) ≡ true
holder-owner g r u past k h = rw k h

-- ---- a task that a Lock or an Unlock does not touch

module _ (g : Group) (valid : IsValid g.setup) (e : Event) (past : Past) (made_after : IsReachable g (e ∷ past)) (s : ℕ) (h : sem_of (sem_act e) ≡ Some s) (u : ℕ) (clear : is u (owner g s past) || is u (owner g s (e ∷ past)) ≡ false) where
  rules : MeetsRules g
  rules = rules_of g valid

  made : IsReachable g past
  made = (last_move g made_after).0

  acts_at : IsActor g s e
  acts_at = actor g rules e made (next g rules made (last_move g made_after).1) s h

  not_before : is u (owner g s past) ≡ false
  not_before = (neither _ _ clear).0

  not_after : is u (owner g s (e ∷ past)) ≡ false
  not_after = (neither _ _ clear).1

  -- the semaphores that it owns are left
  apart_before : (r : ℕ) → is u (owner g r past) ≡ true → is_beside g s r ≡ false
  apart_before r k = unless _ (λ m. clash _ (rw (owner-beside g s r past m) at k) not_before)

  apart_after : (r : ℕ) → is u (owner g r (e ∷ past)) ≡ true → is_beside g s r ≡ false
  apart_after r k = unless _ (λ m. clash _ (rw (owner-beside g s r (e ∷ past) m) at k) not_after)

  state_left : (r : ℕ) → is_beside g s r ≡ false → sem_state g r (e ∷ past) ≡ sem_state g r past
  state_left r k = left g rules s r e past acts_at k

  pub boost-same : boost g u (e ∷ past) ≡ boost g u past
  boost-same = by_found (find (λ r. not (is_pcp (protocol g r)) && is u (holder g r past)) (sems g)) refl
    where
      by_found : (o : Option ℕ) → find (λ r. not (is_pcp (protocol g r)) && is u (holder g r past)) (sems g) ≡ o → boost g u (e ∷ past) ≡ boost g u past
      by_found (Some r) k = boost-is g u r (e ∷ past) valid made_after f.0 plain (rw (holder-left g r e past same) holds_it) ∙ (boost_by-left g (protocol g r) r u e past (granted_at-left g r e past (holder-left g r e past same)) ∙ sym (boost-is g u r past valid made f.0 plain holds_it))
        where
          f : (has r (sems g) ≡ true) × (not (is_pcp (protocol g r)) && is u (holder g r past) ≡ true)
          f = find-some (λ x. not (is_pcp (protocol g x)) && is u (holder g x past)) (sems g) r k

          plain : is_pcp (protocol g r) ≡ false
          plain = not_true _ (both (not (is_pcp (protocol g r))) (is u (holder g r past)) f.1).0

          holds_it : is u (holder g r past) ≡ true
          holds_it = (both (not (is_pcp (protocol g r))) (is u (holder g r past)) f.1).1

          same : sem_state g r (e ∷ past) ≡ sem_state g r past
          same = state_left r (apart_before r (holder-owner g r u past plain holds_it))
      by_found None k = boost-none g u (e ∷ past) none_after ∙ sym (boost-none g u past none)
        where
          none : (r : ℕ) → has r (sems g) ≡ true → is_pcp (protocol g r) ≡ false → is u (holder g r past) ≡ false
          none r there plain = let m = find-none (λ x. not (is_pcp (protocol g x)) && is u (holder g x past)) (sems g) r k there in rw plain at m

          none_after : (r : ℕ) → has r (sems g) ≡ true → is_pcp (protocol g r) ≡ false → is u (holder g r (e ∷ past)) ≡ false
          none_after r there plain = unless _ (λ m. clash _ (rw (holder-left g r e past (state_left r (apart_after r (holder-owner g r u (e ∷ past) plain m)))) at m) (none r there plain))

  -- who waits for it waits for it after the move too, and the other way round
  waits_after : (w : ℕ) → is u (waits_for g w past) ≡ true → is u (waits_for g w (e ∷ past)) ≡ true
  waits_after w k = by_wait (awaits g w past) refl
    where
      by_wait : (o : Option ℕ) → awaits g w past ≡ o → is u (waits_for g w (e ∷ past)) ≡ true
      by_wait None m = let z : is u None ≡ true = rw (walk-stops g rules past made w m) at k in cc
      by_wait (Some r) m = rw (waits-owner g rules (e ∷ past) made_after w r awaits_it, owner-left g rules s r e past acts_at other) owns
        where
          owns : is u (owner g r past) ≡ true
          owns = rw (waits-owner g rules past made w r m) at k

          other : is_beside g s r ≡ false
          other = apart_before r owns

          q : (has r (sems g) ≡ true) × (has w (sem_state g r past).waiting ≡ true)
          q = awaits-waits g w r past m

          awaits_it : awaits g w (e ∷ past) ≡ Some r
          awaits_it = awaits-is g w r (e ∷ past) (waits_once g rules made_after) q.0 (rw (state_left r other) q.1)

  waited_before : (w : ℕ) → is u (waits_for g w (e ∷ past)) ≡ true → is u (waits_for g w past) ≡ true
  waited_before w k = by_wait (awaits g w (e ∷ past)) refl
    where
      by_wait : (o : Option ℕ) → awaits g w (e ∷ past) ≡ o → is u (waits_for g w past) ≡ true
      by_wait None m = let z : is u None ≡ true = rw (walk-stops g rules (e ∷ past) made_after w m) at k in cc
      by_wait (Some r) m = rw (waits-owner g rules past made w r awaits_it) (rw (owner-left g rules s r e past acts_at other) at owns)
        where
          owns : is u (owner g r (e ∷ past)) ≡ true
          owns = rw (waits-owner g rules (e ∷ past) made_after w r m) at k

          other : is_beside g s r ≡ false
          other = apart_after r owns

          q : (has r (sems g) ≡ true) × (has w (sem_state g r (e ∷ past)).waiting ≡ true)
          q = awaits-waits g w r (e ∷ past) m

          awaits_it : awaits g w past ≡ Some r
          awaits_it = awaits-is g w r past (waits_once g rules made) q.0 (rw (state_left r other) at q.1)

  pub waiters-same : waiters g u (e ∷ past) ≡ waiters g u past
  waiters-same = filter-same _ _ (tasks g) (λ w there. agree _ _ (waited_before w) (waits_after w))

-- ---- any move

-- a task that a move does not touch is boosted as before, by the same waiting tasks
record IsUntouched (g : Group) (u : ℕ) (e : Event) (past : Past) : Type 0 where
  boosted : boost g u (e ∷ past) ≡ boost g u past
  waited_for : waiters g u (e ∷ past) ≡ waiters g u past

untouched : (g : Group) (e : Event) (past : Past) → IsValid g.setup → IsReachable g (e ∷ past) → (u : ℕ) → is_touched g u e past ≡ false → IsUntouched g u e past
untouched g e past valid made u h = by_sem (sem_of (sem_act e)) refl h
  where
    is_quiet : (x : SemAct) → sem_of x ≡ None → x ≡ Neither
    is_quiet (Asks t s) k = cc
    is_quiet (Frees t s) k = cc
    is_quiet Neither k = refl

    by_sem : (o : Option ℕ) → sem_of (sem_act e) ≡ o → is_touched_at g o u e past ≡ false → IsUntouched g u e past
    by_sem None k m =
        let q : LeavesSems g e past = quiet g e past (is_quiet (sem_act e) k) in
        record { boosted = q.boosted u; waited_for = filter-same _ _ (tasks g) (λ w there. rw (q.next w)) }
    by_sem (Some s) k m = record { boosted = boost-same g valid e past made s k u m; waited_for = waiters-same g valid e past made s k u m }

pub boost_stays : BoostStays
boost_stays g e past valid made u h = (untouched g e past valid made u h).boosted

-- who waits for a task keeps its base key
pub waiter-base : (g : Group) (e : Event) (past : Past) → IsValid g.setup → IsReachable g (e ∷ past) → (u w : ℕ) → has w (waiters g u (e ∷ past)) ≡ true → base_key g w (e ∷ past) ≡ base_key g w past
waiter-base g e past valid made u w h = (engaged_keeps_job g e past valid made w (by_wait (awaits g w (e ∷ past)) refl)).same_key
  where
    waits : is u (waits_for g w (e ∷ past)) ≡ true
    waits = (both (has w (tasks g)) _ (rw has-filter at h)).1

    by_wait : (o : Option ℕ) → awaits g w (e ∷ past) ≡ o → not (is_empty (holds g w (e ∷ past))) || is_some o ≡ true
    by_wait None m = let z : is u None ≡ true = rw (walk-stops g (rules_of g valid) (e ∷ past) made w m) at waits in cc
    by_wait (Some r) m = or_true (not (is_empty (holds g w (e ∷ past))))

pub effective_key_follows_base : EffectiveKeyFollowsBase
effective_key_follows_base g e past valid made u fresh h =
    let k : IsUntouched g u e past = untouched g e past valid made u h in
    let same : inherited (boost g u past) (λ w. base_key g w (e ∷ past)) (waiters g u (e ∷ past)) u ≡ inherited (boost g u past) (λ w. base_key g w past) (waiters g u (e ∷ past)) u = inherited-same (boost g u past) (λ w. base_key g w (e ∷ past)) (λ w. base_key g w past) (waiters g u (e ∷ past)) u fresh (λ w there. waiter-base g e past valid made u w there) in
    key_is_of_waiters g (e ∷ past) valid made u ∙ (rw k.boosted (same ∙ rw k.waited_for) ∙ sym (key_is_of_waiters g past valid (last_move g made).0 u))

pub effective_key_stays : EffectiveKeyStays
effective_key_stays g e past valid made u fresh h = effective_key_follows_base g e past valid made u (base_key-left g u e past fresh) h
