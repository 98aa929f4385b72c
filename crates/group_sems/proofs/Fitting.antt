-- What a lock and an unlock rest on holds whenever the act is accepted.
use Rattle.std.proofs.Common.{◌≡◌, ◌∙◌, ◌+◌, ◌<◌, ◌≤◌, ◌⊎◌, ℕ, zero, suc, Bool, true, false, ◌&&◌, List, [], ◌∷◌, length, refl, sym, subst, eqb-true, arith, inl, inr}
use Rattle.std.specs.Prelude.{◌==◌, Option, None, Some, IsSome, slice_index_or, slice_set, filter, if◌then◌else◌}
use Rattle.rt_task.specs.Validity.{IsValid}
use Rattle.rt_task.specs.declared.Parts.{Parts}
use Rattle.rt_task.specs.declared.Protocol.{Protocol}
use Rattle.rt_task.specs.declared.Protocol.TheVariants.{Fmlp, Mpcp, Omlp, Pcp, Srp}
use Rattle.rt_rules.specs.declared.Key.{Key}
use Rattle.rt_rules.specs.Numbers.{has, numbers_from}
use Rattle.rt_rules.specs.Pcp.{passes, pcp_after}
use Rattle.rt_rules.specs.SemState.{Asks, Frees, Neither}
use Rattle.rt_model.specs.Answers.{is_granted as is_granted_by_rules}
use Rattle.rt_model.specs.BaseKeys.{above, base_key}
use Rattle.rt_model.specs.Ceilings.{above_ceiling, at_cluster, is_pcp, pcp}
use Rattle.rt_model.specs.EffectiveKeys.{waits_for}
use Rattle.rt_model.specs.Group.{Group, home, in_group, protocol, sems, tasks}
use Rattle.rt_model.specs.Holders.{awaits, holder, sem_state}
use Rattle.rt_model.specs.Past.{Event, Past, now, sem_act}
use Rattle.rt_model.specs.Reachable.{IsReachable}
use Rattle.rt_model.specs.Semaphores.{cluster_of}
use Rattle.rt_rules.proofs.BoolLaws.{both, unless}
use Rattle.rt_rules.proofs.DistinctLaws.{length-distinct}
use Rattle.rt_rules.proofs.MemberLaws.{has-filter, has-one, some-is}
use Rattle.rt_rules.proofs.NumberLaws.{distinct-numbers_from, length-numbers_from}
use Rattle.rt_rules.proofs.PairLaws.{has_pair, pair-of}
use Rattle.rt_rules.proofs.PlacingLaws.{distinct-filter}
use Rattle.rt_laws.proofs.semaphores.Asked.{IsAsked}
use Rattle.rt_laws.proofs.jobs.Engaged.{holder-engaged, waiting-engaged}
use Rattle.rt_laws.proofs.GroupLaws.{user-task}
use Rattle.rt_laws.proofs.Moves.{last_move}
use Rattle.rt_laws.proofs.Next.{next}
use Rattle.rt_laws.proofs.semaphores.OneWait.{awaits-is, waits_once}
use Rattle.rt_laws.proofs.pcp.PcpState.{IsUser, pcp-waiting, pcp_kept, sem-home}
use Rattle.rt_laws.proofs.pcp.PcpWalks.{walk-step, walk-stops}
use Rattle.rt_laws.proofs.Rules.{MeetsRules}
use Rattle.rt_laws.proofs.semaphores.SemaphoreLaws.{holder_waits_not}
use Rattle.rt_laws.proofs.ValidSets.{rules_of}
use Rattle.rt_laws.proofs.semaphores.Waiting.{awaits-waits, none-waits}
use Rattle.rt_laws.proofs.semaphores.WaitsHolding.{waits_under_pcp}
use Rattle.rt_changes.specs.HoldChanges.{IsGrant, IsQueueing, IsRelease, IsServed, KeepsHolds}
use Rattle.rt_changes.specs.Owners.{newest_owner, owner}
use Rattle.rt_changes.proofs.Acting.{IsParty, all_parties, party-home}
use Rattle.rt_changes.proofs.Freeing.{freer-waits_not}
use Rattle.rt_changes.proofs.HoldChanges.{lock_grants, lock_queues, unlock_releases}
use Rattle.rt_changes.proofs.Owning.{waits-owner}
use Rattle.rt_changes.proofs.Waiters.{IsNewest, newest}
use Rattle.prio_inherit.specs.Waits.{Waits, next_of}
use Rattle.pcp_sem.specs.Pairs.{tasks_of}
use Rattle.sem_table.specs.Asked.{after_ask, is_granted}
use Rattle.sem_table.specs.Released.{after_release}
use Rattle.sem_table.specs.Told.{owner_of, waiters_of}
use Rattle.sem_table.specs.KeptSems.{KeepsSems}
use Rattle.sem_table.specs.Telling.{AreFewTasks, IsServedBy, waiters_at}
use Rattle.sem_table.proofs.Conditions.{ask_fits, release_fits}
use Rattle.sem_table.proofs.Keeps.{ask_keeps, release_keeps}
use Rattle.sem_table.proofs.NewRows.{between}
use Rattle.sem_table.proofs.Owner.{tells_owner}
use Rattle.sem_table.proofs.Rows.{grants_as_rules}
use Rattle.sem_table.proofs.ServedNext.{tells_served}
use Rattle.sem_table.proofs.Waiters.{tells_waiters, waiters_are_few}
use Rattle.sem_table.proofs.Waits.{ask_is_known, release_is_known}
use Rattle.mpcp_ceilings.specs.Ceilings.{AreCeilings, CeilingTable}
use Rattle.group_sems.specs.BoostKeys.{IsSemOf}
use Rattle.group_sems.specs.GroupSems.{GroupSems}
use Rattle.group_sems.specs.Locking.{CanRetell, CanServe, freed_waits, served_waits, with_boost}
use Rattle.group_sems.specs.Telling.{AreShallow, CanTell, HasBase}
use Rattle.group_sems.proofs.TellingLaws.{next-set}
use Rattle.group_sems.specs.Fitting.{LockFits, UnlockFits}
use Rattle.group_sems.specs.Kept.{KeepsBases, KeepsGroupSems, KeepsNexts}

-- ---- tasks and semaphores of the set

task-range : (g : Group) (t : ℕ) → has t (tasks g) ≡ true → (1 ≤ t) × (t < 1 + length g.setup.tasks)
unfolding tasks
task-range g t h = between t 1 (length g.setup.tasks) (both _ _ (rw has-filter at h)).0

sem-range : (g : Group) (s : ℕ) → has s (sems g) ≡ true → (1 ≤ s) × (s < 1 + length g.setup.sems)
unfolding sems
sem-range g s h = between s 1 (length g.setup.sems) h

few-tasks : (g : Group) → length (tasks g) ≤ length g.setup.tasks
unfolding tasks
few-tasks g =
    let all : List ℕ = numbers_from 1 (length g.setup.tasks) in
    let m : length (filter (λ t. in_group g (home g t)) (numbers_from 1 (length g.setup.tasks))) ≤ length (numbers_from 1 (length g.setup.tasks)) = length-distinct _ _ (distinct-filter _ _ (distinct-numbers_from 1 (length g.setup.tasks))) (distinct-numbers_from 1 (length g.setup.tasks)) (λ t h. (both _ _ (rw has-filter at h)).0) in
    omega (arith, m, length-numbers_from 1 (length g.setup.tasks))

sem-there : (g : Group) (c : CeilingTable) (s : ℕ) → AreCeilings g c → has s (sems g) ≡ true → IsSemOf g.setup c s
sem-there g c s k known = let r = sem-range g s known in record { low = r.0; high = omega (arith, r.1); row = omega (arith, r.1, k.count) }

some-key : (o : Option Key) (k : Key) → o ≡ Some k → IsSome o
some-key None k h = cc
some-key (Some key) k h = refl

has-base : (g : Group) (past : Past) (bases : List (Option Key)) (t : ℕ) → KeepsBases g past bases → has t (tasks g) ≡ true → HasBase bases t
has-base g past bases t k there = some-key (slice_index_or bases t None) (base_key g t past) (k.are t there)

can-serve : (g : Group) (past : Past) (bases : List (Option Key)) (t : ℕ) → KeepsBases g past bases → has t (tasks g) ≡ true → CanServe g.setup t bases
can-serve g past bases t k there = let r = task-range g t there in record { based = has-base g past bases t k there; low = r.0; high = omega (arith, r.1) }

-- ---- owners and those that wait for them

-- a task that owns a semaphore holds one
pub record IsOwner (g : Group) (o : ℕ) (past : Past) : Type 0 where
  pub member : has o (tasks g) ≡ true
  pub waits_not : awaits g o past ≡ None

module _ (g : Group) (valid : IsValid g.setup) (past : Past) (made : IsReachable g past) where
  rules : MeetsRules g
  rules = rules_of g valid

  holder-member : (s o : ℕ) → holder g s past ≡ Some o → has o (tasks g) ≡ true
  holder-member s o h = (user-task g s o (all_parties g rules made o s (holder-engaged g o s past (some-is o (holder g s past) h))).user).0

  waiter-member : (s u : ℕ) → awaits g u past ≡ Some s → has u (tasks g) ≡ true
  waiter-member s u h = (user-task g s u (all_parties g rules made u s (waiting-engaged g u s past (awaits-waits g u s past h).1)).user).0

  -- whoever is waited for waits for nothing
  awaited-free : (u x : ℕ) → waits_for g u past ≡ Some x → awaits g x past ≡ None
  awaited-free u x h = by_wait (awaits g u past) refl
    where
      by_wait : (o : Option ℕ) → awaits g u past ≡ o → awaits g x past ≡ None
      by_wait None e = let none : None ≡ Some x = sym (walk-stops g rules past made u e) ∙ h in cc
      by_wait (Some r) e =
          let q = walk-step g rules past made u r e in
          let two : Some q.0 ≡ Some x = sym q.1 ∙ h in
          let same : q.0 ≡ x = cc in
          subst (λ (n : ℕ). awaits g n past ≡ None) same q.2

  newest-waits-not : (c o : ℕ) → newest_owner g c past ≡ Some o → awaits g o past ≡ None
  newest-waits-not c o h = by_wait (awaits g o past) refl
    where
      n : IsNewest g c o past
      n = newest g rules c o past made h

      by_wait : (a : Option ℕ) → awaits g o past ≡ a → awaits g o past ≡ None
      by_wait None e = e
      by_wait (Some r) e =
          let w = awaits-waits g o r past e in
          let of_pcp : is_pcp (protocol g r) ≡ true = (waits_under_pcp g rules made o n.sem r n.known w.0 (some-is o (holder g n.sem past) n.holder_is) w.1).1 in
          let at_home : home g o ≡ cluster_of g r = party-home g rules o r (all_parties g rules made o r (waiting-engaged g o r past w.1)) of_pcp in
          let here : cluster_of g r ≡ c = sym at_home ∙ n.at_home in
          let owns : owner g r past ≡ Some o = rw (of_pcp, here) h in
          awaited-free o o (waits-owner g rules past made o r e ∙ owns)

  pub owner-is : (s o : ℕ) → has s (sems g) ≡ true → owner g s past ≡ Some o → IsOwner g o past
  owner-is s o known = by_kind (is_pcp (protocol g s)) refl
    where
      by_kind : (b : Bool) → is_pcp (protocol g s) ≡ b → (if b then newest_owner g (cluster_of g s) past else holder g s past) ≡ Some o → IsOwner g o past
      by_kind true k h = let n : IsNewest g (cluster_of g s) o past = newest g rules (cluster_of g s) o past made h in record { member = holder-member n.sem o n.holder_is; waits_not = newest-waits-not (cluster_of g s) o h }
      by_kind false k h = record { member = holder-member s o h; waits_not = holder_waits_not g past valid made o s known k h }

  -- whoever waits for the owner of a semaphore waits at one
  waiter-waits : (s w : ℕ) → has s (sems g) ≡ true → has w (waiters_at g s past) ≡ true → (r : ℕ) × (awaits g w past ≡ Some r)
  waiter-waits s w known = by_kind (is_pcp (protocol g s))
    where
      in_cluster : (r : ℕ) × (has_pair w r (pcp g (cluster_of g s) past).waiting ≡ true) → (r : ℕ) × (awaits g w past ≡ Some r)
      in_cluster q =
          let u : IsUser g (cluster_of g s) w q.0 = (pcp_kept g rules (cluster_of g s) made).waiting w q.0 q.1 in
          let here : cluster_of g q.0 ≡ cluster_of g s = sem-home g rules (cluster_of g s) w q.0 u in
          let d = user-task g q.0 w u.user in
          let waits : has w (sem_state g q.0 past).waiting ≡ true = pcp-waiting g w q.0 past u.of_pcp ∙ subst (λ (n : ℕ). has_pair w q.0 (pcp g n past).waiting ≡ true) (sym here) q.1 in
          (q.0, awaits-is g w q.0 past (waits_once g rules made) (rules.is_known w q.0 d.0 d.1) waits)

      by_kind : (b : Bool) → has w (if b then tasks_of (pcp g (cluster_of g s) past).waiting else (sem_state g s past).waiting) ≡ true → (r : ℕ) × (awaits g w past ≡ Some r)
      by_kind true h = in_cluster (pair-of w (pcp g (cluster_of g s) past).waiting h)
      by_kind false h = (s, awaits-is g w s past (waits_once g rules made) known h)

  -- ---- whom each task waits for, as it is kept

  module _ (nexts : List (Option ℕ)) (kept : KeepsNexts g past nexts) where
    next-waits : (u x : ℕ) → next_of nexts u ≡ Some x → waits_for g u past ≡ Some x
    next-waits u x h = by_member (has u (tasks g)) refl
      where
        by_member : (b : Bool) → has u (tasks g) ≡ b → waits_for g u past ≡ Some x
        by_member true m = sym (kept.are u m) ∙ h
        by_member false m = let none : None ≡ Some x = sym (kept.others u m) ∙ h in cc

    free-next : (u : ℕ) → awaits g u past ≡ None → next_of nexts u ≡ None
    free-next u e = by_member (has u (tasks g)) refl
      where
        by_member : (b : Bool) → has u (tasks g) ≡ b → next_of nexts u ≡ None
        by_member true m = kept.are u m ∙ walk-stops g rules past made u e
        by_member false m = kept.others u m

    next-free : (u x : ℕ) → next_of nexts u ≡ Some x → awaits g x past ≡ None
    next-free u x h = awaited-free u x (next-waits u x h)

    kept-shallow : AreShallow nexts
    kept-shallow u x h = free-next x (next-free u x h)

some-none : (r : ℕ) (o : Option ℕ) → o ≡ Some r → o ≡ None → ⊥
some-none r o h k = let m : Some r ≡ None = sym h ∙ k in cc

-- ---- a Lock

-- a Lock that is queued leaves what is held under PCP, and each owner
queued-held : (g : Group) (c t s : ℕ) (e : Event) (past : Past) → sem_act e ≡ Asks t s → is_granted_by_rules g (protocol g s) s t past ≡ false → (pcp g c (e ∷ past)).held ≡ (pcp g c past).held
unfolding pcp at_cluster is_granted_by_rules
queued-held g c t s e past a may_not = rw a (by_case (home g t == c && is_pcp (protocol g s)) refl)
  where
    stops : (p : Protocol) → is_pcp p ≡ true → is_granted_by_rules g p s t past ≡ false → passes (above_ceiling g) (pcp g (home g t) past).held t ≡ false
    stops Pcp k m = m
    stops Fmlp k m = cc
    stops Omlp k m = cc
    stops Mpcp k m = cc
    stops Srp k m = cc

    by_case : (b : Bool) → home g t == c && is_pcp (protocol g s) ≡ b → (pcp_after (above g []) (above_ceiling g) (if b then Asks t s else Neither) (pcp g c past)).held ≡ (pcp g c past).held
    by_case false k = refl
    by_case true k =
        let q = both (home g t == c) (is_pcp (protocol g s)) k in
        let no : passes (above_ceiling g) (pcp g c past).held t ≡ false = subst (λ n. passes (above_ceiling g) (pcp g n past).held t ≡ false) (eqb-true (home g t) c q.0) (stops (protocol g s) q.1 may_not) in
        rw no refl

owner-queued : (g : Group) → IsValid g.setup → (e : Event) (past : Past) → IsReachable g (e ∷ past) → (t s : ℕ) → sem_act e ≡ Asks t s → is_granted_by_rules g (protocol g s) s t past ≡ false → (r : ℕ) → owner g r (e ∷ past) ≡ owner g r past
owner-queued g valid e past made t s h may_not r = by_kind (is_pcp (protocol g r))
  where
    by_kind : (b : Bool) → (if b then newest_owner g (cluster_of g r) (e ∷ past) else holder g r (e ∷ past)) ≡ (if b then newest_owner g (cluster_of g r) past else holder g r past)
    by_kind true = rw (queued-held g (cluster_of g r) t s e past h may_not) refl
    by_kind false = (lock_queues g e past valid made t s h may_not).holders r

module _ (g : Group) (valid : IsValid g.setup) (e : Event) (past : Past) (made_after : IsReachable g (e ∷ past)) (t s : ℕ) (h : sem_act e ≡ Asks t s) (v : GroupSems) (k : KeepsGroupSems g past v) where
  made : IsReachable g past
  made = (last_move g made_after).0

  a : IsAsked g t s past
  a = (next g (rules_of g valid) made (last_move g made_after).1).asked t s h

  asker-free : awaits g t past ≡ None
  asker-free = none-waits g t past a.waits_none

  after : KeepsSems g (e ∷ past) (after_ask t (base_key g t past) s v.table)
  after = ask_keeps g e past valid made_after v.table t s h k.locks.sems_are

  owner-after : (o : ℕ) → owner_of (after_ask t (base_key g t past) s v.table) s ≡ Some o → owner g s (e ∷ past) ≡ Some o
  owner-after o m = sym (tells_owner g (e ∷ past) valid made_after (after_ask t (base_key g t past) s v.table) s t a.known a.user after) ∙ m

  granted : is_granted t (base_key g t past) s v.table ≡ is_granted_by_rules g (protocol g s) s t past
  granted = grants_as_rules g e past valid made_after v.table t s h k.locks.sems_are

  -- nobody waits for a task that is queued
  lone : is_granted_by_rules g (protocol g s) s t past ≡ false → (u : ℕ) → waits_for g u past ≡ Some t → ⊥
  lone may_not u w = by_wait (awaits g u past) refl
    where
      q : IsQueueing g t s e past
      q = lock_queues g e past valid made_after t s h may_not

      by_wait : (o : Option ℕ) → awaits g u past ≡ o → ⊥
      by_wait None m = some-none t _ w (walk-stops g (rules_of g valid) past made u m)
      by_wait (Some r) m =
          let other : u == t ≡ false = unless _ (λ n. some-none r _ (subst (λ (x : ℕ). awaits g x past ≡ Some r) (eqb-true u t n) m) asker-free) in
          let still : awaits g u (e ∷ past) ≡ Some r = q.others u other ∙ m in
          let owns : owner g r (e ∷ past) ≡ Some t = owner-queued g valid e past made_after t s h may_not r ∙ sym (waits-owner g (rules_of g valid) past made u r m) ∙ w in
          let to : waits_for g u (e ∷ past) ≡ Some t = waits-owner g (rules_of g valid) (e ∷ past) made_after u r still ∙ owns in
          some-none s _ q.waits (awaited-free g valid (e ∷ past) made_after u t to)

  queue : is_granted t (base_key g t past) s v.table ≡ false → (o : ℕ) → owner_of (after_ask t (base_key g t past) s v.table) s ≡ Some o → CanTell o (t ∷ []) v.waits.bases v.waits.nexts
  queue queued o m = record {
    shallow = kept-shallow g valid past made v.waits.nexts k.locks.nexts_are;
    owner_based = has-base g past v.waits.bases o k.bases is_owner.member;
    owner_waits_not = free-next g valid past made v.waits.nexts k.locks.nexts_are o (sym (q.others o other) ∙ is_owner.waits_not);
    owner_outside = rw other refl;
    based = λ x n. subst (HasBase v.waits.bases) (sym (has-one x t n)) (has-base g past v.waits.bases t k.bases a.member);
    awaited_not = λ x u n w. lone may_not u (subst (λ (y : ℕ). waits_for g u past ≡ Some y) (has-one x t n) (next-waits g valid past made v.waits.nexts k.locks.nexts_are u x w));
  }
    where
      may_not : is_granted_by_rules g (protocol g s) s t past ≡ false
      may_not = sym granted ∙ queued

      q : IsQueueing g t s e past
      q = lock_queues g e past valid made_after t s h may_not

      is_owner : IsOwner g o (e ∷ past)
      is_owner = owner-is g valid (e ∷ past) made_after s o a.known (owner-after o m)

      other : o == t ≡ false
      other = unless _ (λ n. some-none s _ (subst (λ (x : ℕ). awaits g x (e ∷ past) ≡ Some s) (sym (eqb-true o t n)) q.waits) is_owner.waits_not)

  few-after : AreFewTasks g (waiters_of (after_ask t (base_key g t past) s v.table) s)
  few-after = (waiters_are_few g (e ∷ past) valid made_after (after_ask t (base_key g t past) s v.table) s t a.known a.user after).0

  waits-after : (x : ℕ) → has x (waiters_of (after_ask t (base_key g t past) s v.table) s) ≡ true → (r : ℕ) × (awaits g x (e ∷ past) ≡ Some r)
  waits-after x m = waiter-waits g valid (e ∷ past) made_after s x a.known (subst (λ (ws : List ℕ). has x ws ≡ true) (tells_waiters g (e ∷ past) valid made_after (after_ask t (base_key g t past) s v.table) s t a.known a.user after) m)

  tell : is_granted t (base_key g t past) s v.table ≡ true → CanRetell (after_ask t (base_key g t past) s v.table) s v.waits.bases v.waits.nexts
  tell given = record {
    few = omega (arith, few-after.few, few-tasks g, k.bases.room);
    tell = λ o m. let is_owner : IsOwner g o (e ∷ past) = owner-is g valid (e ∷ past) made_after s o a.known (owner-after o m) in record {
      shallow = kept-shallow g valid past made v.waits.nexts k.locks.nexts_are;
      owner_based = has-base g past v.waits.bases o k.bases is_owner.member;
      owner_waits_not = free-next g valid past made v.waits.nexts k.locks.nexts_are o (free-before o is_owner.waits_not);
      owner_outside = unless _ (λ n. let w = waits-after o n in some-none w.0 _ w.1 is_owner.waits_not);
      based = λ x n. has-base g past v.waits.bases x k.bases (few-after.of_group x n);
      awaited_not = λ x u n w. let z = waits-after x n in some-none z.0 _ z.1 (free-still x (next-free g valid past made v.waits.nexts k.locks.nexts_are u x w));
    };
  }
    where
      q : IsGrant g t s e past
      q = lock_grants g e past valid made_after t s h (sym granted ∙ given)

      free-before : (o : ℕ) → awaits g o (e ∷ past) ≡ None → awaits g o past ≡ None
      free-before o w = by_task (o == t) refl
        where
          by_task : (b : Bool) → o == t ≡ b → awaits g o past ≡ None
          by_task true n = subst (λ (x : ℕ). awaits g x past ≡ None) (sym (eqb-true o t n)) asker-free
          by_task false n = let r : KeepsHolds g o e past = q.others o n in sym r.awaited ∙ w

      free-still : (o : ℕ) → awaits g o past ≡ None → awaits g o (e ∷ past) ≡ None
      free-still o w = by_task (o == t) refl
        where
          by_task : (b : Bool) → o == t ≡ b → awaits g o (e ∷ past) ≡ None
          by_task true n = subst (λ (x : ℕ). awaits g x (e ∷ past) ≡ None) (sym (eqb-true o t n)) q.waits_not
          by_task false n = let r : KeepsHolds g o e past = q.others o n in r.awaited ∙ w

pub lock_fits : LockFits
lock_fits g e past valid made v t s h k =
    let known = ask_is_known g e past valid made v.table t s h k.locks.sems_are k.locks.rows_are in
    let asks_it : IsAsked g t s past = a g valid e past made t s h v k in
    record {
      task = known.0.task;
      sem = known.0.sem;
      idle = known.1;
      may = ask_fits g e past valid made v.table t s h k.locks.sems_are;
      sem_there = sem-there g v.ceilings s k.locks.ceilings_are asks_it.known;
      based = can-serve g past v.waits.bases t k.bases asks_it.member;
      queue = queue g valid e past made t s h v k;
      tell = tell g valid e past made t s h v k;
    }

-- ---- an Unlock

-- the task that is served waits no longer
abbrev freed-next : Option ℕ → List (Option ℕ) → List (Option ℕ)
freed-next None nexts = nexts
freed-next (Some u) nexts = slice_set nexts u None

none-set : (nexts : List (Option ℕ)) (u : ℕ) → next_of (slice_set nexts u None) u ≡ None
none-set [] u = refl
none-set (n ∷ ns) zero = refl
none-set (n ∷ ns) (suc u) = none-set ns u

still-none : (o : Option ℕ) (nexts : List (Option ℕ)) (x : ℕ) → next_of nexts x ≡ None → next_of (freed-next o nexts) x ≡ None
still-none None nexts x h = h
still-none (Some u) nexts x h = by_task (x == u) refl
  where
    by_task : (b : Bool) → x == u ≡ b → next_of (slice_set nexts u None) x ≡ None
    by_task true e = subst (λ (y : ℕ). next_of (slice_set nexts u None) y ≡ None) (sym (eqb-true x u e)) (none-set nexts u)
    by_task false e = next-set nexts u x None e ∙ h

was-next : (o : Option ℕ) (nexts : List (Option ℕ)) (x y : ℕ) → next_of (freed-next o nexts) x ≡ Some y → next_of nexts x ≡ Some y
was-next None nexts x y h = h
was-next (Some u) nexts x y h = by_task (x == u) refl
  where
    by_task : (b : Bool) → x == u ≡ b → next_of nexts x ≡ Some y
    by_task true e = absurd (some-none y _ (subst (λ (z : ℕ). next_of (slice_set nexts u None) z ≡ Some y) (eqb-true x u e) h) (none-set nexts u))
    by_task false e = sym (next-set nexts u x None e) ∙ h

served-none : (o : Option ℕ) (nexts : List (Option ℕ)) (x : ℕ) → o ≡ Some x → next_of (freed-next o nexts) x ≡ None
served-none None nexts x h = cc
served-none (Some u) nexts x h = let same : u ≡ x = cc in subst (λ (y : ℕ). next_of (slice_set nexts u None) y ≡ None) same (none-set nexts u)

served-nexts : (p : Parts) (c : CeilingTable) (clock s : ℕ) (o : Option ℕ) (w : Waits) → (served_waits p c clock s o w).nexts ≡ freed-next o w.nexts
served-nexts p c clock s None w = refl
served-nexts p c clock s (Some u) w = refl

served-bases : (p : Parts) (c : CeilingTable) (clock s : ℕ) (o : Option ℕ) (w : Waits) → (served_waits p c clock s o w).bases ≡ w.bases
served-bases p c clock s None w = refl
served-bases p c clock s (Some u) w = refl

module _ (g : Group) (valid : IsValid g.setup) (e : Event) (past : Past) (made_after : IsReachable g (e ∷ past)) (t s : ℕ) (h : sem_act e ≡ Frees t s) (v : GroupSems) (k : KeepsGroupSems g past v) where
  began : IsReachable g past
  began = (last_move g made_after).0

  pub party : IsParty g t s
  party = all_parties g (rules_of g valid) began t s (holder-engaged g t s past ((next g (rules_of g valid) began (last_move g made_after).1).freed t s h))

  release : IsRelease g t s e past
  release = unlock_releases g e past valid made_after t s h

  freer-free : awaits g t past ≡ None
  freer-free = none-waits g t past (λ r there. freer-waits_not g (rules_of g valid) began (last_move g made_after).1 t s r h there)

  freed-after : KeepsSems g (e ∷ past) (after_release t s v.table)
  freed-after = release_keeps g e past valid made_after v.table t s h k.locks.sems_are

  served-is : IsServedBy g e past (after_release t s v.table).served
  served-is = tells_served g e past valid made_after v.table t s h k.locks.sems_are

  freed-owner : (o : ℕ) → owner_of (after_release t s v.table) s ≡ Some o → owner g s (e ∷ past) ≡ Some o
  freed-owner o m = sym (tells_owner g (e ∷ past) valid made_after (after_release t s v.table) s t party.known party.user freed-after) ∙ m

  freed-few : AreFewTasks g (waiters_of (after_release t s v.table) s)
  freed-few = (waiters_are_few g (e ∷ past) valid made_after (after_release t s v.table) s t party.known party.user freed-after).0

  freed-waits : (x : ℕ) → has x (waiters_of (after_release t s v.table) s) ≡ true → (r : ℕ) × (awaits g x (e ∷ past) ≡ Some r)
  freed-waits x m = waiter-waits g valid (e ∷ past) made_after s x party.known (subst (λ (ws : List ℕ). has x ws ≡ true) (tells_waiters g (e ∷ past) valid made_after (after_release t s v.table) s t party.known party.user freed-after) m)

  abbrev left : List (Option ℕ)
  left = freed-next (after_release t s v.table).served v.waits.nexts

  -- who waits for nothing after it is kept so
  left-free : (o : ℕ) → awaits g o (e ∷ past) ≡ None → next_of left o ≡ None
  left-free o w = by_task (o == t) refl
    where
      free-before : awaits g o past ≡ None → next_of left o ≡ None
      free-before m = still-none (after_release t s v.table).served v.waits.nexts o (free-next g valid past began v.waits.nexts k.locks.nexts_are o m)

      split : KeepsHolds g o e past ⊎ ((r : ℕ) × IsServed g o r e past) → next_of left o ≡ None
      split (inl q) = free-before (sym q.awaited ∙ w)
      split (inr q) = served-none (after_release t s v.table).served v.waits.nexts o (served-is.takes o q.0 q.1)

      by_task : (b : Bool) → o == t ≡ b → next_of left o ≡ None
      by_task true n = free-before (subst (λ (x : ℕ). awaits g x past ≡ None) (sym (eqb-true o t n)) freer-free)
      by_task false n = split (release.others o n)

  freed-still : (x : ℕ) → awaits g x past ≡ None → awaits g x (e ∷ past) ≡ None
  freed-still x w = by_task (x == t) refl
    where
      split : KeepsHolds g x e past ⊎ ((r : ℕ) × IsServed g x r e past) → awaits g x (e ∷ past) ≡ None
      split (inl q) = q.awaited ∙ w
      split (inr q) = q.1.waits_not

      by_task : (b : Bool) → x == t ≡ b → awaits g x (e ∷ past) ≡ None
      by_task true n = subst (λ (y : ℕ). awaits g y (e ∷ past) ≡ None) (sym (eqb-true x t n)) release.waits_not
      by_task false n = split (release.others x n)

  left-next : (u x : ℕ) → next_of left u ≡ Some x → next_of v.waits.nexts u ≡ Some x
  left-next u x m = was-next (after_release t s v.table).served v.waits.nexts u x m

  freed-tell : CanRetell (after_release t s v.table) s v.waits.bases left
  freed-tell = record {
    few = omega (arith, freed-few.few, few-tasks g, k.bases.room);
    tell = λ o m. let is_owner : IsOwner g o (e ∷ past) = owner-is g valid (e ∷ past) made_after s o party.known (freed-owner o m) in record {
      shallow = λ u x w. still-none (after_release t s v.table).served v.waits.nexts x (kept-shallow g valid past began v.waits.nexts k.locks.nexts_are u x (left-next u x w));
      owner_based = has-base g past v.waits.bases o k.bases is_owner.member;
      owner_waits_not = left-free o is_owner.waits_not;
      owner_outside = unless _ (λ n. let w = freed-waits o n in some-none w.0 _ w.1 is_owner.waits_not);
      based = λ x n. has-base g past v.waits.bases x k.bases (freed-few.of_group x n);
      awaited_not = λ x u n w. let z = freed-waits x n in some-none z.0 _ z.1 (freed-still x (next-free g valid past began v.waits.nexts k.locks.nexts_are u x (left-next u x w)));
    };
  }

  freed-retell : CanRetell (after_release t s v.table) s (freed_waits g.setup (now past) t s v).bases (freed_waits g.setup (now past) t s v).nexts
  freed-retell = rw (served-nexts g.setup v.ceilings (now past) s (after_release t s v.table).served (with_boost t None v.waits), served-bases g.setup v.ceilings (now past) s (after_release t s v.table).served (with_boost t None v.waits)) freed-tell

  pub served-member : (u : ℕ) → (after_release t s v.table).served ≡ Some u → has u (tasks g) ≡ true
  served-member u m = let q : (r : ℕ) × IsServed g u r e past = served-is.gives u m in waiter-member g valid past began q.0 u q.1.waited

pub unlock_fits : UnlockFits
unlock_fits g e past valid made v t s h k =
    let known = release_is_known g e past valid made v.table t s h k.locks.sems_are k.locks.rows_are in
    let frees_it : IsParty g t s = party g valid e past made t s h v k in
    record {
      task = known.task;
      sem = known.sem;
      may = release_fits g e past valid made v.table t s h k.locks.sems_are;
      sem_there = sem-there g v.ceilings s k.locks.ceilings_are frees_it.known;
      based = has-base g past v.waits.bases t k.bases (user-task g s t frees_it.user).0;
      served = λ u m. can-serve g past v.waits.bases u k.bases (served-member g valid e past made t s h v k u m);
      tell = freed-retell g valid e past made t s h v k;
    }
