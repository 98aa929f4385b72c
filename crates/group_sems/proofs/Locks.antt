-- A lock makes of what is kept what an accepted Lock does.
use Rattle.std.proofs.Common.{Bool, eqb-true, false, inl, inr, length, length-set, refl, subst, sym, ap, true, ℕ, ◌<◌, ◌∙◌, ◌∷◌, ◌≡◌, ◌⊎◌}
use Rattle.std.specs.Prelude.{None, Option, Some, ◌==◌, slice_set}
use Rattle.rt_task.specs.RuleWords.{is_stacked}
use Rattle.rt_task.specs.Validity.{IsValid}
use Rattle.rt_rules.specs.declared.Key.{Key}
use Rattle.rt_rules.specs.Numbers.{has}
use Rattle.rt_rules.specs.SemState.{Asks}
use Rattle.rt_rules.proofs.BoolLaws.{clash, either, unless}
use Rattle.rt_model.specs.Answers.{is_granted as is_granted_by_rules}
use Rattle.rt_model.specs.BaseKeys.{base_key}
use Rattle.rt_model.specs.Boosts.{boost}
use Rattle.rt_model.specs.Ceilings.{is_pcp}
use Rattle.rt_model.specs.EffectiveKeys.{waits_for}
use Rattle.rt_model.specs.Group.{Group, protocol, tasks}
use Rattle.rt_model.specs.Holders.{awaits, holds}
use Rattle.rt_model.specs.Past.{Event, Past, now, sem_act}
use Rattle.rt_model.specs.Reachable.{IsReachable}
use Rattle.rt_laws.proofs.semaphores.Asked.{IsAsked}
use Rattle.rt_laws.proofs.semaphores.Holding.{holds-one}
use Rattle.rt_laws.proofs.Moves.{last_move}
use Rattle.rt_laws.proofs.Next.{next}
use Rattle.rt_laws.proofs.pcp.PcpWalks.{walk-stops}
use Rattle.rt_laws.proofs.Rules.{MeetsRules}
use Rattle.rt_laws.proofs.semaphores.SemaphoreLaws.{requests_do_not_nest}
use Rattle.rt_laws.proofs.ValidSets.{rules_of}
use Rattle.rt_laws.proofs.semaphores.Waiting.{none-waits}
use Rattle.rt_changes.specs.HoldChanges.{IsGrant, IsQueueing}
use Rattle.rt_changes.specs.Owners.{owner, sem_of}
use Rattle.rt_changes.proofs.Apart.{asks-holds_not}
use Rattle.rt_changes.proofs.Boosts.{boost_of_holder, grant_is_now}
use Rattle.rt_changes.proofs.HoldChanges.{lock_grants, lock_queues}
use Rattle.rt_changes.proofs.Owning.{waits-owner}
use Rattle.prio_inherit.specs.Waits as kept_keys
use Rattle.prio_inherit.specs.Waits.{Waits, next_of}
use Rattle.sem_table.specs.Asked.{after_ask, is_granted}
use Rattle.sem_table.specs.SemTable.{SemTable}
use Rattle.sem_table.specs.Told.{owner_of}
use Rattle.sem_table.specs.KeptSems.{KeepsSems}
use Rattle.sem_table.proofs.Keeps.{ask_keeps}
use Rattle.sem_table.proofs.Owner.{tells_owner}
use Rattle.sem_table.proofs.Rows.{ask_rows, grants_as_rules}
use Rattle.group_sems.specs.BoostKeys.{boost_now}
use Rattle.group_sems.specs.GroupSems.{GroupSems}
use Rattle.group_sems.specs.Locking.{asked_waits, with_boost}
use Rattle.group_sems.specs.Telling.{retold}
use Rattle.group_sems.specs.Keeping.{LockIsKept}
use Rattle.group_sems.specs.Kept.{KeepsBoosts, KeepsLocks, KeepsNexts}
use Rattle.group_sems.proofs.Bases.{task-position}
use Rattle.group_sems.proofs.Boosting.{boost-kept, boost-stacked, pcp-stacked, boost-now-is, boost-now-none, boost-set, boost-unset, next-set, next-unset, now-stays}
use Rattle.group_sems.proofs.Outside.{asked-empty}
use Rattle.group_sems.proofs.Owners.{queued-owner}
use Rattle.group_sems.proofs.Retelling.{IsBefore, retold-boosts, retold-keeps}

module _ (g : Group) (e : Event) (past : Past) (valid : IsValid g.setup) (made_after : IsReachable g (e ∷ past)) (v : GroupSems) (t s : ℕ) (a : sem_act e ≡ Asks t s) (k : KeepsLocks g past v) where
  rules : MeetsRules g
  rules = rules_of g valid

  made : IsReachable g past
  made = (last_move g made_after).0

  asks : IsAsked g t s past
  asks = (next g rules made (last_move g made_after).1).asked t s a

  acts : sem_of (sem_act e) ≡ Some s
  acts = rw a

  abbrev table : SemTable
  table = after_ask t (base_key g t past) s v.table

  sems_after : KeepsSems g (e ∷ past) table
  sems_after = ask_keeps g e past valid made_after v.table t s a k.sems_are

  owner-before : owner_of v.table s ≡ owner g s past
  owner-before = tells_owner g past valid made v.table s t asks.known asks.user k.sems_are

  owner-after : owner_of table s ≡ owner g s (e ∷ past)
  owner-after = tells_owner g (e ∷ past) valid made_after table s t asks.known asks.user sems_after

  waits_none : awaits g t past ≡ None
  waits_none = none-waits g t past asks.waits_none

  next-position : t < length v.waits.nexts
  next-position = subst (λ (n : ℕ). t < n) (sym k.nexts_are.room) (task-position g t asks.member)

  boost-position : t < length v.waits.boosts
  boost-position = subst (λ (n : ℕ). t < n) (sym k.boosts_are.room) (task-position g t asks.member)

  not-it : (u : ℕ) → has u (tasks g) ≡ false → u == t ≡ false
  not-it u away = unless _ (λ m. clash _ asks.member (subst (λ (n : ℕ). has n (tasks g) ≡ false) (eqb-true u t m) away))

  -- ---- it waits

  module _ (may_not : is_granted_by_rules g (protocol g s) s t past ≡ false) where
    queue : IsQueueing g t s e past
    queue = lock_queues g e past valid made_after t s a may_not

    next-stays : (u : ℕ) → u == t ≡ false → waits_for g u (e ∷ past) ≡ waits_for g u past
    next-stays u ne = by_wait (awaits g u past) refl
      where
        by_wait : (o : Option ℕ) → awaits g u past ≡ o → waits_for g u (e ∷ past) ≡ waits_for g u past
        by_wait None m = walk-stops g rules (e ∷ past) made_after u (queue.others u ne ∙ m) ∙ sym (walk-stops g rules past made u m)
        by_wait (Some r) m = waits-owner g rules (e ∷ past) made_after u r (queue.others u ne ∙ m) ∙ queued-owner g t s r e past a may_not (queue.holders r) ∙ sym (waits-owner g rules past made u r m)

    queued-nexts : KeepsNexts g (e ∷ past) (slice_set v.waits.nexts t (owner_of table s))
    queued-nexts = record {
      room = length-set v.waits.nexts t (owner_of table s) ∙ k.nexts_are.room;
      are = λ u there. by_task u there (u == t) refl;
      others = λ u away. next-unset v.waits.nexts t u (owner_of table s) (not-it u away) ∙ k.nexts_are.others u away;
    }
      where
        by_task : (u : ℕ) → has u (tasks g) ≡ true → (b : Bool) → u == t ≡ b → next_of (slice_set v.waits.nexts t (owner_of table s)) u ≡ waits_for g u (e ∷ past)
        by_task u there true m =
            next-set v.waits.nexts t u (owner_of table s) next-position m
            ∙ owner-after
            ∙ sym (waits-owner g rules (e ∷ past) made_after u s (subst (λ (n : ℕ). awaits g n (e ∷ past) ≡ Some s) (sym (eqb-true u t m)) queue.waits))
        by_task u there false m = next-unset v.waits.nexts t u (owner_of table s) m ∙ k.nexts_are.are u there ∙ sym (next-stays u m)

    queued-boosts : KeepsBoosts g (e ∷ past) v.waits.boosts
    queued-boosts = record { room = k.boosts_are.room; are = λ u there. k.boosts_are.are u there ∙ sym (boost-kept g u e past (queue.held u)) }

  -- ---- it is granted the semaphore

  module _ (may : is_granted_by_rules g (protocol g s) s t past ≡ true) where
    grant : IsGrant g t s e past
    grant = lock_grants g e past valid made_after t s a may

    before : (u : ℕ) → has u (tasks g) ≡ true → IsBefore g e past v.waits.nexts u
    before u there = by_task (u == t) refl
      where
        by_task : (b : Bool) → u == t ≡ b → IsBefore g e past v.waits.nexts u
        by_task true m =
            let same : t ≡ u = sym (eqb-true u t m) in
            inl (subst (λ (n : ℕ). awaits g n (e ∷ past) ≡ awaits g n past) same (grant.waits_not ∙ sym waits_none), k.nexts_are.are u there)
        by_task false m = inl ((grant.others u m).awaited, k.nexts_are.are u there)

    -- the asking task's boost
    abbrev now-key : Option Key
    now-key = boost_now g.setup v.ceilings (now past) s t

    plain-boost : is_pcp (protocol g s) ≡ false → now-key ≡ boost g t (e ∷ past)
    plain-boost plain =
        boost-now-is g v.ceilings (now past) s t (e ∷ past) valid asks.member asks.known k.ceilings_are (grant_is_now g e past valid made_after s t grant.holder_is (asks-holds_not g t s past asks) ∙ now-stays e past s acts)
        ∙ sym (boost_of_holder g (e ∷ past) valid made_after s t asks.known plain grant.holder_is)

    pcp-boost : is_pcp (protocol g s) ≡ true → boost g t (e ∷ past) ≡ None
    pcp-boost pcp = boost-stacked g t (e ∷ past) (λ r there m. is-held r (either _ _ (sym (grant.gains r) ∙ holds-one g t r (e ∷ past) there m)))
      where
        is-held : (r : ℕ) → (r == s ≡ true) ⊎ (has r (holds g t past) ≡ true) → is_stacked (protocol g r) ≡ true
        is-held r (inl m) = subst (λ (n : ℕ). is_stacked (protocol g n) ≡ true) (sym (eqb-true r s m)) (pcp-stacked (protocol g s) pcp)
        is-held r (inr m) = (requests_do_not_nest g e past valid made_after t s a).holds_stacked r m

    own-boost : now-key ≡ boost g t (e ∷ past)
    own-boost = by_kind (is_pcp (protocol g s)) refl
      where
        by_kind : (b : Bool) → is_pcp (protocol g s) ≡ b → now-key ≡ boost g t (e ∷ past)
        by_kind true m = boost-now-none g v.ceilings (now past) s t m ∙ sym (pcp-boost m)
        by_kind false m = plain-boost m

    granted-boosts : KeepsBoosts g (e ∷ past) (slice_set v.waits.boosts t now-key)
    granted-boosts = record {
      room = length-set v.waits.boosts t now-key ∙ k.boosts_are.room;
      are = λ u there. by_task u there (u == t) refl;
    }
      where
        by_task : (u : ℕ) → has u (tasks g) ≡ true → (b : Bool) → u == t ≡ b → kept_keys.boost_of (slice_set v.waits.boosts t now-key) u ≡ boost g u (e ∷ past)
        by_task u there true m = boost-set v.waits.boosts t u now-key boost-position m ∙ own-boost ∙ ap (λ (n : ℕ). boost g n (e ∷ past)) (sym (eqb-true u t m))
        by_task u there false m = boost-unset v.waits.boosts t u now-key m ∙ k.boosts_are.are u there ∙ sym (boost-kept g u e past (grant.others u m).held)

    granted-nexts : KeepsNexts g (e ∷ past) (retold (owner_of v.table s) table s (with_boost t now-key v.waits)).nexts
    granted-nexts = retold-keeps g valid e past made_after s t acts asks.known asks.user table sems_after v.waits.nexts before k.nexts_are.room k.nexts_are.others (owner_of v.table s) (with_boost t now-key v.waits) owner-before refl

  asked-nexts : (b : Bool) → is_granted_by_rules g (protocol g s) s t past ≡ b → KeepsNexts g (e ∷ past) (asked_waits b (boost_now g.setup v.ceilings (now past) s t) t s (owner_of v.table s) table v.waits).nexts
  asked-nexts true m = granted-nexts m
  asked-nexts false m = queued-nexts m

  asked-boosts : (b : Bool) → is_granted_by_rules g (protocol g s) s t past ≡ b → KeepsBoosts g (e ∷ past) (asked_waits b (boost_now g.setup v.ceilings (now past) s t) t s (owner_of v.table s) table v.waits).boosts
  asked-boosts true m = subst (KeepsBoosts g (e ∷ past)) (sym (retold-boosts (owner_of v.table s) table s (with_boost t (boost_now g.setup v.ceilings (now past) s t) v.waits))) (granted-boosts m)
  asked-boosts false m = queued-boosts m

  granted-is : is_granted_by_rules g (protocol g s) s t past ≡ is_granted t (base_key g t past) s v.table
  granted-is = sym (grants_as_rules g e past valid made_after v.table t s a k.sems_are)

pub lock_is_kept : LockIsKept
lock_is_kept g e past valid made v t s a k = record {
  sems_are = ask_keeps g e past valid made v.table t s a k.sems_are;
  rows_are = ask_rows g e past valid made v.table t s a k.sems_are k.rows_are;
  none_outside = asked-empty g e past valid made v t s a k;
  nexts_are = asked-nexts g e past valid made v t s a k (is_granted t (base_key g t past) s v.table) (granted-is g e past valid made v t s a k);
  boosts_are = asked-boosts g e past valid made v t s a k (is_granted t (base_key g t past) s v.table) (granted-is g e past valid made v t s a k);
  ceilings_are = k.ceilings_are;
}
