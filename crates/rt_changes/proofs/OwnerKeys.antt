-- Effective keys from the states of semaphores alone.
use Rattle.std.proofs.Common.{Bool, List, [], eqb-true, false, map, not, refl, subst, sym, true, ℕ, ◌&&◌, ◌++◌, ◌||◌, ◌∙◌, ◌∷◌, ◌≡◌}
use Rattle.std.specs.Prelude.{None, Option, Some, if◌then◌else◌, is_some, ◌==◌}
use Rattle.rt_rules.specs.declared.Key.{Key}
use Rattle.rt_rules.specs.KeyOrder.{higher}
use Rattle.rt_rules.specs.Keys.{highest}
use Rattle.rt_rules.specs.Numbers.{has, is, is_empty}
use Rattle.rt_rules.specs.Pcp.{TaskSem, passes, pcp_after}
use Rattle.rt_rules.specs.SemState.{Asks, Neither}
use Rattle.rt_rules.specs.Walks.{inherited}
use Rattle.rt_task.specs.declared.Protocol.TheVariants.{Fmlp, Mpcp, Omlp, Pcp, Srp}
use Rattle.rt_task.specs.declared.Protocol.{Protocol}
use Rattle.rt_task.specs.Validity.{IsValid}
use Rattle.rt_model.specs.Answers.{is_granted}
use Rattle.rt_model.specs.BaseKeys.{above, base_key}
use Rattle.rt_model.specs.Boosts.{boost, boost_by}
use Rattle.rt_model.specs.Ceilings.{above_ceiling, at_cluster, is_pcp, pcp}
use Rattle.rt_model.specs.EffectiveKeys.{effective_key, waits_for}
use Rattle.rt_model.specs.Group.{Group, home, protocol, sems, tasks}
use Rattle.rt_model.specs.Holders.{awaits, holder, holds, sem_state}
use Rattle.rt_model.specs.Reachable.{IsReachable}
use Rattle.rt_model.specs.Past.{Event, Past, sem_act}
use Rattle.rt_model.specs.Semaphores.{cluster_of}
use Rattle.rt_rules.proofs.BoolLaws.{both, clash, or_true, unless}
use Rattle.rt_rules.proofs.MemberLaws.{equal_self, has-append, has-filter, is-some, some-is}
use Rattle.rt_laws.proofs.semaphores.SemaphoreLaws.{engaged_keeps_job}
use Rattle.rt_laws.proofs.Moves.{last_move}
use Rattle.rt_laws.proofs.Next.{next}
use Rattle.rt_laws.proofs.pcp.PcpWalks.{walk-stops}
use Rattle.rt_laws.proofs.Rules.{MeetsRules}
use Rattle.rt_laws.proofs.ValidSets.{rules_of}
use Rattle.rt_laws.proofs.semaphores.Waiting.{awaits-waits}
use Rattle.rt_changes.specs.KeysOfWaiters.{waiters}
use Rattle.rt_changes.specs.HoldChanges.{IsQueueing}
use Rattle.rt_changes.specs.OwnerKeys.{KeyOfHolder, KeyOfNewestOwner, KeyOfOthers, LeaderGivesKey, QueuedRaisesOwner}
use Rattle.rt_changes.specs.Owners.{newest_owner, owner}
use Rattle.rt_changes.proofs.KeysOfWaiters.{key_is_of_waiters}
use Rattle.rt_changes.proofs.HoldChanges.{queueing}
use Rattle.rt_changes.proofs.Highest.{highest-last, highest-lead, highest-members}
use Rattle.rt_changes.proofs.Boosts.{boost-is, boost-none}
use Rattle.rt_changes.proofs.KeyChanges.{holder-owner, waiter-base}
use Rattle.rt_changes.proofs.Left.{boost-left, granted_at-left}
use Rattle.rt_changes.proofs.Lists.{inherited-same}
use Rattle.rt_changes.proofs.Owning.{owner-holds, waits-owner}
use Rattle.rt_changes.proofs.Waiters.{WaitsAt, owns-one_kind, waiters_of_holder, waiters_of_newest_owner, waits-at}

-- lists with the same members give the same key
inherited-members : (o : Option Key) (f : ℕ → Key) (us vs : List ℕ) (t : ℕ) → ((w : ℕ) → has w us ≡ has w vs) → inherited o f us t ≡ inherited o f vs t
inherited-members None f us vs t h = highest-members f t us vs h
inherited-members (Some k) f us vs t h = refl

pub key_of_holder : KeyOfHolder
key_of_holder g past valid made s v there plain h = key_is_of_waiters g past valid made v ∙ rw (boost-is g v s past valid made there plain (some-is v (holder g s past) h)) (inherited-members (boost_by g (protocol g s) s v past) (λ w. base_key g w past) (waiters g v past) (sem_state g s past).waiting v (λ w. waiters_of_holder g past valid made s v w there plain h))

pub key_of_newest_owner : KeyOfNewestOwner
key_of_newest_owner g past valid made c v h = key_is_of_waiters g past valid made v ∙ rw unboosted (highest-members (λ w. base_key g w past) v (waiters g v past) (map (λ (p : TaskSem). p.task) (pcp g c past).waiting) (λ w. waiters_of_newest_owner g past valid made c v w h))
  where
    unboosted : boost g v past ≡ None
    unboosted = boost-none g v past (λ r there plain. unless _ (λ m. clash _ (owns-one_kind g past valid made c r v h there (is-some v (holder g r past) m)) plain))

pub leader_gives_key : LeaderGivesKey
leader_gives_key g past v x us there leads = highest-lead (λ w. base_key g w past) v x us there leads

-- a list with no members
empty-list : (us : List ℕ) → ((w : ℕ) → has w us ≡ true → ⊥) → us ≡ []
empty-list [] h = refl
empty-list (u ∷ us) h = absurd (h u (rw (equal_self u)))

pub key_of_others : KeyOfOthers
key_of_others g past valid made v none = key_is_of_waiters g past valid made v ∙ rw (unboosted, nobody)
  where
    unboosted : boost g v past ≡ None
    unboosted = boost-none g v past (λ r there plain. unless _ (λ m. clash _ (holder-owner g r v past plain m) (none r there)))

    nobody : waiters g v past ≡ []
    nobody = empty-list (waiters g v past) (λ w h. let q : WaitsAt g v w past = waits-at g (rules_of g valid) v w past made h in clash _ (some-is v (owner g q.sem past) q.owns) (none q.sem q.known))

-- ---- a queued Lock

-- what is held stays
queued-held : (g : Group) (c t s : ℕ) (e : Event) (past : Past) → sem_act e ≡ Asks t s → is_granted g (protocol g s) s t past ≡ false → (pcp g c (e ∷ past)).held ≡ (pcp g c past).held
unfolding pcp at_cluster is_granted
queued-held g c t s e past a may_not = rw a (by_case (home g t == c && is_pcp (protocol g s)) refl)
  where
    stops : (p : Protocol) → is_pcp p ≡ true → is_granted g p s t past ≡ false → passes (above_ceiling g) (pcp g (home g t) past).held t ≡ false
    stops Pcp k m = m
    stops Fmlp k m = cc
    stops Omlp k m = cc
    stops Mpcp k m = cc
    stops Srp k m = cc

    by_case : (b : Bool) → home g t == c && is_pcp (protocol g s) ≡ b → (pcp_after (above g []) (above_ceiling g) (if b then Asks t s else Neither) (pcp g c past)).held ≡ (pcp g c past).held
    by_case false k = refl
    by_case true k =
        let q = both (home g t == c) (is_pcp (protocol g s)) k in
        let no : passes (above_ceiling g) (pcp g c past).held t ≡ false = subst (λ n. passes (above_ceiling g) (pcp g n past).held t ≡ false) (eqb-true (home g t) c q.0) (stops (protocol g s) q.1 may_not) in
        rw no

module _ (g : Group) (valid : IsValid g.setup) (e : Event) (past : Past) (made_after : IsReachable g (e ∷ past)) (t s v : ℕ) (a : sem_act e ≡ Asks t s) (may_not : is_granted g (protocol g s) s t past ≡ false) (owns : owner g s past ≡ Some v) where
  rules : MeetsRules g
  rules = rules_of g valid

  made : IsReachable g past
  made = (last_move g made_after).0

  queue : IsQueueing g t s e past
  queue = queueing g rules e past made (last_move g made_after).1 t s a may_not

  known : has s (sems g) ≡ true
  known = (awaits-waits g t s (e ∷ past) queue.waits).0

  owner_same : (r : ℕ) → owner g r (e ∷ past) ≡ owner g r past
  owner_same r = by_kind (is_pcp (protocol g r))
    where
      by_kind : (b : Bool) → (if b then newest_owner g (cluster_of g r) (e ∷ past) else holder g r (e ∷ past)) ≡ (if b then newest_owner g (cluster_of g r) past else holder g r past)
      by_kind true = rw (queued-held g (cluster_of g r) t s e past a may_not)
      by_kind false = queue.holders r

  next_same : (w : ℕ) → w == t ≡ false → waits_for g w (e ∷ past) ≡ waits_for g w past
  next_same w ne = by_wait (awaits g w past) refl
    where
      by_wait : (o : Option ℕ) → awaits g w past ≡ o → waits_for g w (e ∷ past) ≡ waits_for g w past
      by_wait None k = walk-stops g rules (e ∷ past) made_after w (queue.others w ne ∙ k) ∙ sym (walk-stops g rules past made w k)
      by_wait (Some r) k = waits-owner g rules (e ∷ past) made_after w r (queue.others w ne ∙ k) ∙ (owner_same r ∙ sym (waits-owner g rules past made w r k))

  next_asker : waits_for g t (e ∷ past) ≡ Some v
  next_asker = waits-owner g rules (e ∷ past) made_after t s queue.waits ∙ (owner_same s ∙ owns)

  member : has t (tasks g) ≡ true
  member = ((next g rules made (last_move g made_after).1).asked t s a).member

  -- who waits for the owner: who did before, and the task that asks
  one_more : (w : ℕ) → has w (waiters g v (e ∷ past)) ≡ has w (waiters g v past ++ t ∷ [])
  one_more w = rw (has-append, has-filter (λ u. is v (waits_for g u (e ∷ past))) w (tasks g), has-filter (λ u. is v (waits_for g u past)) w (tasks g)) (by_task (w == t) refl)
    where
      by_task : (b : Bool) → w == t ≡ b → has w (tasks g) && is v (waits_for g w (e ∷ past)) ≡ (has w (tasks g) && is v (waits_for g w past)) || (b || false)
      by_task true k = rw (eqb-true w t k, member, next_asker, equal_self v, or_true (is v (waits_for g t past)))
      by_task false k = rw (next_same w k) (or_none (has w (tasks g) && is v (waits_for g w past)))
        where
          or_none : (b : Bool) → b ≡ b || false
          or_none true = refl
          or_none false = refl

  boost_same : boost g v (e ∷ past) ≡ boost g v past
  boost_same = boost-left g v e past (queue.held v) (λ r. granted_at-left g r e past (queue.holders r))

  owner_base : base_key g v (e ∷ past) ≡ base_key g v past
  owner_base = (engaged_keeps_job g e past valid made_after v holds_one).same_key
    where
      holds_one : not (is_empty (holds g v (e ∷ past))) || is_some (awaits g v (e ∷ past)) ≡ true
      holds_one = rw (owner-holds g rules (e ∷ past) made_after s v known (owner_same s ∙ owns))

  pub raised : boost g v past ≡ None → effective_key g v (e ∷ past) ≡ (if higher (base_key g t past) (effective_key g v past) then base_key g t past else effective_key g v past)
  raised plain = rw (after, before) (highest-last base (base v) (waiters g v past) t)
    where
      base : ℕ → Key
      base w = base_key g w past

      before : effective_key g v past ≡ highest (base v) (map base (waiters g v past))
      before = key_is_of_waiters g past valid made v ∙ rw plain

      after : effective_key g v (e ∷ past) ≡ highest (base v) (map base (waiters g v past ++ t ∷ []))
      after = key_is_of_waiters g (e ∷ past) valid made_after v ∙ (rw (boost_same, plain) (inherited-same None (λ w. base_key g w (e ∷ past)) base (waiters g v (e ∷ past)) v owner_base (λ w there. waiter-base g e past valid made_after v w there)) ∙ highest-members base v (waiters g v (e ∷ past)) (waiters g v past ++ t ∷ []) one_more)

pub queued_raises_owner : QueuedRaisesOwner
queued_raises_owner g e past valid made t s v a may_not owns plain = raised g valid e past made t s v a may_not owns plain
