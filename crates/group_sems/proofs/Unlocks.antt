-- An unlock makes of what is kept what an accepted Unlock does.
use Rattle.std.proofs.Common.{Bool, eqb-true, false, inl, inr, length, length-set, not, refl, subst, sym, ap, true, ℕ, ◌+◌, ◌<◌, ◌∙◌, ◌∷◌, ◌≡◌, ◌⊎◌, List}
use Rattle.std.specs.Prelude.{None, Option, Some, ◌==◌, slice_set}
use Rattle.rt_task.specs.RuleWords.{is_stacked}
use Rattle.rt_task.specs.Validity.{IsValid}
use Rattle.rt_rules.specs.declared.Key.{Key}
use Rattle.rt_rules.specs.Numbers.{has, is}
use Rattle.rt_rules.specs.SemState.{Frees, SemState}
use Rattle.rt_rules.proofs.BoolLaws.{both, clash, either, not_false, not_true, unless}
use Rattle.rt_rules.proofs.MemberLaws.{equal_self, is-some}
use Rattle.rt_model.specs.Boosts.{boost}
use Rattle.rt_model.specs.Ceilings.{is_pcp}
use Rattle.rt_model.specs.Group.{Group, protocol, sems, tasks}
use Rattle.rt_model.specs.Holders.{awaits, holder, holds, sem_state}
use Rattle.rt_model.specs.Past.{Event, Past, now, sem_act}
use Rattle.rt_model.specs.Reachable.{IsReachable}
use Rattle.rt_laws.proofs.jobs.Engaged.{holder-engaged, waiting-engaged}
use Rattle.rt_laws.proofs.GroupLaws.{user-task}
use Rattle.rt_laws.proofs.semaphores.Holding.{holds-one, one-holds}
use Rattle.rt_laws.proofs.Moves.{last_move}
use Rattle.rt_laws.proofs.Next.{next}
use Rattle.rt_laws.proofs.Rules.{MeetsRules}
use Rattle.rt_laws.proofs.semaphores.SemaphoreLaws.{holder_holds_one}
use Rattle.rt_laws.proofs.ValidSets.{rules_of}
use Rattle.rt_laws.proofs.semaphores.Waiting.{awaits-waits, none-waits, waits-none}
use Rattle.rt_laws.proofs.semaphores.WaitsHolding.{waits_under_pcp}
use Rattle.rt_changes.specs.HoldChanges.{IsRelease, IsServed, KeepsHolds}
use Rattle.rt_changes.specs.Owners.{is_beside, owner, sem_of}
use Rattle.rt_changes.proofs.Acting.{IsParty, all_parties}
use Rattle.rt_changes.proofs.Apart.{apart}
use Rattle.rt_changes.proofs.Boosts.{boost-none, boost_of_holder, grant_is_now}
use Rattle.rt_changes.proofs.Freeing.{freer-waits_not}
use Rattle.rt_changes.proofs.HoldChanges.{unlock_releases}
use Rattle.rt_changes.proofs.SemChanges.{other_sems_are_left}
use Rattle.prio_inherit.specs.Waits as kept_keys
use Rattle.prio_inherit.specs.Waits.{Waits, next_of}
use Rattle.sem_table.specs.Released.{after_release}
use Rattle.sem_table.specs.SemTable.{SemTable}
use Rattle.sem_table.specs.Told.{owner_of}
use Rattle.sem_table.specs.KeptSems.{KeepsSems}
use Rattle.sem_table.specs.Telling.{IsServedBy}
use Rattle.sem_table.proofs.Keeps.{release_keeps}
use Rattle.sem_table.proofs.Owner.{tells_owner}
use Rattle.sem_table.proofs.ServedNext.{release_rows, tells_served}
use Rattle.group_sems.specs.BoostKeys.{boost_now}
use Rattle.group_sems.specs.GroupSems.{GroupSems}
use Rattle.group_sems.specs.Locking.{served_waits, with_boost}
use Rattle.group_sems.specs.Telling.{retold}
use Rattle.group_sems.specs.Keeping.{UnlockIsKept}
use Rattle.group_sems.specs.Kept.{KeepsBoosts, KeepsLocks, KeepsNexts}
use Rattle.group_sems.proofs.Bases.{task-position}
use Rattle.group_sems.proofs.Boosting.{boost-kept, boost-stacked, boost-now-is, boost-now-none, boost-set, boost-unset, next-set, next-unset, now-stays}
use Rattle.group_sems.proofs.Outside.{freed-empty}
use Rattle.group_sems.proofs.Retelling.{IsBefore, retold-boosts, retold-keeps}

module _ (g : Group) (e : Event) (past : Past) (valid : IsValid g.setup) (made_after : IsReachable g (e ∷ past)) (v : GroupSems) (t s : ℕ) (f : sem_act e ≡ Frees t s) (k : KeepsLocks g past v) where
  rules : MeetsRules g
  rules = rules_of g valid

  made : IsReachable g past
  made = (last_move g made_after).0

  acts : sem_of (sem_act e) ≡ Some s
  acts = rw f

  holds_it : is t (holder g s past) ≡ true
  holds_it = (next g rules made (last_move g made_after).1).freed t s f

  party : IsParty g t s
  party = all_parties g rules made t s (holder-engaged g t s past holds_it)

  member : has t (tasks g) ≡ true
  member = (user-task g s t party.user).0

  abbrev table : SemTable
  table = after_release t s v.table

  sems_after : KeepsSems g (e ∷ past) table
  sems_after = release_keeps g e past valid made_after v.table t s f k.sems_are

  owner-before : owner_of v.table s ≡ owner g s past
  owner-before = tells_owner g past valid made v.table s t party.known party.user k.sems_are

  release : IsRelease g t s e past
  release = unlock_releases g e past valid made_after t s f

  serves : IsServedBy g e past table.served
  serves = tells_served g e past valid made_after v.table t s f k.sems_are

  waits_none : awaits g t past ≡ None
  waits_none = none-waits g t past (λ r there. freer-waits_not g rules made (last_move g made_after).1 t s r f there)

  abbrev NotServed : ℕ → Type 0
  NotServed x = (r : ℕ) → IsServed g x r e past → ⊥

  -- ---- the task that is served, and any other

  served-waits : (u r : ℕ) → IsServed g u r e past → (has r (sems g) ≡ true) × (has u (sem_state g r past).waiting ≡ true)
  served-waits u r x = awaits-waits g u r past x.waited

  served-task : (u r : ℕ) → IsServed g u r e past → has u (tasks g) ≡ true
  served-task u r x = (user-task g r u (all_parties g rules made u r (waiting-engaged g u r past (served-waits u r x).1)).user).0

  leaves : (x : ℕ) → x == t ≡ false → NotServed x → KeepsHolds g x e past
  leaves x ne not_served = split (release.others x ne)
    where
      split : KeepsHolds g x e past ⊎ ((r : ℕ) × IsServed g x r e past) → KeepsHolds g x e past
      split (inl m) = m
      split (inr m) = absurd (not_served m.0 m.1)

  leaves-wait : (x : ℕ) → NotServed x → awaits g x (e ∷ past) ≡ awaits g x past
  leaves-wait x not_served = by_task (x == t) refl
    where
      by_task : (b : Bool) → x == t ≡ b → awaits g x (e ∷ past) ≡ awaits g x past
      by_task true m = subst (λ (n : ℕ). awaits g n (e ∷ past) ≡ awaits g n past) (sym (eqb-true x t m)) (release.waits_not ∙ sym waits_none)
      by_task false m = (leaves x m not_served).awaited

  -- ---- boosts

  freer-boost : boost g t (e ∷ past) ≡ None
  freer-boost = boost-stacked g t (e ∷ past) (λ r there m. not_false _ (unless _ (λ plain. held-two r there (not_true _ plain) (both _ _ (sym (release.loses r) ∙ holds-one g t r (e ∷ past) there m)))))
    where
      held-two : (r : ℕ) → has r (sems g) ≡ true → is_stacked (protocol g r) ≡ false → (not (r == s) ≡ true) × (has r (holds g t past) ≡ true) → ⊥
      held-two r there plain q =
          let same : r ≡ s = holder_holds_one g past valid made t r s there party.known plain (is-some t (holder g r past) (one-holds g t r past q.1).1) (is-some t (holder g s past) holds_it) in
          clash _ (equal_self s) (subst (λ (n : ℕ). n == s ≡ false) same (not_true _ q.0))

  served-plain : (u r : ℕ) → IsServed g u r e past → is_pcp (protocol g s) ≡ false → boost_now g.setup v.ceilings (now past) s u ≡ boost g u (e ∷ past)
  served-plain u r x plain =
      boost-now-is g v.ceilings (now past) s u (e ∷ past) valid (served-task u r x) party.known k.ceilings_are (grant_is_now g e past valid made_after s u holds_now held_not ∙ now-stays e past s acts)
      ∙ sym (boost_of_holder g (e ∷ past) valid made_after s u party.known plain holds_now)
    where
      same : r ≡ s
      same = release.at_own u r x plain

      holds_now : holder g s (e ∷ past) ≡ Some u
      holds_now = subst (λ (n : ℕ). holder g n (e ∷ past) ≡ Some u) same x.holder_is

      held_not : is u (holder g s past) ≡ false
      held_not = unless _ (λ m. clash _ (subst (λ (n : ℕ). has u (sem_state g n past).waiting ≡ true) same (served-waits u r x).1) (apart g rules made u s party.known m))

  served-pcp : (u r : ℕ) → IsServed g u r e past → is_pcp (protocol g s) ≡ true → boost g u (e ∷ past) ≡ None
  served-pcp u r x pcp = boost-none g u (e ∷ past) (λ o there plain. unless _ (λ m. split o there plain (either _ _ (sym (x.gains o) ∙ holds-one g u o (e ∷ past) there m))))
    where
      -- what it waited for is beside what was freed
      still : is_pcp (protocol g r) ≡ false → ⊥
      still plain =
          let apart_from : is_beside g s r ≡ false = rw (pcp, plain) in
          let same : sem_state g r (e ∷ past) ≡ sem_state g r past = (other_sems_are_left g e past valid made_after s r acts apart_from).state in
          let w = served-waits u r x in
          clash _ (subst (λ (l : SemState). has u l.waiting ≡ true) (sym same) w.1) (waits-none g u (e ∷ past) x.waits_not r w.0)

      split : (o : ℕ) → has o (sems g) ≡ true → is_pcp (protocol g o) ≡ false → (o == r ≡ true) ⊎ (has o (holds g u past) ≡ true) → ⊥
      split o there plain (inl m) = still (subst (λ (n : ℕ). is_pcp (protocol g n) ≡ false) (eqb-true o r m) plain)
      split o there plain (inr m) =
          let w = served-waits u r x in
          let q = waits_under_pcp g rules made u o r there w.0 (one-holds g u o past m).1 w.1 in
          clash _ q.0 plain

  served-boost : (u r : ℕ) → IsServed g u r e past → boost_now g.setup v.ceilings (now past) s u ≡ boost g u (e ∷ past)
  served-boost u r x = by_kind (is_pcp (protocol g s)) refl
    where
      by_kind : (b : Bool) → is_pcp (protocol g s) ≡ b → boost_now g.setup v.ceilings (now past) s u ≡ boost g u (e ∷ past)
      by_kind true m = boost-now-none g v.ceilings (now past) s u m ∙ sym (served-pcp u r x m)
      by_kind false m = served-plain u r x m

  abbrev dropped : List (Option Key)
  dropped = slice_set v.waits.boosts t None

  dropped-room : length dropped ≡ length g.setup.tasks + 1
  dropped-room = length-set v.waits.boosts t None ∙ k.boosts_are.room

  dropped-boost : (x : ℕ) → has x (tasks g) ≡ true → NotServed x → kept_keys.boost_of dropped x ≡ boost g x (e ∷ past)
  dropped-boost x there not_served = by_task (x == t) refl
    where
      by_task : (b : Bool) → x == t ≡ b → kept_keys.boost_of dropped x ≡ boost g x (e ∷ past)
      by_task true m = boost-set v.waits.boosts t x None (subst (λ (n : ℕ). t < n) (sym k.boosts_are.room) (task-position g t member)) m ∙ sym freer-boost ∙ ap (λ (n : ℕ). boost g n (e ∷ past)) (sym (eqb-true x t m))
      by_task false m = boost-unset v.waits.boosts t x None m ∙ k.boosts_are.are x there ∙ sym (boost-kept g x e past (leaves x m not_served).held)

  -- ---- all that is kept, by the task that is served

  abbrev freed : Option ℕ → Waits
  freed o = served_waits g.setup v.ceilings (now past) s o (with_boost t None v.waits)

  nobody : table.served ≡ None → (x : ℕ) → NotServed x
  nobody none x r y = let z : table.served ≡ Some x = serves.takes x r y in cc

  other-one : (u x : ℕ) → table.served ≡ Some u → x == u ≡ false → NotServed x
  other-one u x one ne r y =
      let z : table.served ≡ Some x = serves.takes x r y in
      let same : x ≡ u = cc in
      clash _ (equal_self u) (subst (λ (n : ℕ). n == u ≡ false) same ne)

  freed-boosts : (o : Option ℕ) → table.served ≡ o → KeepsBoosts g (e ∷ past) (freed o).boosts
  freed-boosts None none = record { room = dropped-room; are = λ x there. dropped-boost x there (nobody none x) }
  freed-boosts (Some u) one = record {
    room = length-set dropped u (boost_now g.setup v.ceilings (now past) s u) ∙ dropped-room;
    are = λ x there. by_task x there (x == u) refl;
  }
    where
      by_task : (x : ℕ) → has x (tasks g) ≡ true → (b : Bool) → x == u ≡ b → kept_keys.boost_of (freed (Some u)).boosts x ≡ boost g x (e ∷ past)
      by_task x there true m =
          let q = serves.gives u one in
          boost-set dropped u x (boost_now g.setup v.ceilings (now past) s u) (subst (λ (n : ℕ). u < n) (sym dropped-room) (task-position g u (served-task u q.0 q.1))) m
          ∙ served-boost u q.0 q.1
          ∙ ap (λ (n : ℕ). boost g n (e ∷ past)) (sym (eqb-true x u m))
      by_task x there false m = boost-unset dropped u x (boost_now g.setup v.ceilings (now past) s u) m ∙ dropped-boost x there (other-one u x one m)

  freed-room : (o : Option ℕ) → length (freed o).nexts ≡ length g.setup.tasks + 1
  freed-room None = k.nexts_are.room
  freed-room (Some u) = length-set v.waits.nexts u None ∙ k.nexts_are.room

  freed-outside : (o : Option ℕ) → table.served ≡ o → (x : ℕ) → has x (tasks g) ≡ false → next_of (freed o).nexts x ≡ None
  freed-outside None none x away = k.nexts_are.others x away
  freed-outside (Some u) one x away = next-unset v.waits.nexts u x None (unless _ (λ m. clash _ (served-task u q.0 q.1) (subst (λ (n : ℕ). has n (tasks g) ≡ false) (eqb-true x u m) away))) ∙ k.nexts_are.others x away
    where
      q : (r : ℕ) × IsServed g u r e past
      q = serves.gives u one

  freed-before : (o : Option ℕ) → table.served ≡ o → (x : ℕ) → has x (tasks g) ≡ true → IsBefore g e past (freed o).nexts x
  freed-before None none x there = inl (leaves-wait x (nobody none x), k.nexts_are.are x there)
  freed-before (Some u) one x there = by_task (x == u) refl
    where
      q : (r : ℕ) × IsServed g u r e past
      q = serves.gives u one

      by_task : (b : Bool) → x == u ≡ b → IsBefore g e past (slice_set v.waits.nexts u None) x
      by_task true m =
          inr (subst (λ (n : ℕ). awaits g n (e ∷ past) ≡ None) (sym (eqb-true x u m)) q.1.waits_not, next-set v.waits.nexts u x None (subst (λ (n : ℕ). u < n) (sym k.nexts_are.room) (task-position g u (served-task u q.0 q.1))) m)
      by_task false m = inl (leaves-wait x (other-one u x one m), next-unset v.waits.nexts u x None m ∙ k.nexts_are.are x there)

  unlock-nexts : KeepsNexts g (e ∷ past) (retold (owner_of v.table s) table s (freed table.served)).nexts
  unlock-nexts = retold-keeps g valid e past made_after s t acts party.known party.user table sems_after (freed table.served).nexts (freed-before table.served refl) (freed-room table.served) (freed-outside table.served refl) (owner_of v.table s) (freed table.served) owner-before refl

  unlock-boosts : KeepsBoosts g (e ∷ past) (retold (owner_of v.table s) table s (freed table.served)).boosts
  unlock-boosts = subst (KeepsBoosts g (e ∷ past)) (sym (retold-boosts (owner_of v.table s) table s (freed table.served))) (freed-boosts table.served refl)

pub unlock_is_kept : UnlockIsKept
unlock_is_kept g e past valid made v t s f k = record {
  sems_are = release_keeps g e past valid made v.table t s f k.sems_are;
  rows_are = release_rows g e past valid made v.table t s f k.sems_are k.rows_are;
  none_outside = freed-empty g e past valid made v t s f k;
  nexts_are = unlock-nexts g e past valid made v t s f k;
  boosts_are = unlock-boosts g e past valid made v t s f k;
  ceilings_are = k.ceilings_are;
}
