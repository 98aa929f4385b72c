-- Where an owner is another than before, all who wait for it are told; so each task waits for whom it waits by the rules.
use Rattle.std.proofs.Common.{Bool, false, inl, inr, length, refl, subst, sym, ap, true, ℕ, ◌+◌, ◌<◌, ◌∙◌, ◌∷◌, ◌≡◌, ◌⊎◌, List}
use Rattle.std.specs.Prelude.{None, Option, Some, if◌then◌else◌, slice_index_or}
use Rattle.rt_task.specs.Validity.{IsValid}
use Rattle.rt_rules.specs.Numbers.{has, is, same}
use Rattle.rt_rules.proofs.BoolLaws.{clash, unless}
use Rattle.rt_rules.proofs.MemberLaws.{is-some}
use Rattle.rt_model.specs.EffectiveKeys.{waits_for}
use Rattle.rt_model.specs.Group.{Group, sems, tasks, users}
use Rattle.rt_model.specs.Holders.{awaits}
use Rattle.rt_model.specs.Past.{Event, Past, sem_act}
use Rattle.rt_model.specs.Reachable.{IsReachable}
use Rattle.rt_laws.proofs.Moves.{last_move}
use Rattle.rt_laws.proofs.Next.{next}
use Rattle.rt_laws.proofs.pcp.PcpWalks.{walk-step, walk-stops}
use Rattle.rt_laws.proofs.Rules.{MeetsRules}
use Rattle.rt_laws.proofs.ValidSets.{rules_of}
use Rattle.rt_changes.specs.Owners.{is_beside, owner, sem_of}
use Rattle.rt_changes.proofs.Acting.{IsActor, actor}
use Rattle.rt_changes.proofs.Owning.{waits-owner}
use Rattle.prio_inherit.specs.Waits.{Waits, next_of}
use Rattle.sem_table.specs.SemTable.{SemTable}
use Rattle.sem_table.specs.Told.{owner_of, waiters_of}
use Rattle.sem_table.specs.KeptSems.{KeepsSems}
use Rattle.sem_table.specs.Telling.{waiters_at}
use Rattle.sem_table.proofs.Owner.{tells_owner}
use Rattle.sem_table.proofs.Waiters.{tells_waiters, waiters_are_few}
use Rattle.group_sems.specs.Telling.{retold, told, told_of}
use Rattle.group_sems.specs.Kept.{KeepsNexts}
use Rattle.group_sems.proofs.Bases.{task-position}
use Rattle.group_sems.proofs.Owners.{awaits-waiter, owner-beside, owner-left, waiter-awaits}
use Rattle.group_sems.proofs.Putting.{put-at, put-length, put-other, told-put}

-- whom a told task waits for, and whom any other one
pub told-at : (o : ℕ) (ws : List ℕ) (nexts : List (Option ℕ)) (t : ℕ) → t < length nexts → has t ws ≡ true → next_of (told o ws nexts) t ≡ Some o
told-at o ws nexts t low h = ap (λ (l : List (Option ℕ)). slice_index_or l t None) (told-put o ws nexts) ∙ put-at (λ u. o) ws nexts t low h

pub told-other : (o : ℕ) (ws : List ℕ) (nexts : List (Option ℕ)) (t : ℕ) → has t ws ≡ false → next_of (told o ws nexts) t ≡ next_of nexts t
told-other o ws nexts t h = ap (λ (l : List (Option ℕ)). slice_index_or l t None) (told-put o ws nexts) ∙ put-other (λ u. o) ws nexts t h

pub told-length : (o : ℕ) (ws : List ℕ) (nexts : List (Option ℕ)) → length (told o ws nexts) ≡ length nexts
told-length o ws nexts = ap (λ (l : List (Option ℕ)). length l) (told-put o ws nexts) ∙ put-length (λ u. o) ws nexts

-- two numbers that may be missing and are the same
same-is : (o p : Option ℕ) → same o p ≡ true → o ≡ p
same-is None None h = refl
same-is None (Some y) h = cc
same-is (Some x) p h = sym (is-some x p h)

-- telling leaves the boosts
pub retold-boosts : (before : Option ℕ) (table : SemTable) (s : ℕ) (w : Waits) → (retold before table s w).boosts ≡ w.boosts
retold-boosts before table s w = by_same (same before (owner_of table s))
  where
    by_same : (b : Bool) → (if b then w else (record w { nexts = told_of (owner_of table s) (waiters_of table s) w.nexts })).boosts ≡ w.boosts
    by_same true = refl
    by_same false = refl

-- before the waiters are told a task is kept as it was, or it waits no longer
abbrev pub IsBefore : Group → Event → Past → List (Option ℕ) → ℕ → Type 0
IsBefore g e past nexts u =
    (awaits g u (e ∷ past) ≡ awaits g u past) × (next_of nexts u ≡ waits_for g u past)
    ⊎ (awaits g u (e ∷ past) ≡ None) × (next_of nexts u ≡ None)

module _ (g : Group) (valid : IsValid g.setup) (e : Event) (past : Past) (made_after : IsReachable g (e ∷ past)) (s user : ℕ) (h : sem_of (sem_act e) ≡ Some s) (known : has s (sems g) ≡ true) (is_user : has user (users g s) ≡ true) (table : SemTable) (kept : KeepsSems g (e ∷ past) table) (nexts : List (Option ℕ)) (was : (u : ℕ) → has u (tasks g) ≡ true → IsBefore g e past nexts u) where
  rules : MeetsRules g
  rules = rules_of g valid

  made : IsReachable g past
  made = (last_move g made_after).0

  acts_at : IsActor g s e
  acts_at = actor g rules e made (next g rules made (last_move g made_after).1) s h

  owner-after : owner_of table s ≡ owner g s (e ∷ past)
  owner-after = tells_owner g (e ∷ past) valid made_after table s user known is_user kept

  waiters-after : waiters_of table s ≡ waiters_at g s (e ∷ past)
  waiters-after = tells_waiters g (e ∷ past) valid made_after table s user known is_user kept

  -- a task that is not told, where each owner that it waits for is the same
  unchanged : (u : ℕ) → has u (tasks g) ≡ true → ((r : ℕ) → awaits g u (e ∷ past) ≡ Some r → is_beside g s r ≡ true → owner g s (e ∷ past) ≡ owner g s past) → next_of nexts u ≡ waits_for g u (e ∷ past)
  unchanged u there beside = split (was u there)
    where
      owner_same : (r : ℕ) → awaits g u (e ∷ past) ≡ Some r → (b : Bool) → is_beside g s r ≡ b → owner g r (e ∷ past) ≡ owner g r past
      owner_same r a true k = owner-beside g s r (e ∷ past) k ∙ beside r a k ∙ sym (owner-beside g s r past k)
      owner_same r a false k = owner-left g rules s r e past acts_at k

      by_wait : awaits g u (e ∷ past) ≡ awaits g u past → next_of nexts u ≡ waits_for g u past → (o : Option ℕ) → awaits g u (e ∷ past) ≡ o → next_of nexts u ≡ waits_for g u (e ∷ past)
      by_wait same n None a = n ∙ walk-stops g rules past made u (sym same ∙ a) ∙ sym (walk-stops g rules (e ∷ past) made_after u a)
      by_wait same n (Some r) a =
          n ∙ waits-owner g rules past made u r (sym same ∙ a) ∙ sym (owner_same r a (is_beside g s r) refl) ∙ sym (waits-owner g rules (e ∷ past) made_after u r a)

      split : IsBefore g e past nexts u → next_of nexts u ≡ waits_for g u (e ∷ past)
      split (inl m) = by_wait m.0 m.1 (awaits g u (e ∷ past)) refl
      split (inr m) = m.1 ∙ sym (walk-stops g rules (e ∷ past) made_after u m.0)

  -- who waits beside the semaphore waits for its owner
  waits-here : (u r : ℕ) → awaits g u (e ∷ past) ≡ Some r → is_beside g s r ≡ true → waits_for g u (e ∷ past) ≡ owner g s (e ∷ past)
  waits-here u r a k = waits-owner g rules (e ∷ past) made_after u r a ∙ owner-beside g s r (e ∷ past) k

  somebody : (u r : ℕ) → awaits g u (e ∷ past) ≡ Some r → is_beside g s r ≡ true → owner g s (e ∷ past) ≡ None → ⊥
  somebody u r a k none =
      let q = walk-step g rules (e ∷ past) made_after u r a in
      let z : Some q.0 ≡ None = sym q.1 ∙ waits-here u r a k ∙ none in
      cc

  told-next : (o : Option ℕ) → owner_of table s ≡ o → (u : ℕ) → has u (tasks g) ≡ true → u < length nexts → next_of (told_of o (waiters_of table s) nexts) u ≡ waits_for g u (e ∷ past)
  told-next None q u there low = unchanged u there (λ r a k. absurd (somebody u r a k (sym owner-after ∙ q)))
  told-next (Some o) q u there low = by_waiter (has u (waiters_of table s)) refl
    where
      by_waiter : (b : Bool) → has u (waiters_of table s) ≡ b → next_of (told o (waiters_of table s) nexts) u ≡ waits_for g u (e ∷ past)
      by_waiter true m =
          let p = waiter-awaits g rules (e ∷ past) made_after s u known (subst (λ (l : List ℕ). has u l ≡ true) waiters-after m) in
          told-at o (waiters_of table s) nexts u low m ∙ sym q ∙ owner-after ∙ sym (waits-here u p.0 p.1 p.2)
      by_waiter false m =
          told-other o (waiters_of table s) nexts u m
          ∙ unchanged u there (λ r a k. absurd (clash _ (awaits-waiter g rules (e ∷ past) made_after s u known r a k) (subst (λ (l : List ℕ). has u l ≡ false) waiters-after m)))

  module _ (room : length nexts ≡ length g.setup.tasks + 1) (outside : (u : ℕ) → has u (tasks g) ≡ false → next_of nexts u ≡ None) where
    low : (u : ℕ) → has u (tasks g) ≡ true → u < length nexts
    low u there = subst (λ (n : ℕ). u < n) (sym room) (task-position g u there)

    told-room : (o : Option ℕ) → length (told_of o (waiters_of table s) nexts) ≡ length g.setup.tasks + 1
    told-room None = room
    told-room (Some o) = told-length o (waiters_of table s) nexts ∙ room

    told-outside : (o : Option ℕ) (u : ℕ) → has u (tasks g) ≡ false → next_of (told_of o (waiters_of table s) nexts) u ≡ None
    told-outside None u away = outside u away
    told-outside (Some o) u away = told-other o (waiters_of table s) nexts u (unless _ (λ m. clash _ ((waiters_are_few g (e ∷ past) valid made_after table s user known is_user kept).0.of_group u m) away)) ∙ outside u away

    pub retold-keeps : (before : Option ℕ) (w : Waits) → before ≡ owner g s past → w.nexts ≡ nexts → KeepsNexts g (e ∷ past) (retold before table s w).nexts
    retold-keeps before w owned is = by_same (same before (owner_of table s)) refl
      where
        by_same : (b : Bool) → same before (owner_of table s) ≡ b → KeepsNexts g (e ∷ past) (if b then w else (record w { nexts = told_of (owner_of table s) (waiters_of table s) w.nexts })).nexts
        by_same true m = subst (KeepsNexts g (e ∷ past)) (sym is) (record {
          room = room;
          are = λ u there. unchanged u there (λ r a k. sym owner-after ∙ sym (same-is before (owner_of table s) m) ∙ owned);
          others = outside;
        })
        by_same false m = subst (λ (l : List (Option ℕ)). KeepsNexts g (e ∷ past) (told_of (owner_of table s) (waiters_of table s) l)) (sym is) (record {
          room = told-room (owner_of table s);
          are = λ u there. told-next (owner_of table s) refl u there (low u there);
          others = λ u away. told-outside (owner_of table s) u away;
        })
