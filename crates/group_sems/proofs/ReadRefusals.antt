-- Who holds a semaphore, and why a task may not ask for one or free it.
use Rattle.std.proofs.Common.{◌≡◌, ◌∙◌, ℕ, Bool, true, false, not, ◌&&◌, List, [], ◌∷◌, length, arith, refl, sym, ap}
use Rattle.std.specs.List.{list_any}
use Rattle.std.specs.Prelude.{◌==◌, Option, None, Some}
use Rattle.rt_task.specs.declared.Protocol.{Protocol}
use Rattle.rt_task.specs.declared.Protocol.TheVariants.{Fmlp, Mpcp, Omlp, Pcp, Srp}
use Rattle.rt_task.specs.Validity.{IsValid}
use Rattle.rt_rules.specs.Numbers.{first, has, is}
use Rattle.rt_rules.specs.Omlp.{omlp_sem_state}
use Rattle.rt_rules.specs.Pcp.{PcpState, of_sem}
use Rattle.rt_rules.specs.SemState.{SemState}
use Rattle.rt_model.specs.Answers.{nests}
use Rattle.rt_model.specs.Ceilings.{is_pcp, pcp}
use Rattle.rt_model.specs.Group.{Group, declares, in_group, protocol, sem, sems, task, tasks, users}
use Rattle.rt_model.specs.Holders.{holder, holds, sem_state, sem_state_by}
use Rattle.rt_model.specs.Past.{Past}
use Rattle.rt_model.specs.Reachable.{IsReachable}
use Rattle.rt_model.specs.Semaphores.{cluster_of}
use Rattle.rt_model.specs.StackPolicy.{srp}
use Rattle.rt_plays.specs.Plays.{group_with}
use Rattle.rt_rules.proofs.BoolLaws.{and_false, clash}
use Rattle.rt_rules.proofs.MemberLaws.{any-none, equal_self, none-any}
use Rattle.rt_laws.proofs.jobs.Engaged.{holder-engaged}
use Rattle.rt_laws.proofs.GroupLaws.{user-task}
use Rattle.rt_laws.proofs.semaphores.Holding.{holds-one, one-holds}
use Rattle.rt_laws.proofs.pcp.PcpState.{pcp-holder}
use Rattle.rt_laws.proofs.Rules.{MeetsRules}
use Rattle.rt_laws.proofs.srp.SrpState.{srp-holder}
use Rattle.rt_laws.proofs.ValidSets.{rules_of}
use Rattle.rt_changes.proofs.Acting.{IsParty, all_parties}
use Rattle.rt_changes.proofs.Moving.{has-holds}
use Rattle.sem_table.specs.declared.any_sem.AnySem.{AnySem}
use Rattle.sem_table.specs.declared.any_sem.AnySem.TheVariants as any
use Rattle.sem_table.specs.SemTable.{SemTable, sem_at, set_at, srp_set_at}
use Rattle.sem_table.specs.Told.{held_of, state_by, state_of}
use Rattle.sem_table.specs.KeptSems.{KeepsSem, KeepsSems}
use Rattle.sem_table.proofs.Conditions.{tells_state}
use Rattle.sem_table.proofs.Waits.{tells_last}
use Rattle.group_sems.specs.GroupSems.{GroupSems}
use Rattle.group_sems.specs.Refusing.{holds_it, holds_other, holds_other_one, is_nested_by, uses_of}
use Rattle.group_sems.specs.Kept.{IsEmptyOutside, KeepsLocks}
use Rattle.group_sems.specs.Reading.{HolderIsRead, LockRefusalIsRead, UnlockRefusalIsRead}
use Rattle.group_sems.proofs.Reading.{none-counted}

-- ---- who holds a semaphore

no-holder : (o : Option ℕ) → ((t : ℕ) → is t o ≡ true → ⊥) → o ≡ None
no-holder None h = refl
no-holder (Some t) h = absurd (h t (equal_self t))

-- a semaphore that no task of the group declares is not held
unheld : (g : Group) → MeetsRules g → (past : Past) → IsReachable g past → (s : ℕ) → first (users g s) ≡ None → holder g s past ≡ None
unheld g rules past made s none = no-holder (holder g s past) (λ t h. clash _ (all_parties g rules made t s (holder-engaged g t s past h)).user (nobody (users g s) t none))
  where
    nobody : (us : List ℕ) (t : ℕ) → first us ≡ None → has t us ≡ false
    nobody [] t e = refl
    nobody (u ∷ us) t e = cc

-- it counts as one of cluster 0
cluster-zero : (g : Group) (s : ℕ) → first (users g s) ≡ None → cluster_of g s ≡ 0
unfolding cluster_of
cluster-zero g s none = rw none refl

module _ (g : Group) (valid : IsValid g.setup) (past : Past) (made : IsReachable g past) (w : SemTable) (k : KeepsSems g past w) (empty : IsEmptyOutside g w) (s : ℕ) (known : has s (sems g) ≡ true) where
  rules : MeetsRules g
  rules = rules_of g valid

  holder-by : (p : Protocol) → protocol g s ≡ p → holder g s past ≡ (sem_state_by g p s past).holder
  unfolding holder sem_state
  holder-by p q = ap (λ (x : Protocol). (sem_state_by g x s past).holder) q

  in-set : (c : ℕ) → c ≡ 0 → cluster_of g s ≡ 0 → first (users g s) ≡ None → is_pcp (protocol g s) ≡ true → first (of_sem s (set_at w.sets c).state.held) ≡ holder g s past
  in-set c e zero none q = rw e (by_group (in_group g 0) refl)
    where
      by_group : (b : Bool) → in_group g 0 ≡ b → first (of_sem s (set_at w.sets 0).state.held) ≡ holder g s past
      by_group true m = ap (λ (l : PcpState). first (of_sem s l.held)) (k.sets 0 (omega (arith, rules.has_cluster)) m).state ∙ ap (λ (n : ℕ). first (of_sem s (pcp g n past).held)) (sym zero) ∙ sym (pcp-holder g s past q)
      by_group false m = rw (empty 0 m).0 (sym (unheld g rules past made s none))

  in-srp_set : (c : ℕ) → c ≡ 0 → cluster_of g s ≡ 0 → first (users g s) ≡ None → protocol g s ≡ Srp → first (of_sem s (srp_set_at w.sets c).held) ≡ holder g s past
  in-srp_set c e zero none q = rw e (by_group (in_group g 0) refl)
    where
      by_group : (b : Bool) → in_group g 0 ≡ b → first (of_sem s (srp_set_at w.sets 0).held) ≡ holder g s past
      by_group true m = ap (λ held. first (of_sem s held)) (k.srp_sets 0 (omega (arith, rules.has_cluster)) m).held ∙ ap (λ (n : ℕ). first (of_sem s (srp g n past))) (sym zero) ∙ sym (srp-holder g s past q)
      by_group false m = rw (empty 0 m).1 (sym (unheld g rules past made s none))

  undeclared : first (users g s) ≡ None → (p : Protocol) (x : AnySem) → protocol g s ≡ p → KeepsSem g s past p x → (state_by w.sets s x).holder ≡ holder g s past
  unfolding sem_state_by
  undeclared none Fmlp (any.Fmlp l) q v = ap first v.line ∙ sym (holder-by Fmlp q)
  undeclared none Omlp (any.Omlp l) q v = ap (λ y. (omlp_sem_state y).holder) v.state ∙ sym (holder-by Omlp q)
  undeclared none Mpcp (any.Mpcp l) q v = ap (λ (y : SemState). y.holder) v.state ∙ sym (holder-by Mpcp q)
  undeclared none Pcp (any.Pcp c) q v = let zero : cluster_of g s ≡ 0 = cluster-zero g s none in in-set c.0 (v ∙ zero) zero none (rw q refl)
  undeclared none Srp (any.Srp c) q v = let zero : cluster_of g s ≡ 0 = cluster-zero g s none in in-srp_set c.0 (v ∙ zero) zero none q
  undeclared none p x q v = absurd v

  declared-holder : (u : ℕ) → has u (users g s) ≡ true → (state_of w s).holder ≡ holder g s past
  unfolding holder
  declared-holder u user = ap (λ (y : SemState). y.holder) (tells_state g past valid made w s u known user k)

  pub holder-told : (state_of w s).holder ≡ holder g s past
  holder-told = by_user (users g s) refl
    where
      by_user : (us : List ℕ) → users g s ≡ us → (state_of w s).holder ≡ holder g s past
      by_user [] e = undeclared (rw e refl) (protocol g s) (sem_at w.sems s) refl (k.kept s known)
      by_user (u ∷ us) e = declared-holder u (rw (e, equal_self u) refl)

pub holder_is_read : HolderIsRead
holder_is_read g past valid made v s known k = holder-told g valid past made v.table k.sems_are k.none_outside s known

-- ---- the rows of the setup, whichever the group

same-protocol : (g : Group) (s : ℕ) → protocol (group_with g.setup 0) s ≡ protocol g s
unfolding protocol sem
same-protocol g s = refl

same-declares : (g : Group) (t s : ℕ) → declares (group_with g.setup 0) t s ≡ declares g t s
unfolding declares task
same-declares g t s = refl

uses-declared : (g : Group) (t s : ℕ) → has s (uses_of g.setup t) ≡ declares g t s
unfolding declares task
uses-declared g t s = refl

-- ---- an Unlock

pub unlock_refusal_is_read : UnlockRefusalIsRead
unlock_refusal_is_read g past valid made v t s there known k = rw (same-protocol g s, holder_is_read g past valid made v s known k, tells_last g past valid made v.table t there k.sems_are k.rows_are) refl

-- ---- a Lock

-- two tests that fail together
fail-together : (a b : Bool) → (a ≡ false → b ≡ false) → (b ≡ false → a ≡ false) → a ≡ b
fail-together true true h k = refl
fail-together true false h k = let m : true ≡ false = k refl in cc
fail-together false true h k = let m : true ≡ false = h refl in cc
fail-together false false h k = refl

plain-held : (a b : Bool) → a && b ≡ false → b ≡ true → a ≡ false
plain-held true true h k = cc
plain-held true false h k = cc
plain-held false b h k = refl

module _ (g : Group) (valid : IsValid g.setup) (past : Past) (made : IsReachable g past) (v : GroupSems) (k : KeepsLocks g past v) (t : ℕ) (there : has t (tasks g) ≡ true) where
  all-rules : MeetsRules g
  all-rules = rules_of g valid

  held-is : held_of v.table t ≡ length (holds g t past)
  held-is = (k.rows_are.rows t there).held

  holds-it : (s : ℕ) → has s (sems g) ≡ true → holds_it v.table t s ≡ is t (holder g s past)
  holds-it s known = ap (is t) (holder_is_read g past valid made v s known k)

  other-one : (r : ℕ) → has r (sems g) ≡ true → holds_other_one g.setup v.table t r ≡ not (is_pcp (protocol g r)) && is t (holder g r past)
  other-one r known = rw (same-protocol g r, holds-it r known) refl

  other-is : holds_other g.setup v.table t (uses_of g.setup t) ≡ list_any (λ r. not (is_pcp (protocol g r))) (holds g t past)
  other-is = fail-together _ _ (λ h. none-any _ (holds g t past) (held-plain h)) (λ h. none-any _ (uses_of g.setup t) (used-plain h))
    where
      held-plain : holds_other g.setup v.table t (uses_of g.setup t) ≡ false → (r : ℕ) → has r (holds g t past) ≡ true → not (is_pcp (protocol g r)) ≡ false
      held-plain h r m =
          let q = one-holds g t r past m in
          let party : IsParty g t r = all_parties g all-rules made t r (holder-engaged g t r past q.1) in
          let used : has r (uses_of g.setup t) ≡ true = uses-declared g t r ∙ (user-task g r t party.user).1 in
          plain-held _ _ (sym (other-one r q.0) ∙ any-none (holds_other_one g.setup v.table t) (uses_of g.setup t) r h used) q.1

      used-plain : list_any (λ r. not (is_pcp (protocol g r))) (holds g t past) ≡ false → (r : ℕ) → has r (uses_of g.setup t) ≡ true → holds_other_one g.setup v.table t r ≡ false
      used-plain h r m = other-one r known ∙ by_case (is t (holder g r past)) refl
        where
          known : has r (sems g) ≡ true
          known = all-rules.is_known t r there (sym (uses-declared g t r) ∙ m)

          by_case : (b : Bool) → is t (holder g r past) ≡ b → not (is_pcp (protocol g r)) && b ≡ false
          by_case true e = rw (any-none (λ o. not (is_pcp (protocol g o))) (holds g t past) r h (holds-one g t r past known e)) refl
          by_case false e = and_false _

  nested-is : (s : ℕ) → has s (sems g) ≡ true → (p : Protocol) → is_nested_by p g.setup v.table t s ≡ nests g p s t past
  unfolding nests
  nested-is s known Pcp = rw (other-is, holds-it s known, held-is, has-holds g t s past, known) refl
  nested-is s known Srp = rw (holds-it s known, held-is, has-holds g t s past, known) refl
  nested-is s known Fmlp = ap (λ (n : ℕ). not (n == 0)) held-is ∙ ap not (none-counted (holds g t past))
  nested-is s known Omlp = ap (λ (n : ℕ). not (n == 0)) held-is ∙ ap not (none-counted (holds g t past))
  nested-is s known Mpcp = ap (λ (n : ℕ). not (n == 0)) held-is ∙ ap not (none-counted (holds g t past))

pub lock_refusal_is_read : LockRefusalIsRead
lock_refusal_is_read g past valid made v t s there known k = rw (same-declares g t s, same-protocol g s, nested-is g valid past made v k t there s known (protocol g s)) refl
