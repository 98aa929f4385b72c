-- Who waits for a semaphore, by its book: a task of the set.
use Rattle.std.proofs.Common.{◌≡◌, ◌⊎◌, inl, inr, ℕ, ◌<◌, ◌≤◌, true, false, List, [], ◌∷◌, ◌++◌, length, Option, None, Some, refl, sym, ap, ◌∙◌, subst, eqb-true}
use Rattle.std.specs.Prelude.{◌==◌}
use Rattle.rt_base.specs.TaskNos.{number_of_task}
use Rattle.rt_base.specs.declared.TaskNo.{TaskNo}
use Rattle.rt_rules.specs.Mpcp.{after_ask, passed_on}
use Rattle.rt_rules.specs.Numbers.{first, has}
use Rattle.rt_rules.specs.SemState.{SemState}
use Rattle.rt_rules.proofs.BoolLaws.{clash, either}
use Rattle.rt_rules.proofs.MemberLaws.{find-some, has-first, has-push, has-without, some-is}
use Rattle.split_rules.specs.SemHistories.{nobody}
use Rattle.split_rules.specs.declared.SemAct.{SemAct}
use Rattle.split_rules.specs.declared.SemAct.TheVariants as acts
use Rattle.split_rules.specs.declared.SemEntry.{SemEntry}
use Rattle.split_inbox.specs.Books.{IsActAt, IsEntryAt, IsLegalFrom, IsLegalSem, after_act, next_by, state_from}
use Rattle.split_inbox.specs.declared.subject.SemOf.{SemOf}
use Rattle.split_inbox.specs.declared.subject.SemRule.{SemRule}
use Rattle.split_inbox.specs.declared.subject.SemRule.TheVariants as rules

pub record IsTask (s : SemOf) (t : ℕ) : Type 0 where
  pub low : 1 ≤ t
  pub high : t < length s.homes

module _ (s : SemOf) where
  abbrev AreTasks : List ℕ → Type 0
  AreTasks ts = (t : ℕ) → has t ts ≡ true → IsTask s t

  asked : (t : ℕ) (o : Option ℕ) (l : SemState) → IsTask s t → AreTasks l.waiting → AreTasks (after_ask t o l).waiting
  asked t None l h known = known
  asked t (Some v) l h known = λ u m. by_case u (either (u == t) (has u l.waiting) (sym (has-push u t l.waiting) ∙ m))
    where
      by_case : (u : ℕ) → (u == t ≡ true) ⊎ (has u l.waiting ≡ true) → IsTask s u
      by_case u (inl e) = subst (IsTask s) (sym (eqb-true u t e)) h
      by_case u (inr e) = known u e

  passed : (o : Option ℕ) (ts : List ℕ) → AreTasks ts → AreTasks (passed_on o ts).waiting
  passed None ts known = known
  passed (Some v) ts known = λ u m. known u (has-without u v ts m)

  after : (t : ℕ) (a : SemAct) (l : SemState) → IsTask s t → AreTasks l.waiting → AreTasks (after_act s t a l).waiting
  after t (acts.Ask a) l h known = asked t l.holder l h known
  after t (acts.Release o) l h known = passed (next_by s.rule s.prios l.waiting) l.waiting known

  waiting-from : (l : SemState) (es : List SemEntry) → AreTasks l.waiting → IsLegalFrom s l es → AreTasks (state_from s l es).waiting
  waiting-from l [] known h = known
  waiting-from l (e ∷ es) known h =
      waiting-from (after_act s e.task.0 e.act l) es (after e.task.0 e.act l (record { low = h.0.low; high = h.0.known }) known) h.1

  next-waits : (r : SemRule) (ts : List ℕ) (t : ℕ) → next_by r s.prios ts ≡ Some t → has t ts ≡ true
  next-waits rules.Fmlp ts t e = has-first t ts (some-is t (first ts) e)
  next-waits rules.Mpcp ts t e = (find-some _ ts t e).0

  last-from : (l : SemState) (es : List SemEntry) (e : SemEntry) → IsLegalFrom s l (es ++ e ∷ []) → IsLegalFrom s l es × IsEntryAt s (state_from s l es) e
  last-from l [] e h = (tt, h.0)
  last-from l (x ∷ es) e h = let r = last-from (after_act s x.task.0 x.act l) es e h.1 in ((h.0, r.0), r.1)

  -- the task that a release passes the semaphore on to
  pub passed-task : (es : List SemEntry) (e : SemEntry) (t : TaskNo) → e.act ≡ acts.Release (Some t) → IsLegalSem s (es ++ e ∷ []) → IsTask s t.0
  passed-task es e t is h =
      let last = last-from nobody es e h in
      by_act e.act is last.1.act
    where
      by_act : (a : SemAct) → a ≡ acts.Release (Some t) → IsActAt s e.task.0 a (state_from s nobody es) → IsTask s t.0
      by_act (acts.Ask a) k m = cc
      by_act (acts.Release o) k m =
          let o-is : o ≡ Some t = cc in
          let none : AreTasks nobody.waiting = λ u j. absurd (clash false j refl) in
          waiting-from nobody es none (last-from nobody es e h).0 t.0 (next-waits s.rule (state_from s nobody es).waiting t.0 (sym m.next ∙ ap number_of_task o-is))
