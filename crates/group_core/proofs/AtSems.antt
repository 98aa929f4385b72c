-- A Lock and an Unlock of the task that runs: what they are answered, what they rest on, and what they make of the semaphores.
use Rattle.std.proofs.Common.{◌≡◌, ℕ, ◌+◌, ◌<◌, ◌≤◌, length, Bool, true, false, not, ◌&&◌, refl, sym, ap, ◌∙◌, arith}
use Rattle.std.specs.Prelude.{Option, None, Some, if◌then◌else◌, unwrap_or}
use Rattle.rt_base.specs.declared.SemNo.{SemNo}
use Rattle.rt_task.specs.Validity.{IsValid}
use Rattle.rt_task.specs.RuleWords.{is_stacked}
use Rattle.rt_task.specs.declared.Act.TheVariants as acts
use Rattle.rt_task.specs.declared.Op.TheVariants as ops
use Rattle.rt_rules.specs.declared.history.Reply.{Reply}
use Rattle.rt_rules.specs.declared.history.Reply.TheVariants as replies
use Rattle.rt_rules.specs.Numbers.{has, is}
use Rattle.rt_rules.specs.SemState.{Asks}
use Rattle.rt_rules.proofs.NumberLaws.{has-numbers_from, numbers_from-below}
use Rattle.rt_model.specs.Answers.{answer, do_answer, is_granted as granted_by_rules, lock_answer, nests, op_answer, unlock_answer}
use Rattle.rt_model.specs.BaseKeys.{base_key}
use Rattle.rt_model.specs.Group.{Group, declares, protocol, sems, task, tasks}
use Rattle.rt_model.specs.Holders.{holder, last_granted}
use Rattle.rt_model.specs.NonPreemptive.{non_preemptive}
use Rattle.rt_model.specs.Past.{Acted, Event, Past, accepted, sem_act}
use Rattle.rt_model.specs.Outcomes.{past_act}
use Rattle.rt_model.specs.Reachable.{IsReachable, acted}
use Rattle.rt_model.specs.Runs.{runs}
use Rattle.rt_laws.proofs.jobs.Running.{running}
use Rattle.rt_laws.proofs.ValidSets.{rules_of}
use Rattle.rt_changes.proofs.SemActs.{lock_asks, unlock_frees}
use Rattle.group_jobs.specs.Facts.{JobFacts}
use Rattle.group_jobs.specs.FactMoves.{with_act}
use Rattle.group_jobs.specs.Kept.{IsKept}
use Rattle.group_sems.specs.Refusing.{AreSemsOf, lock_refusal, unlock_refusal}
use Rattle.group_sems.specs.Kept.{KeepsGroupSems, KeepsLocks}
use Rattle.group_sems.proofs.Fitting.{lock_fits, unlock_fits}
use Rattle.group_sems.proofs.Locks.{lock_is_kept}
use Rattle.group_sems.proofs.Reading.{grant_is_read}
use Rattle.group_sems.proofs.ReadRefusals.{lock_refusal_is_read, unlock_refusal_is_read}
use Rattle.group_sems.proofs.Unlocks.{unlock_is_kept}
use Rattle.group_core.specs.Facts.{Facts, MayLock, MayUnlock, asked_reply, lock_refused, sems_by, task_reply}
use Rattle.group_core.specs.Reads.{base_in}
use Rattle.group_core.proofs.ModelWords.{base-read}

-- the semaphores of a set, and those that a task declares, are numbered from 1
sem-range : (g : Group) (r : ℕ) → has r (sems g) ≡ true → (1 ≤ r) × (r ≤ length g.setup.sems)
unfolding sems
sem-range g r h =
    let high : r < 1 + length g.setup.sems = numbers_from-below r 1 (length g.setup.sems) h in
    (has-numbers_from r 1 (length g.setup.sems) h, omega (arith, high))

uses-known : (g : Group) (t : ℕ) → IsValid g.setup → has t (tasks g) ≡ true → AreSemsOf g.setup t
unfolding declares task
uses-known g t valid member = λ r h. sem-range g r ((rules_of g valid).is_known t r member h)

-- the answer, where this is why it is refused, and this the reply where it is not
record IsCase (refusal : Option Reply) (answer goes_on : Reply) : Type 0 where
  out : (r : Reply) → refusal ≡ Some r → r ≡ answer
  goes : refusal ≡ None → answer ≡ goes_on

-- so the reply is the answer
told : (o : Option Reply) (a b x : Reply) → IsCase o a x → (o ≡ None → b ≡ x) → unwrap_or o b ≡ a
told None a b x case same = same refl ∙ sym (case.goes refl)
told (Some r) a b x case same = case.out r refl

lock-case : (np declared nested : Bool) (x : Reply)
    → IsCase (if np then Some replies.InNp else (if not declared then Some replies.NotDeclared else (if nested then Some replies.Nested else None)))
    (if np then replies.InNp else (if not declared then replies.NotDeclared else (if nested then replies.Nested else x))) x
lock-case true d n x = record { out = λ r h. cc; goes = λ h. cc }
lock-case false false n x = record { out = λ r h. cc; goes = λ h. cc }
lock-case false true true x = record { out = λ r h. cc; goes = λ h. cc }
lock-case false true false x = record { out = λ r h. cc; goes = λ h. refl }

unlock-case : (holds late : Bool)
    → IsCase (if not holds then Some replies.NotHeld else (if late then Some replies.NotLast else None))
    (if not holds then replies.NotHeld else (if late then replies.NotLast else replies.Done)) replies.Done
unlock-case false l = record { out = λ r h. cc; goes = λ h. cc }
unlock-case true true = record { out = λ r h. cc; goes = λ h. cc }
unlock-case true false = record { out = λ r h. cc; goes = λ h. refl }

granted-accepted : (b : Bool) → accepted (if b then replies.Granted else replies.Queued) ≡ true
granted-accepted true = refl
granted-accepted false = refl

module _ (g : Group) (valid : IsValid g.setup) (past : Past) (made : IsReachable g past) (f : Facts) (kept : IsKept g past f.kept)
    (kept_sems : KeepsGroupSems g past f.sems) (q t : ℕ) (sem : SemNo) (runs_it : runs q past ≡ Some t) (there : has sem.0 (sems g) ≡ true) where
  member : has t (tasks g) ≡ true
  member = (running g (rules_of g valid) made q t runs_it).member

  base-is : base_in g.setup f.kept t ≡ base_key g t past
  base-is = sym (base-read g past f.kept kept t member)

  -- ---- a Lock

  abbrev locked : Past
  locked = with_act g q (acts.Do (ops.Lock sem)) past

  abbrev lock_event : Event
  lock_event = Acted (past_act g q (acts.Do (ops.Lock sem)) past)

  granted : Bool
  granted = granted_by_rules g (protocol g sem.0) sem.0 t past

  lock-answer : answer g q (acts.Do (ops.Lock sem)) past
      ≡ (if non_preemptive t past then replies.InNp else (if not (declares g t sem.0) then replies.NotDeclared else (if nests g (protocol g sem.0) sem.0 t past then replies.Nested else (if granted then replies.Granted else replies.Queued))))
  unfolding answer do_answer op_answer lock_answer granted
  lock-answer = rw runs_it refl

  lock-refusal : lock_refused g.setup t sem.0 f
      ≡ (if non_preemptive t past then Some replies.InNp else (if not (declares g t sem.0) then Some replies.NotDeclared else (if nests g (protocol g sem.0) sem.0 t past then Some replies.Nested else None)))
  lock-refusal =
      ap (λ (j : JobFacts). if j.np then Some replies.InNp else lock_refusal g.setup f.sems.table t sem.0) (kept.jobs_are t member)
      ∙ ap (λ (o : Option Reply). if non_preemptive t past then Some replies.InNp else o) (lock_refusal_is_read g past valid made f.sems t sem.0 member there kept_sems.locks)

  lock-cases : IsCase (lock_refused g.setup t sem.0 f) (answer g q (acts.Do (ops.Lock sem)) past) (if granted then replies.Granted else replies.Queued)
  lock-cases = rw (lock-refusal, lock-answer) (lock-case (non_preemptive t past) (declares g t sem.0) (nests g (protocol g sem.0) sem.0 t past) (if granted then replies.Granted else replies.Queued))

  lock-goes : lock_refused g.setup t sem.0 f ≡ None → sem_act lock_event ≡ Asks t sem.0
  lock-goes none = lock_asks g q t sem past runs_it (ap accepted (lock-cases.goes none) ∙ granted-accepted granted)

  made-locked : IsReachable g locked
  made-locked = acted q (acts.Do (ops.Lock sem)) made

  pub lock-reply : task_reply g.setup q t (ops.Lock sem) f ≡ answer g q (acts.Do (ops.Lock sem)) past
  unfolding granted
  lock-reply = told (lock_refused g.setup t sem.0 f) (answer g q (acts.Do (ops.Lock sem)) past) (asked_reply g.setup t sem.0 f) (if granted then replies.Granted else replies.Queued) lock-cases asked-so
    where
      asked-so : lock_refused g.setup t sem.0 f ≡ None → asked_reply g.setup t sem.0 f ≡ (if granted then replies.Granted else replies.Queued)
      asked-so none = ap (λ b. if b then replies.Granted else replies.Queued) (rw base-is (grant_is_read g lock_event past valid made-locked f.sems t sem.0 (lock-goes none) kept_sems.locks))

  pub may-lock : MayLock g.setup t sem.0 f
  may-lock = record {
    sem = sem-range g sem.0 there;
    uses = uses-known g t valid member;
    can = λ none. rw base-is (lock_fits g lock_event past valid made-locked f.sems t sem.0 (lock-goes none) kept_sems);
  }

  pub lock-kept : accepted (answer g q (acts.Do (ops.Lock sem)) past) ≡ true → KeepsLocks g locked (sems_by g.setup t (ops.Lock sem) f.kept f.sems)
  lock-kept done = rw (kept.clock_is, base-is) (lock_is_kept g lock_event past valid made-locked f.sems t sem.0 (lock_asks g q t sem past runs_it done) kept_sems.locks)

  -- ---- an Unlock

  abbrev unlocked : Past
  unlocked = with_act g q (acts.Do (ops.Unlock sem)) past

  abbrev unlock_event : Event
  unlock_event = Acted (past_act g q (acts.Do (ops.Unlock sem)) past)

  unlock-answer : answer g q (acts.Do (ops.Unlock sem)) past
      ≡ (if not (is t (holder g sem.0 past)) then replies.NotHeld else (if is_stacked (protocol g sem.0) && not (is sem.0 (last_granted g t past)) then replies.NotLast else replies.Done))
  unfolding answer do_answer op_answer unlock_answer
  unlock-answer = rw runs_it refl

  unlock-cases : IsCase (unlock_refusal g.setup f.sems.table t sem.0) (answer g q (acts.Do (ops.Unlock sem)) past) replies.Done
  unlock-cases =
      rw (unlock_refusal_is_read g past valid made f.sems t sem.0 member there kept_sems.locks, unlock-answer)
      (unlock-case (is t (holder g sem.0 past)) (is_stacked (protocol g sem.0) && not (is sem.0 (last_granted g t past))))

  made-unlocked : IsReachable g unlocked
  made-unlocked = acted q (acts.Do (ops.Unlock sem)) made

  pub unlock-reply : task_reply g.setup q t (ops.Unlock sem) f ≡ answer g q (acts.Do (ops.Unlock sem)) past
  unlock-reply = told (unlock_refusal g.setup f.sems.table t sem.0) (answer g q (acts.Do (ops.Unlock sem)) past) replies.Done replies.Done unlock-cases (λ none. refl)

  pub may-unlock : MayUnlock g.setup t sem.0 f
  may-unlock = record {
    sem = sem-range g sem.0 there;
    can = λ none. rw kept.clock_is (unlock_fits g unlock_event past valid made-unlocked f.sems t sem.0 (unlock_frees g q t sem past runs_it (ap accepted (unlock-cases.goes none))) kept_sems);
  }

  pub unlock-kept : accepted (answer g q (acts.Do (ops.Unlock sem)) past) ≡ true → KeepsLocks g unlocked (sems_by g.setup t (ops.Unlock sem) f.kept f.sems)
  unlock-kept done = rw kept.clock_is (unlock_is_kept g unlock_event past valid made-unlocked f.sems t sem.0 (unlock_frees g q t sem past runs_it done) kept_sems.locks)
