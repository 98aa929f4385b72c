-- What is kept of a partition's jobs and locks, move by move.
use Rattle.std.proofs.Common.{◌≡◌, ◌≢◌, ℕ, ◌-◌, ◌<◌, Bool, true, false, [], ◌∷◌, length, Option, None, Some}
use Rattle.std.proofs.Common.{refl, sym, ap, ◌∙◌, subst, arith, get_or, set, eqb-true, length-set, get_or-set_same, get_or-set_other}
use Rattle.std.specs.Prelude.{◌==◌, if◌then◌else◌, is_some, option_map}
use Rattle.rt_base.specs.declared.Ask.TheVariants.{Granted, Queued}
use Rattle.rt_task.specs.declared.Act.{Act}
use Rattle.rt_task.specs.declared.Act.TheVariants as acts
use Rattle.rt_task.specs.declared.Op.TheVariants as ops
use Rattle.rt_rules.specs.declared.history.Reply.{Reply}
use Rattle.rt_rules.specs.declared.history.Reply.TheVariants as replies
use Rattle.rt_rules.specs.Numbers.{has}
use Rattle.rt_rules.proofs.BoolLaws.{clash}
use Rattle.rt_rules.proofs.MemberLaws.{equal_self}
use Rattle.rt_model.specs.Group.{Group, tasks}
use Rattle.rt_model.specs.Past.{Acted, Clock, accepted, now}
use Rattle.rt_model.specs.Runs.{runs}
use Rattle.group_jobs.specs.Kept.{cpu_of}
use Rattle.group_jobs.proofs.KeptMoves.{length-replicated, replicated, task-range}
use Rattle.group_jobs.proofs.KeptMoves as jobs
use Rattle.split_rules.specs.PartAnswers.{part_act}
use Rattle.split_rules.specs.PartPast.{Asks, Deed, Frees, Gets, Moved, PartEvent, PartPast, TaskDeed, Took, deed_in, deed_of, moves}
use Rattle.split_rules.specs.PartSems.{awaited_after, awaited_by, awaiting, begins, begins_to_hold, held_after, held_by, held_since, holding}
use Rattle.split_facts.proofs.PartSteps.{part_kept_after_act, part_kept_after_clock}
use Rattle.part_state.specs.Keeping.{KeptAfterAct, KeptAfterClock, KeptAfterTake, KeptAtOpening, StateStays}
use Rattle.part_state.specs.States.{IsLockAt, PartState, after_deed, lock_after, lock_in, lock_of, locks_after, no_lock, sem_number, after_act}
use Rattle.part_state.specs.declared.locks.TaskLock.{TaskLock}

-- a task after a deed of its own
own-after : (clock s : ℕ) (d : Deed) (l : TaskLock) (holds waits : Option ℕ) (since : ℕ) → sem_number l.holds ≡ holds → sem_number l.waits ≡ waits
    → l.since ≡ since
    → (sem_number (lock_after clock (record { 0 = s }) d l).holds ≡ held_after s d holds)
    × (sem_number (lock_after clock (record { 0 = s }) d l).waits ≡ awaited_after s d waits)
    × ((lock_after clock (record { 0 = s }) d l).since ≡ (if begins d then clock else since))
own-after clock s (Asks Granted) l holds waits since h w c = (refl, w, refl)
own-after clock s (Asks Queued) l holds waits since h w c = (h, refl, c)
own-after clock s (Gets n) l holds waits since h w c = (refl, refl, refl)
own-after clock s Frees l holds waits since h w c = (refl, w, c)

module _ (g : Group) (past : PartPast) (e : PartEvent) (clock : ℕ) (still : clock ≡ now (moves (e ∷ past))) where
  -- a task stands as it did where the event is no deed of its own
  other-lock : (t : ℕ) (l : TaskLock) → held_by t (deed_in e) (holding t past) ≡ holding t past
      → awaited_by t (deed_in e) (awaiting t past) ≡ awaiting t past → begins_to_hold t (deed_in e) ≡ false
      → IsLockAt t past l → IsLockAt t (e ∷ past) l
  unfolding holding awaiting held_since
  other-lock t l h w b k = record {
    holds = k.holds ∙ sym h;
    waits = k.waits ∙ sym w;
    since = rw b k.since;
  }

  own-lock : (t : ℕ) (d : TaskDeed) (l : TaskLock) → deed_in e ≡ Some d → d.task == t ≡ true → IsLockAt t past l
      → IsLockAt t (e ∷ past) (lock_after clock (record { 0 = d.sem }) d.deed l)
  unfolding holding awaiting held_since
  own-lock t d l is_deed own k =
      let a = own-after clock d.sem d.deed l (holding t past) (awaiting t past) (held_since t past) k.holds k.waits k.since in
      record {
        holds = rw (is_deed, own) a.0;
        waits = rw (is_deed, own) a.1;
        since = rw (is_deed, own) (rw (← still) a.2);
      }

  module _ (p : PartState) (clock_is : p.kept.clock ≡ clock) (count : length p.locks ≡ length g.setup.tasks)
      (kept : (t : ℕ) → has t (tasks g) ≡ true → IsLockAt t past (lock_of p t)) where
    lock-set : (d : TaskDeed) → deed_in e ≡ Some d → has d.task (tasks g) ≡ true → (t : ℕ) → has t (tasks g) ≡ true
        → IsLockAt t (e ∷ past) (lock_in (locks_after clock d p.locks) t)
    lock-set d is_deed there t h = by_case (d.task == t) refl
      where
        new : TaskLock
        new = lock_after clock (record { 0 = d.sem }) d.deed (lock_in p.locks d.task)

        by_case : (b : Bool) → d.task == t ≡ b → IsLockAt t (e ∷ past) (get_or (set p.locks (d.task - 1) new) (t - 1) no_lock)
        by_case true own =
            let same : d.task ≡ t = eqb-true d.task t own in
            let r = task-range g d.task there in
            let inside : d.task - 1 < length p.locks = omega (arith, r.0, r.1, count) in
            let put : get_or (set p.locks (d.task - 1) new) (d.task - 1) no_lock ≡ new = get_or-set_same p.locks (d.task - 1) new no_lock inside in
            let stands : IsLockAt d.task past (lock_in p.locks d.task) = kept d.task there in
            subst (λ u. IsLockAt u (e ∷ past) (get_or (set p.locks (d.task - 1) new) (u - 1) no_lock)) same
            (subst (λ l. IsLockAt d.task (e ∷ past) l) (sym put)
            (own-lock d.task d (lock_in p.locks d.task) is_deed (equal_self d.task) stands))
        by_case false other =
            let r = task-range g d.task there in
            let s = task-range g t h in
            let ne : t ≢ d.task = λ m. let k : d.task == d.task ≡ false = subst (λ u. d.task == u ≡ false) m other in clash _ (equal_self d.task) k in
            let apart : t - 1 ≢ d.task - 1 = omega (arith, r.0, s.0, ne) in
            subst (λ l. IsLockAt t (e ∷ past) l) (sym (get_or-set_other p.locks (d.task - 1) (t - 1) new no_lock apart))
            (other-lock t (lock_in p.locks t) (rw (is_deed, other) refl) (rw (is_deed, other) refl) (rw (is_deed, other) refl) (kept t h))

    pub locks-kept : (o : Option TaskDeed) → deed_in e ≡ o → ((d : TaskDeed) → o ≡ Some d → has d.task (tasks g) ≡ true)
        → (t : ℕ) → has t (tasks g) ≡ true → IsLockAt t (e ∷ past) (lock_of (after_deed o p) t)
    locks-kept None is_none there t h = other-lock t (lock_of p t) (rw is_none refl) (rw is_none refl) (rw is_none refl) (kept t h)
    locks-kept (Some d) is_deed there t h = rw clock_is (lock-set d is_deed (there d refl) t h)

-- the number of tasks stays
count-after : (o : Option TaskDeed) (p : PartState) → length (after_deed o p).locks ≡ length p.locks
count-after None p = refl
count-after (Some d) p = length-set _ _ _

none-known : (t : ℕ) → IsLockAt t [] no_lock
unfolding holding awaiting held_since
none-known t = record { holds = refl; waits = refl; since = refl }

pub kept_at_opening : KeptAtOpening
kept_at_opening g m room = record {
  kept = jobs.kept_at_opening g m room;
  count = length-replicated (length g.setup.tasks) no_lock;
  locks = λ t h. subst (λ l. IsLockAt t [] l) (sym (replicated (length g.setup.tasks) (t - 1) no_lock)) (none-known t);
}

pub kept_after_clock : KeptAfterClock
kept_after_clock g tick past p k = record {
  kept = part_kept_after_clock g tick past p.kept k.kept;
  count = k.count;
  locks = λ t h. other-lock g past (Moved (Clock tick)) _ refl t (lock_of p t) refl refl refl (k.locks t h);
}

-- the task of a deed is of the group
is-there : Group → Option TaskDeed → Bool
is-there g None = true
is-there g (Some d) = has d.task (tasks g)

pub kept_after_take : KeptAfterTake
unfolding is-there
kept_after_take g k past p there kept =
    let o : Option TaskDeed = Some (record { task = k.task; sem = k.sem; deed = Gets k.no }) in
    record {
      kept = kept.kept;
      count = count-after o p ∙ kept.count;
      locks = locks-kept g past (Took k) (now (moves past)) refl p kept.kept.clock_is kept.count kept.locks o refl
          (λ d e. subst (λ x. is-there g x ≡ true) e there);
    }

-- who acts at a semaphore runs
deed-task : (act : Act) (reply : Reply) (o : Option ℕ) (d : TaskDeed) → deed_of act reply o ≡ Some d → o ≡ Some d.task
deed-task (acts.Do (ops.Lock s)) replies.Granted (Some t) d e = ap (option_map (λ (x : TaskDeed). x.task)) e
deed-task (acts.Do (ops.Lock s)) replies.Queued (Some t) d e = ap (option_map (λ (x : TaskDeed). x.task)) e
deed-task (acts.Do (ops.Unlock s)) replies.Done (Some t) d e = ap (option_map (λ (x : TaskDeed). x.task)) e
deed-task _ _ o d e = absurd (clash _ refl (ap is_some (sym e)))

pub kept_after_act : KeptAfterAct
unfolding part_act
kept_after_act g q act a reply past p plain is_answer kept =
    let e : PartEvent = Moved (Acted (part_act g q act reply past)) in
    let runs_is : (cpu_of p.kept q).runs ≡ runs q (moves past) = ap (λ c. c.runs) (kept.kept.cpus_are q plain.inside) in
    let o : Option TaskDeed = deed_of act reply (cpu_of p.kept q).runs in
    record {
      kept = part_kept_after_act g q act a reply true past p.kept plain is_answer kept.kept;
      count = count-after o p ∙ kept.count;
      locks = locks-kept g past e (now (moves past)) refl p kept.kept.clock_is kept.count kept.locks o (rw runs_is refl)
          (λ d m. plain.runs_in d.task (sym runs_is ∙ deed-task act reply (cpu_of p.kept q).runs d m));
    }

-- a refused act is no deed
refused-deed : (act : Act) (reply : Reply) (o : Option ℕ) → accepted reply ≡ false → deed_of act reply o ≡ None
refused-deed (acts.Do (ops.Lock s)) replies.Granted o h = absurd (clash _ refl h)
refused-deed (acts.Do (ops.Lock s)) replies.Queued o h = absurd (clash _ refl h)
refused-deed (acts.Do (ops.Unlock s)) replies.Done o h = absurd (clash _ refl h)
refused-deed _ _ o h = refl

pub state_stays : StateStays
state_stays all q act reply p = record {
  refused = λ h. rw (h, refused-deed act reply (cpu_of p.kept q).runs h) refl;
  tick = λ e. subst (λ a. after_act all q a reply p ≡ p) (sym e) (tick-stays (accepted reply));
}
  where
    tick-stays : (b : Bool) → record { kept = if b then p.kept else p.kept; locks = p.locks } ≡ p
    tick-stays true = refl
    tick-stays false = refl
