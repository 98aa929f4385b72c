-- The tasks that are listed are those that wait for the semaphore that is freed.
use Rattle.std.proofs.Common.{◌≡◌, ℕ, ◌+◌, ◌≤◌, ◌<◌, Bool, true, false, List, [], ◌∷◌, length, map, refl, sym, ap, subst, ◌∙◌, arith}
use Rattle.std.proofs.lemmas.List.Sums.{count_by-le-length, length-filter}
use Rattle.std.specs.Prelude.{Option, None, Some, is_none, not, ◌&&◌, option_map, if◌then◌else◌}
use Rattle.rt_base.specs.declared.SemNo.{SemNo}
use Rattle.rt_task.specs.declared.Act.{Act}
use Rattle.rt_task.specs.declared.Act.TheVariants as acts
use Rattle.rt_task.specs.declared.Op.TheVariants as ops
use Rattle.rt_task.specs.declared.Parts.{Parts}
use Rattle.rt_task.specs.RuleWords.{is_stacked}
use Rattle.rt_rules.specs.declared.history.Reply.TheVariants as replies
use Rattle.rt_rules.specs.Distinct.{IsDistinct}
use Rattle.rt_rules.specs.Numbers.{has, is, numbers_from}
use Rattle.rt_rules.specs.SemState.{Asks, Frees, Neither, SemAct, SemState}
use Rattle.rt_rules.proofs.NumberLaws.{has-numbers_from, length-numbers_from, numbers_from-below}
use Rattle.rt_model.specs.Answers.{answer, do_answer, op_answer, unlock_answer}
use Rattle.rt_model.specs.Group.{Group, home, in_group, protocol, sems, tasks, users}
use Rattle.rt_model.specs.Holders.{holder, last_granted, sem_state}
use Rattle.rt_model.specs.Outcomes.{past_act}
use Rattle.rt_model.specs.Past.{Past, accepted}
use Rattle.rt_model.specs.Runs.{runs}
use Rattle.rt_model.specs.Steps.{IsActOf}
use Rattle.rt_laws.proofs.jobs.Engaged.{holder-engaged}
use Rattle.rt_laws.proofs.Moves.{cpu_acts}
use Rattle.rt_laws.proofs.Next.{next}
use Rattle.rt_laws.proofs.jobs.Running.{running}
use Rattle.rt_laws.proofs.ValidSets.{rules_of}
use Rattle.rt_changes.proofs.Acting.{IsParty, all_parties}
use Rattle.rt_changes.specs.Tallies.{AreWaiters, Waiter, act_by, waiter, waiter_tasks, waiters}
use Rattle.rt_changes.proofs.requests.Laws.{waiting_lists_wait}
use Rattle.sem_table.specs.Told.{state_of}
use Rattle.sem_table.specs.Telling.{AreFewTasks}
use Rattle.sem_table.proofs.Conditions.{tells_state}
use Rattle.sem_table.proofs.Waiters.{waiters_are_few}
use Rattle.group_jobs.specs.Kept.{Kept, cpu_of}
use Rattle.group_sems.specs.GroupSems.{GroupSems}
use Rattle.group_sems.proofs.ReadRefusals.{unlock_refusal_is_read}
use Rattle.group_core.specs.inside.Blocked.{CanRankAll, CanRankTask, waiters_now}
use Rattle.group_core.specs.Listing.{AreListed, AreWaitersAt, CanList, GroupAt, NamesSem, freed_at, goes}
use Rattle.group_core.proofs.WaiterLimits.{can-rank-task}
use Rattle.group_core.proofs.ReadingBlocked.{waiters-read}

some-same : {A : Type 0} {r s : A} → Some r ≡ Some s → r ≡ s
some-same {A} {r} {s} h = cc

-- the semaphore that is freed
abbrev freed_sem : SemAct → Option ℕ
freed_sem (Frees t s) = Some s
freed_sem _ = None

unfreed : (a : SemAct) (b : Bool) → freed_sem a ≡ None → freed_sem (if b then a else Neither) ≡ None
unfreed a true h = h
unfreed a false h = refl

-- an act that frees one is a Frees
record IsFreed (a : SemAct) (s : ℕ) : Type 0 where
  task : ℕ
  is : a ≡ Frees task s

freed-by : (a : SemAct) (s : ℕ) → freed_sem a ≡ Some s → IsFreed a s
freed-by (Frees t r) s h = record { task = t; is = ap (Frees t) (some-same h) }
freed-by (Asks t r) s h = cc
freed-by Neither s h = cc

none-listed : (g : Group) (past : Past) (a : SemAct) (ws : List Waiter) → freed_sem a ≡ None → ws ≡ [] → AreListed g past a ws
none-listed g past (Frees t r) ws h is = cc
none-listed g past (Asks t r) ws h is = is
none-listed g past Neither ws h is = is

-- an Unlock is accepted where it is not refused
unlock-case : (holds late : Bool)
    → is_none (if not holds then Some replies.NotHeld else (if late then Some replies.NotLast else None))
    ≡ accepted (if not holds then replies.NotHeld else (if late then replies.NotLast else replies.Done))
unlock-case false late = refl
unlock-case true true = refl
unlock-case true false = refl

sem-range : (g : Group) (s : ℕ) → has s (sems g) ≡ true → (1 ≤ s) × (s ≤ length g.setup.sems)
unfolding sems
sem-range g s h =
    let high : s < 1 + length g.setup.sems = numbers_from-below s 1 (length g.setup.sems) h in
    (has-numbers_from s 1 (length g.setup.sems) h, omega (arith, high))

tasks-few : (g : Group) → length (tasks g) ≤ length g.setup.tasks
unfolding tasks
tasks-few g = omega (arith, length-filter (λ t. in_group g (home g t)) (numbers_from 1 (length g.setup.tasks)), count_by-le-length (λ t. in_group g (home g t)) (numbers_from 1 (length g.setup.tasks)), length-numbers_from 1 (length g.setup.tasks))

tasks-now : (p : Parts) (k : Kept) (ts : List ℕ) → waiter_tasks (waiters_now p k ts) ≡ ts
tasks-now p k [] = refl
tasks-now p k (t ∷ ts) = ap (λ us. t ∷ us) (tasks-now p k ts)

module _ (at : GroupAt) (p : Parts) (k : Kept) (v : GroupSems) (q : ℕ) (act : Act) (room : ℕ) (can : CanList at p k v q act room) where
  runs-read : (cpu_of k q).runs ≡ runs q at.past
  runs-read = ap (λ c. c.runs) (can.jobs_are.cpus_are q can.inside)

  -- a semaphore that its holder, which runs, is to free
  pub record IsHeld (s : ℕ) : Type 0 where
    pub task : ℕ
    pub known : has s (sems at.group) ≡ true
    pub user : has task (users at.group s) ≡ true

  held-user : (t s : ℕ) → is t (holder at.group s at.past) ≡ true → IsHeld s
  held-user t s h =
      let party : IsParty at.group t s = all_parties at.group (rules_of at.group can.valid) can.reachable t s (holder-engaged at.group t s at.past h) in
      record { task = t; known = party.known; user = party.user }

  abbrev act_now : SemAct
  act_now = act_by act (answer at.group q act at.past) (runs q at.past)

  -- an Unlock by the task that runs
  module _ (r : SemNo) (known : has r.0 (sems at.group) ≡ true) (t : ℕ) (runs_it : runs q at.past ≡ Some t) where
    answer-is : answer at.group q (acts.Do (ops.Unlock r)) at.past
        ≡ (if not (is t (holder at.group r.0 at.past)) then replies.NotHeld else (if is_stacked (protocol at.group r.0) && not (is r.0 (last_granted at.group t at.past)) then replies.NotLast else replies.Done))
    unfolding answer do_answer op_answer unlock_answer
    answer-is = rw runs_it refl

    member : has t (tasks at.group) ≡ true
    member = (running at.group (rules_of at.group can.valid) can.reachable q t runs_it).member

    goes-is : goes at.group.setup v.table (Some t) r ≡ accepted (answer at.group q (acts.Do (ops.Unlock r)) at.past)
    goes-is =
        rw (unlock_refusal_is_read at.group at.past can.valid can.reachable v t r.0 member known can.sems_are.locks, answer-is)
        (unlock-case (is t (holder at.group r.0 at.past)) (is_stacked (protocol at.group r.0) && not (is r.0 (last_granted at.group t at.past))))

  -- what is freed is read off what is kept
  freed-read : (a : Act) → IsActOf at.group a → (o : Option ℕ) → runs q at.past ≡ o
      → option_map (λ (s : SemNo). s.0) (freed_at at.group.setup v.table o a) ≡ freed_sem (act_by a (answer at.group q a at.past) o)
  freed-read (acts.Do (ops.Unlock r)) of (Some t) e = rw (goes-is r of t e) (by_case (accepted (answer at.group q (acts.Do (ops.Unlock r)) at.past)))
    where
      by_case : (b : Bool) → option_map (λ (s : SemNo). s.0) (if b then Some r else None) ≡ freed_sem (if b then Frees t r.0 else Neither)
      by_case true = refl
      by_case false = refl
  freed-read (acts.Do (ops.Unlock r)) of None e = sym (unfreed Neither (accepted (answer at.group q (acts.Do (ops.Unlock r)) at.past)) refl)
  freed-read (acts.Do (ops.Lock r)) of (Some t) e = sym (unfreed (Asks t r.0) (accepted (answer at.group q (acts.Do (ops.Lock r)) at.past)) refl)
  freed-read (acts.Do (ops.Lock r)) of None e = sym (unfreed Neither (accepted (answer at.group q (acts.Do (ops.Lock r)) at.past)) refl)
  freed-read (acts.Do ops.Work) of o e = sym (unfreed Neither (accepted (answer at.group q (acts.Do ops.Work) at.past)) refl)
  freed-read (acts.Do (ops.Sleep n)) of o e = sym (unfreed Neither (accepted (answer at.group q (acts.Do (ops.Sleep n)) at.past)) refl)
  freed-read (acts.Do ops.NpOn) of o e = sym (unfreed Neither (accepted (answer at.group q (acts.Do ops.NpOn) at.past)) refl)
  freed-read (acts.Do ops.NpOff) of o e = sym (unfreed Neither (accepted (answer at.group q (acts.Do ops.NpOff) at.past)) refl)
  freed-read (acts.Do ops.End) of o e = sym (unfreed Neither (accepted (answer at.group q (acts.Do ops.End) at.past)) refl)
  freed-read acts.Tick of o e = sym (unfreed Neither (accepted (answer at.group q acts.Tick at.past)) refl)
  freed-read acts.Irq of o e = sym (unfreed Neither (accepted (answer at.group q acts.Irq at.past)) refl)
  freed-read (acts.Arrive t) of o e = sym (unfreed Neither (accepted (answer at.group q (acts.Arrive t) at.past)) refl)

  freed-is : (o : Option SemNo) → freed_at p v.table (cpu_of k q).runs act ≡ o → freed_sem act_now ≡ option_map (λ (s : SemNo). s.0) o
  freed-is o told =
      let at-kept : freed_at at.group.setup v.table (runs q at.past) act ≡ o = rw (sym can.parts_are, sym runs-read) told in
      sym (freed-read act can.act_is_of (runs q at.past) refl) ∙ ap (option_map (λ (s : SemNo). s.0)) at-kept

  freed-told : (s : SemNo) → freed_at p v.table (cpu_of k q).runs act ≡ Some s → IsFreed act_now s.0
  freed-told s told = freed-by act_now s.0 (freed-is (Some s) told)

  pub freed-held : (s : SemNo) → freed_at p v.table (cpu_of k q).runs act ≡ Some s → IsHeld s.0
  unfolding past_act
  freed-held s told =
      let freed = freed-told s told in
      held-user freed.task s.0 ((next at.group (rules_of at.group can.valid) can.reachable (cpu_acts q act)).freed freed.task s.0 freed.is)

  -- the semaphore that is named is one of the set
  pub names-sem : NamesSem p act
  names-sem = subst (λ (x : Parts). NamesSem x act) (sym can.parts_are) (by_act act can.act_is_of)
    where
      by_act : (a : Act) → IsActOf at.group a → NamesSem at.group.setup a
      by_act (acts.Do (ops.Unlock r)) of = sem-range at.group r.0 of
      by_act (acts.Do ops.Work) of = tt
      by_act (acts.Do (ops.Lock r)) of = tt
      by_act (acts.Do (ops.Sleep n)) of = tt
      by_act (acts.Do ops.NpOn) of = tt
      by_act (acts.Do ops.NpOff) of = tt
      by_act (acts.Do ops.End) of = tt
      by_act acts.Tick of = tt
      by_act acts.Irq of = tt
      by_act (acts.Arrive t) of = tt

  module _ (s : ℕ) (held : IsHeld s) where
    few-tasks : AreFewTasks at.group (state_of v.table s).waiting
    few-tasks = (waiters_are_few at.group at.past can.valid can.reachable v.table s held.task held.known held.user can.sems_are.locks.sems_are).1

    state-is : state_of v.table s ≡ sem_state at.group s at.past
    state-is = tells_state at.group at.past can.valid can.reachable v.table s held.task held.known held.user can.sems_are.locks.sems_are

    read-are : waiters_now at.group.setup k (state_of v.table s).waiting ≡ waiters at.group s at.past
    read-are =
        waiters-read at.group at.past can.valid k can.jobs_are can.reachable s held.known (state_of v.table s).waiting (λ t h. (few-tasks.of_group t h, ap (λ (x : SemState). has t x.waiting) (sym state-is) ∙ h))
        ∙ ap (λ (x : SemState). map (waiter at.group at.past) x.waiting) state-is

    pub listed-can : CanRankAll p k (state_of v.table s).waiting
    listed-can = λ t h. subst (λ (x : Parts). CanRankTask x k t) (sym can.parts_are) (can-rank-task at.group can.valid at.past k can.jobs_are can.few can.clock_low t (few-tasks.of_group t h))

    pub listed-few : length (state_of v.table s).waiting ≤ room
    listed-few = omega (arith, few-tasks.few, tasks-few at.group, can.has_room)

    pub listed-once : IsDistinct (waiter_tasks (waiters_now p k (state_of v.table s).waiting))
    listed-once = rw (tasks-now p k (state_of v.table s).waiting) few-tasks.once

    pub listed-are : AreWaiters at.group s at.past (waiters_now p k (state_of v.table s).waiting)
    listed-are =
        let same : waiters_now p k (state_of v.table s).waiting ≡ waiters at.group s at.past = ap (λ (x : Parts). waiters_now x k (state_of v.table s).waiting) can.parts_are ∙ read-are in
        rw same (waiting_lists_wait at.group at.past can.valid can.reachable s held.known)

  -- the list that is told is right: of the semaphore that is freed, or empty
  pub told-are : (sem : SemNo) (ws : List Waiter) → freed_at p v.table (cpu_of k q).runs act ≡ Some sem → ws ≡ waiters_now p k (state_of v.table sem.0).waiting → AreWaitersAt at q act ws
  told-are sem ws told is =
      let are : AreWaiters at.group sem.0 at.past ws = rw is (listed-are sem.0 (freed-held sem told)) in
      subst (λ a. AreListed at.group at.past a ws) (sym (freed-told sem told).is) are

  pub told-none : (ws : List Waiter) → freed_at p v.table (cpu_of k q).runs act ≡ None → ws ≡ [] → AreWaitersAt at q act ws
  told-none ws told is = none-listed at.group at.past act_now ws (freed-is None told) is
