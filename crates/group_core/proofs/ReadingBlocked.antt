-- Which waiting tasks are priority-blocked is read off what is kept.
use Rattle.std.proofs.Common.{◌≡◌, ℕ, ◌+◌, ◌-◌, ◌<◌, ◌≤◌, Bool, true, false, ◌&&◌, List, [], ◌∷◌, length, map, refl, sym, ap, ◌∙◌, arith, count_by, eqb-true}
use Rattle.std.proofs.lemmas.Bool.Decides.{nat_tests}
use Rattle.std.specs.Prelude.{Some, is_some, nat_lt, slice_index_or, ◌==◌}
use Rattle.rt_task.specs.declared.PluginKind.{PluginKind}
use Rattle.rt_task.specs.declared.PluginKind.TheVariants as plugins
use Rattle.rt_task.specs.declared.Task.{Task}
use Rattle.rt_task.specs.Validity.{IsValid}
use Rattle.rt_rules.specs.declared.Key.{Key}
use Rattle.rt_rules.specs.KeyOrder.{higher}
use Rattle.rt_rules.specs.Numbers.{has, numbers_from}
use Rattle.rt_rules.proofs.BoolLaws.{both, or_true}
use Rattle.rt_rules.proofs.MemberLaws.{has-filter}
use Rattle.rt_rules.proofs.NumberLaws.{numbers_from-has}
use Rattle.rt_model.specs.BaseKeys.{base_key}
use Rattle.rt_model.specs.Blocking.{is_blocked}
use Rattle.rt_model.specs.Group.{Group, cluster, cpus, home, in_group, no_task, resv, sems, served_by, task, tasks, tasks_of}
use Rattle.rt_model.specs.Holders.{awaits, sem_state}
use Rattle.rt_model.specs.Past.{Past}
use Rattle.rt_model.specs.Reachable.{IsReachable}
use Rattle.rt_model.specs.Releases.{exists}
use Rattle.rt_laws.proofs.semaphores.OneWait.{awaits-is, waits_once}
use Rattle.rt_laws.proofs.ValidSets.{rules_of}
use Rattle.rt_plays.specs.Plays.{group_with}
use Rattle.rt_plays.proofs.TaskNumbers.{task-number}
use Rattle.rt_changes.specs.Tallies.{Waiter, waiter}
use Rattle.group_jobs.specs.Facts.{JobFacts}
use Rattle.group_jobs.specs.Kept.{IsKept, Kept, job_of}
use Rattle.group_jobs.specs.Words.{is_there, key_of}
use Rattle.group_jobs.proofs.KeptMoves.{words_of_kept}
use Rattle.group_core.specs.inside.Blocked.{home_in, is_above, is_among_first, key_in, waiter_now, waiters_now}
use Rattle.group_core.proofs.CountingRows.{counted-rows}

-- the key does not depend on the group's number
pub key_of-any : (g : Group) (plugin : PluginKind) (t : ℕ) (job : JobFacts) → key_of (group_with g.setup 0) plugin t job ≡ key_of g plugin t job
unfolding task resv served_by
key_of-any g plugins.GsnEdf t job = refl
key_of-any g plugins.CEdf t job = refl
key_of-any g plugins.PsnEdf t job = refl
key_of-any g plugins.PFp t job = refl
key_of-any g plugins.PRes t job = refl

-- a task of the set whose cluster is of the group
pub member-of : (g : Group) (t : ℕ) → 1 ≤ t → t ≤ length g.setup.tasks → in_group g (home g t) ≡ true → has t (tasks g) ≡ true
unfolding tasks
member-of g t low high inside = has-filter (λ u. in_group g (home g u)) t (numbers_from 1 (length g.setup.tasks)) ∙ rw (numbers_from-has 1 (length g.setup.tasks) t low (omega (arith, high)), inside) refl

-- the cluster of a task of the group is of the group
pub member-home : (g : Group) (t : ℕ) → has t (tasks g) ≡ true → in_group g (home g t) ≡ true
unfolding tasks
member-home g t h = (both (has t (numbers_from 1 (length g.setup.tasks))) (in_group g (home g t)) (sym (has-filter (λ u. in_group g (home g u)) t (numbers_from 1 (length g.setup.tasks))) ∙ h)).1

module _ (g : Group) (past : Past) (valid : IsValid g.setup) (k : Kept) (kept : IsKept g past k) where
  pub key-read : (t : ℕ) → has t (tasks g) ≡ true → key_in g.setup k t ≡ base_key g t past
  key-read t h = key_of-any g g.setup.plugin t (job_of k t) ∙ sym (words_of_kept g past k kept t h).key_is

  above-read : (c i : ℕ) (key : Key) → in_group g c ≡ true → i < length g.setup.tasks
      → is_above g.setup k c key (slice_index_or g.setup.tasks i no_task) ≡ (home g (1 + i) == c) && (exists g (1 + i) past && higher (base_key g (1 + i) past) key)
  unfolding home task
  above-read c i key inside low = by_case (home g (1 + i) == c) refl
    where
      row : Task
      row = slice_index_or g.setup.tasks i no_task

      row_is : task g (1 + i) ≡ row
      row_is = let e : 1 + i - 1 ≡ i = omega arith in ap (λ n. slice_index_or g.setup.tasks n no_task) e

      home_is : home g (1 + i) ≡ row.cluster.0
      home_is = ap (λ (x : Task). x.cluster.0) row_is

      by_case : (b : Bool) → home g (1 + i) == c ≡ b → is_above g.setup k c key row ≡ b && (exists g (1 + i) past && higher (base_key g (1 + i) past) key)
      by_case false e = ap (λ n. (n == c) && (is_there k.clock row (job_of k row.number.0) && higher (key_in g.setup k row.number.0) key)) (sym home_is) ∙ ap (λ b. b && (is_there k.clock row (job_of k row.number.0) && higher (key_in g.setup k row.number.0) key)) e
      by_case true e =
          let at_home : in_group g (home g (1 + i)) ≡ true = ap (in_group g) (eqb-true _ _ e) ∙ inside in
          let own : has (1 + i) (tasks g) ≡ true = member-of g (1 + i) (omega arith) (omega (arith, low)) at_home in
          let number : row.number.0 ≡ 1 + i = ap (λ (x : Task). x.number.0) (sym row_is) ∙ task-number g (1 + i) valid own in
          let there : exists g (1 + i) past ≡ is_there k.clock row (job_of k (1 + i)) = (words_of_kept g past k kept (1 + i) own).there_is ∙ ap (λ (x : Task). is_there k.clock x (job_of k (1 + i))) row_is in
          ap (λ n. (n == c) && (is_there k.clock row (job_of k row.number.0) && higher (key_in g.setup k row.number.0) key)) (sym home_is)
          ∙ ap (λ b. b && (is_there k.clock row (job_of k row.number.0) && higher (key_in g.setup k row.number.0) key)) e
          ∙ ap (λ n. is_there k.clock row (job_of k n) && higher (key_in g.setup k n) key) number
          ∙ ap (λ b. b && higher (key_in g.setup k (1 + i)) key) (sym there)
          ∙ ap (λ x. exists g (1 + i) past && higher x key) (key-read (1 + i) own)

  counted : (t : ℕ) → has t (tasks g) ≡ true → in_group g (home g t) ≡ true
      → count_by (is_above g.setup k (home_in g.setup t) (key_in g.setup k t)) g.setup.tasks ≡ count_by (λ u. exists g u past && higher (base_key g u past) (base_key g t past)) (tasks_of g (home g t))
  unfolding home task tasks tasks_of
  counted t h inside =
      ap (λ x. count_by (is_above g.setup k (home_in g.setup t) x) g.setup.tasks) (key-read t h)
      ∙ counted-rows g (home_in g.setup t) inside (λ u. exists g u past && higher (base_key g u past) (base_key g t past)) (is_above g.setup k (home_in g.setup t) (base_key g t past)) g.setup.tasks 1 (λ i low. above-read (home_in g.setup t) i (base_key g t past) inside low)

  -- a task of which it is known whether it waits
  pub blocked-as : (t : ℕ) → has t (tasks g) ≡ true → (waits : Bool) → waits ≡ is_some (awaits g t past) → waits && is_among_first g.setup k t ≡ is_blocked g t past
  unfolding is_blocked cpus cluster home task
  blocked-as t h waits same =
      ap (λ b. b && is_among_first g.setup k t) same
      ∙ ap (λ n. is_some (awaits g t past) && nat_lt n (cpus g (home g t))) (counted t h (member-home g t h))

  module _ (made : IsReachable g past) (s : ℕ) (known : has s (sems g) ≡ true) where
    blocked-read : (t : ℕ) → has t (tasks g) ≡ true → in_group g (home g t) ≡ true → has t (sem_state g s past).waiting ≡ true → is_among_first g.setup k t ≡ is_blocked g t past
    unfolding is_blocked cpus cluster home task
    blocked-read t h inside waits =
        let waits_for : awaits g t past ≡ Some s = awaits-is g t s past (waits_once g (rules_of g valid) made) known waits in
        let some : is_some (awaits g t past) ≡ true = ap is_some waits_for in
        ap (λ n. nat_lt n (cpus g (home g t))) (counted t h inside)
        ∙ sym (ap (λ b. b && nat_lt (count_by (λ u. exists g u past && higher (base_key g u past) (base_key g t past)) (tasks_of g (home g t))) (cpus g (home g t))) some)

    -- of tasks that wait for the semaphore
    pub waiters-read : (ts : List ℕ) → ((t : ℕ) → has t ts ≡ true → (has t (tasks g) ≡ true) × (has t (sem_state g s past).waiting ≡ true)) → waiters_now g.setup k ts ≡ map (waiter g past) ts
    waiters-read [] h = refl
    waiters-read (t ∷ ts) h =
        let here = h t (grind (arith, nat_tests)) in
        let at_home : in_group g (home g t) ≡ true = member-home g t here.0 in
        let first : waiter_now g.setup k t ≡ waiter g past t = ap (λ b. let w : Waiter = record { task = t; blocked = b } in w) (blocked-read t here.0 at_home here.1) in
        let rest : waiters_now g.setup k ts ≡ map (waiter g past) ts = waiters-read ts (λ u m. h u (rw m (or_true (u == t)))) in
        ap (λ w. w ∷ waiters_now g.setup k ts) first ∙ ap (λ ws. waiter g past t ∷ ws) rest
