-- The tasks of the cluster in which a Lock or an Unlock of SRP was done, and those of all others, where the same is held.
use Rattle.std.proofs.Common.{◌≡◌, ℕ, Bool, true, false, ◌&&◌, List, ◌∷◌, eqb-true, length, refl, sym, ap, ◌∙◌, subst}
use Rattle.std.specs.Prelude.{◌==◌, None, Some, filter, if◌then◌else◌}
use Rattle.rt_rules.specs.Numbers.{has, numbers_from}
use Rattle.rt_rules.specs.SemState.{Asks, Frees}
use Rattle.rt_rules.proofs.BoolLaws.{and_false, both, clash, unless}
use Rattle.rt_rules.proofs.MemberLaws.{has-filter, turned}
use Rattle.rt_model.specs.Group.{Group, home, in_group, protocol, sem, task, tasks}
use Rattle.rt_model.specs.Past.{Event, Past, sem_act}
use Rattle.rt_model.specs.StackPolicy.{is_srp, srp, srp_at}
use Rattle.rt_plays.specs.Plays.{group_with}
use Rattle.group_jobs.specs.GroupJobs.{task_in}
use Rattle.group_core.specs.Facts.{retested_at, tasks_in_cluster, tasks_of_some}

same-protocol : (g : Group) (s : ℕ) → protocol (group_with g.setup 0) s ≡ protocol g s
unfolding protocol sem
same-protocol g s = refl

-- the members of a list that pass a test
in-filter : (test : ℕ → Bool) (xs : List ℕ) (u : ℕ) → has u xs ≡ true → test u ≡ true → has u (filter test xs) ≡ true
in-filter test xs u h k = has-filter test u xs ∙ rw (h, k)

of-filter : (test : ℕ → Bool) (xs : List ℕ) (u : ℕ) → has u (filter test xs) ≡ true → (has u xs ≡ true) × (test u ≡ true)
of-filter test xs u h = both (has u xs) (test u) (sym (has-filter test u xs) ∙ h)

abbrev numbers_of : Group → List ℕ
numbers_of g = numbers_from 1 (length g.setup.tasks)

member-is : (g : Group) (u : ℕ) → has u (tasks g) ≡ true → (has u (numbers_of g) ≡ true) × (in_group g (home g u) ≡ true)
unfolding tasks
member-is g u h = of-filter (λ v. in_group g (home g v)) (numbers_of g) u h

is-member : (g : Group) (u : ℕ) → has u (numbers_of g) ≡ true → in_group g (home g u) ≡ true → has u (tasks g) ≡ true
unfolding tasks
is-member g u h k = in-filter (λ v. in_group g (home g v)) (numbers_of g) u h k

cluster-is : (g : Group) (c u : ℕ) → has u (tasks_in_cluster g.setup c) ≡ true → (has u (numbers_of g) ≡ true) × (home g u == c ≡ true)
unfolding home task
cluster-is g c u h = of-filter (λ v. (task_in g.setup.tasks v).cluster.0 == c) (numbers_of g) u h

in-cluster : (g : Group) (c u : ℕ) → has u (numbers_of g) ≡ true → home g u == c ≡ true → has u (tasks_in_cluster g.setup c) ≡ true
unfolding home task
in-cluster g c u h k = in-filter (λ v. (task_in g.setup.tasks v).cluster.0 == c) (numbers_of g) u h k

module _ (g : Group) (t u : ℕ) where
  inside-cluster : has t (tasks g) ≡ true → has u (tasks_in_cluster g.setup (home g t)) ≡ true → has u (tasks g) ≡ true
  inside-cluster there h =
      let q = cluster-is g (home g t) u h in
      is-member g u q.0 (subst (λ c. in_group g c ≡ true) (sym (eqb-true (home g u) (home g t) q.1)) (member-is g t there).1)

  away-cluster : has u (tasks g) ≡ true → has u (tasks_in_cluster g.setup (home g t)) ≡ false → home g t == home g u ≡ false
  away-cluster there h = unless _ (λ m. clash _ (in-cluster g (home g t) u (member-is g u there).0 (turned (home g u) (home g t) ∙ m)) h)

  retested-is : (s : ℕ) → retested_at g.setup t s ≡ (if is_srp (protocol g s) then Some (home g t) else None)
  unfolding home task
  retested-is s = ap (λ x. if is_srp x then Some (home g t) else None) (same-protocol g s)

  -- the tasks that are tested again are of the group
  pub retested-inside : (s : ℕ) → has t (tasks g) ≡ true → has u (tasks_of_some g.setup (retested_at g.setup t s)) ≡ true → has u (tasks g) ≡ true
  retested-inside s there h = by_kind (is_srp (protocol g s)) (subst (λ o. has u (tasks_of_some g.setup o) ≡ true) (retested-is s) h)
    where
      by_kind : (b : Bool) → has u (tasks_of_some g.setup (if b then Some (home g t) else None)) ≡ true → has u (tasks g) ≡ true
      by_kind true k = inside-cluster there k
      by_kind false k = cc

  -- and any other is of another cluster, or the semaphore is none of SRP
  pub retested-away : (s : ℕ) → has u (tasks g) ≡ true → has u (tasks_of_some g.setup (retested_at g.setup t s)) ≡ false → home g t == home g u && is_srp (protocol g s) ≡ false
  retested-away s there h = by_kind (is_srp (protocol g s)) (subst (λ o. has u (tasks_of_some g.setup o) ≡ false) (retested-is s) h)
    where
      by_kind : (b : Bool) → has u (tasks_of_some g.setup (if b then Some (home g t) else None)) ≡ false → home g t == home g u && b ≡ false
      by_kind true k = rw (away-cluster there k)
      by_kind false k = and_false (home g t == home g u)

-- where the act is none of SRP in a cluster, the same is held there
pub srp-asked_away : (g : Group) (c t s : ℕ) (e : Event) (past : Past) → sem_act e ≡ Asks t s → home g t == c && is_srp (protocol g s) ≡ false → srp g c (e ∷ past) ≡ srp g c past
unfolding srp srp_at
srp-asked_away g c t s e past a h = rw (a, h)

pub srp-freed_away : (g : Group) (c t s : ℕ) (e : Event) (past : Past) → sem_act e ≡ Frees t s → home g t == c && is_srp (protocol g s) ≡ false → srp g c (e ∷ past) ≡ srp g c past
unfolding srp srp_at
srp-freed_away g c t s e past a h = rw (a, h)
