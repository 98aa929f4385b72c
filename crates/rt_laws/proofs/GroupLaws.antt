-- The tasks, users and clusters of a group.
use Rattle.std.proofs.Common.{List, [], eqb-true, length, refl, true, ℕ, ◌∷◌, ◌≡◌, ◌≤◌}
use Rattle.std.specs.Prelude.{None, Option, Some, option_map, unwrap_or, ◌==◌}
use Rattle.rt_task.specs.RuleWords.{is_of_one_cluster}
use Rattle.rt_task.specs.declared.PluginKind.{PluginKind}
use Rattle.rt_task.specs.declared.Protocol.TheVariants.{Fmlp, Mpcp, Omlp, Pcp, Srp}
use Rattle.rt_task.specs.declared.Protocol.{Protocol}
use Rattle.rt_rules.specs.Distinct.{IsDistinct}
use Rattle.rt_rules.specs.Numbers.{first, has}
use Rattle.rt_model.specs.Ceilings.{is_pcp}
use Rattle.rt_model.specs.Group.{Group, cpus, declares, home, protocol, tasks, tasks_of, users}
use Rattle.rt_model.specs.Semaphores.{cluster_of}
use Rattle.rt_rules.proofs.BoolLaws.{both}
use Rattle.rt_rules.proofs.MemberLaws.{equal_self, has-filter, has-first, some-is}
use Rattle.rt_rules.proofs.NumberLaws.{distinct-numbers_from}
use Rattle.rt_rules.proofs.PlacingLaws.{distinct-filter}
use Rattle.rt_laws.proofs.Rules.{MeetsRules}

-- a user is a task of the group that declares the semaphore
pub user-task : (g : Group) (s t : ℕ) → has t (users g s) ≡ true → (has t (tasks g) ≡ true) × (declares g t s ≡ true)
unfolding users
user-task g s t h = both _ _ (rw has-filter at h)

-- a task of the group that declares a semaphore is a user
pub task-user : (g : Group) (s t : ℕ) → has t (tasks g) ≡ true → declares g t s ≡ true → has t (users g s) ≡ true
unfolding users
task-user g s t h k = rw (has-filter (λ u. declares g u s) t (tasks g), h, k)

-- the cluster of a semaphore's users has a processor
pub has_room : (g : Group) → MeetsRules g → (s : ℕ) → 1 ≤ cpus g (cluster_of g s)
unfolding cluster_of
has_room g rules s = by_case (first (users g s)) refl
  where
    by_case : (o : Option ℕ) → first (users g s) ≡ o → 1 ≤ cpus g (unwrap_or (option_map (home g) o) 0)
    by_case None e = rules.has_cpu 0 rules.has_cluster
    by_case (Some u) e = rules.has_cpu (home g u) (rules.has_home u (user-task g s u (has-first u (users g s) (some-is u (first (users g s)) e))).0)

-- each task stands once among the tasks
distinct-tasks : (g : Group) → IsDistinct (tasks g)
unfolding tasks
distinct-tasks g = distinct-filter _ _ (distinct-numbers_from 1 (length g.setup.tasks))

-- each user stands once among the users
pub distinct-users : (g : Group) (s : ℕ) → IsDistinct (users g s)
unfolding users
distinct-users g s = distinct-filter _ (tasks g) (distinct-tasks g)

-- a task of a cluster is one of the group, at home there
pub tasks_of-home : (g : Group) (c t : ℕ) → has t (tasks_of g c) ≡ true → (has t (tasks g) ≡ true) × (home g t ≡ c)
unfolding tasks_of
tasks_of-home g c t h = let q = both _ _ (rw has-filter at h) in (q.0, eqb-true (home g t) c q.1)

-- a task of the group is one of its home
pub home-tasks_of : (g : Group) (t : ℕ) → has t (tasks g) ≡ true → has t (tasks_of g (home g t)) ≡ true
unfolding tasks_of
home-tasks_of g t h = rw (has-filter (λ u. home g u == home g t) t (tasks g), h, equal_self (home g t))

-- the users of such a semaphore are of its cluster
pub user-home : (g : Group) → MeetsRules g → (s t : ℕ) → is_of_one_cluster (protocol g s) g.setup.plugin ≡ true → has t (users g s) ≡ true → home g t ≡ cluster_of g s
unfolding cluster_of
user-home g rules s t one h = by_case (first (users g s)) refl
  where
    not_empty : (xs : List ℕ) → first xs ≡ None → has t xs ≡ true → ⊥
    not_empty [] e k = cc
    not_empty (x ∷ xs) e k = cc

    by_case : (o : Option ℕ) → first (users g s) ≡ o → home g t ≡ unwrap_or (option_map (home g) o) 0
    by_case None e = absurd (not_empty (users g s) e h)
    by_case (Some u) e = rules.shares s t u one h (has-first u (users g s) (some-is u (first (users g s)) e))

-- the users of a PCP semaphore are to be of one cluster
pub pcp-shares : (p : PluginKind) (x : Protocol) → is_pcp x ≡ true → is_of_one_cluster x p ≡ true
pcp-shares p Pcp h = refl
pcp-shares p Fmlp h = cc
pcp-shares p Omlp h = cc
pcp-shares p Mpcp h = cc
pcp-shares p Srp h = cc
