-- A valid set's tasks have a cluster, and the semaphores that they declare are there.
use Rattle.std.proofs.Common.{List, [], arith, length, map, refl, subst, suc, sym, true, zero, ℕ, ◌+◌, ◌-◌, ◌<◌, ◌∷◌, ◌≡◌, ◌≤◌, ◌∙◌, ap}
use Rattle.std.specs.Prelude.{All, slice_index_or, ◌==◌}
use Rattle.rt_base.specs.declared.SemNo.{SemNo}
use Rattle.rt_task.specs.declared.Parts.{Parts}
use Rattle.rt_task.specs.declared.Task.{Task}
use Rattle.rt_task.specs.Validity.{IsValid}
use Rattle.rt_rules.specs.Numbers.{has, numbers_from}
use Rattle.rt_rules.proofs.BoolLaws.{or_true}
use Rattle.rt_rules.proofs.MemberLaws.{equal_self, has-filter}
use Rattle.rt_rules.proofs.NumberLaws.{numbers_from-below, numbers_from-has}
use Rattle.rt_model.specs.Group.{Group, cluster, declares, home, in_group, no_cluster, no_task, sems, task, tasks}
use Rattle.rt_laws.proofs.Rules.{MeetsRules}
use Rattle.rt_laws.proofs.ValidSets.{rules_of}
use Rattle.rt_plays.proofs.SetLimits.{sets_are_in_limits}
use Rattle.mpcp_ceilings.specs.inside.Noting.{AreKnown, HaveRows}

have-rows : (ss : List SemNo) (n : ℕ) → ((s : ℕ) → has s (map (λ (m : SemNo). m.0) ss) ≡ true → s < n) → HaveRows ss n
have-rows [] n h k d low = absurd (omega (arith, low))
have-rows (s ∷ ss) n h zero d low = h s.0 (rw (equal_self s.0))
have-rows (s ∷ ss) n h (suc k) d low = have-rows ss n (λ u m. h u (rw m (or_true (u == s.0)))) k d (omega (arith, low))

-- the group of the task with this position
abbrev group_at : Parts → ℕ → Group
group_at p i = record { setup = p; number = (slice_index_or p.clusters (slice_index_or p.tasks i no_task).cluster.0 no_cluster).group.0 }

in_its_group : (p : Parts) (i : ℕ) → i < length p.tasks → has (i + 1) (tasks (group_at p i)) ≡ true
unfolding tasks in_group home task cluster
in_its_group p i low =
    let position : i + 1 - 1 ≡ i = omega arith in
    let there : has (i + 1) (numbers_from 1 (length p.tasks)) ≡ true = numbers_from-has 1 (length p.tasks) (i + 1) (omega arith) (omega arith) in
    has-filter (λ t. in_group (group_at p i) (home (group_at p i) t)) (i + 1) (numbers_from 1 (length p.tasks)) ∙ rw (there, position) (equal_self _)

known-uses : (p : Parts) → IsValid p → (i : ℕ) → i < length p.tasks → HaveRows (slice_index_or p.tasks i no_task).uses (length p.sems + 1)
unfolding declares task sems
known-uses p valid i low =
    let g : Group = group_at p i in
    let rules : MeetsRules g = rules_of g valid in
    let position : i + 1 - 1 ≡ i = omega arith in
    have-rows (slice_index_or p.tasks i no_task).uses (length p.sems + 1) (λ s h. let k = numbers_from-below s 1 (length p.sems) (rules.is_known (i + 1) s (in_its_group p i low) (rw position h)) in omega (arith, k))

pub are_known : (p : Parts) → IsValid p → AreKnown p
are_known p valid = let limits = sets_are_in_limits p valid in record { homes = λ i low. (limits.tasks_in i low).cluster_there; uses = known-uses p valid }
