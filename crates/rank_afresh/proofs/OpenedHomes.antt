-- The homes that are read from a set are those of its clusters before they are placed.
use Rattle.std.proofs.Common.{◌≡◌, ℕ, suc, ◌+◌, ◌-◌, ◌<◌, ◌≤◌, Bool, true, false, [], length, get_or, leb-true, ltb-true, refl, sym, ap, ◌∙◌, subst, arith}
use Rattle.std.specs.Prelude.{nat_le, nat_lt}
use Rattle.std.proofs.lemmas.Bool.Decides.{nat_tests}
use Rattle.std.proofs.lemmas.List.{get_or-map, get_or_past, length-map}
use Rattle.rt_task.specs.declared.Task.{Task}
use Rattle.rt_rules.specs.Numbers.{has}
use Rattle.rt_rules.proofs.BoolLaws.{both, clash}
use Rattle.rt_rules.proofs.NumberLaws.{numbers_from-has}
use Rattle.rt_model.specs.Group.{Group, cluster_with, cpus, first_cpu, home, no_task, processors, task}
use Rattle.rt_model.proofs.PastLaws.{processor-home}
use Rattle.rt_laws.proofs.GroupLaws.{tasks_of-home}
use Rattle.rt_plays.specs.Room.{processor_count}
use Rattle.group_jobs.proofs.KeptMoves.{task-range}
use Rattle.rank_afresh.specs.Clusters.{ClusterFacts, has_cpu, no_facts}
use Rattle.rank_afresh.specs.Facts.{cluster_at, unlinked_clusters}
use Rattle.rank_afresh.specs.Homes.{homes_from, task_homes}
use Rattle.rank_afresh.specs.Standing.{IsClusterOf}
use Rattle.rank_afresh.specs.Visits.{AreHomes, IsHome}
use Rattle.rank_afresh.proofs.Fitting.{at-unlinked, length-unlinked}
use Rattle.rank_afresh.proofs.Homes.{home-at, length-homes}
use Rattle.rank_afresh.proofs.SetLists.{cluster-within}

module _ (g : Group) (n : ℕ) (inside : n < length g.setup.clusters) where
  abbrev c : ClusterFacts
  c = cluster_at (unlinked_clusters g) n

  is : IsClusterOf g n c
  is = at-unlinked g n inside

  task-home : (t : ℕ) → has t c.tasks ≡ true → IsHome (task_homes g.setup.tasks) t n
  unfolding home task
  task-home t h =
      let at = tasks_of-home g n t (subst (λ ts. has t ts ≡ true) is.tasks_are h) in
      let range = task-range g t at.0 in
      let next : t ≡ suc (t - 1) = omega (arith, range.0) in
      let room : length (task_homes g.setup.tasks) ≡ suc (length g.setup.tasks) = ap suc (length-map g.setup.tasks (λ (u : Task). u.cluster.0)) in
      record {
        inside = omega (arith, range.1, room);
        here =
            ap (λ m. get_or (task_homes g.setup.tasks) m 0) next
            ∙ get_or-map (λ (u : Task). u.cluster.0) g.setup.tasks (t - 1) no_task 0 (omega (arith, range.0, range.1)) ∙ at.1;
      }

  cpu-home : (q : ℕ) → has_cpu c q ≡ true → IsHome (homes_from 0 g.setup.clusters) q n
  unfolding cluster_with processors
  cpu-home q h =
      let p = both (nat_le c.first q) (nat_lt (q - c.first) (length c.links)) h in
      let low : first_cpu g n ≤ q = let l : c.first ≤ q = leb-true c.first q p.0 in omega (arith, l, is.first_is) in
      let high : q < first_cpu g n + cpus g n = let l : q - c.first < length c.links = ltb-true (q - c.first) (length c.links) p.1 in omega (arith, l, low, is.first_is, is.links_length) in
      let within = cluster-within g n inside in
      let few : q < processor_count g.setup = omega (arith, high, within) in
      let at = processor-home g n q (numbers_from-has (first_cpu g n) (cpus g n) q low high) in
      record {
        inside = omega (arith, few, length-homes 0 g.setup.clusters);
        here = home-at 0 g.setup.clusters q 0 few ∙ omega (arith, at);
      }

pub homes-opened : (g : Group) → AreHomes (unlinked_clusters g) (record { count = length g.setup.clusters; task_homes = task_homes g.setup.tasks; cpu_homes = homes_from 0 g.setup.clusters; positions = [] })
homes-opened g = record {
  count_is = sym (length-unlinked g);
  tasks_at = λ n t h. by_tasks n t (nat_lt n (length g.setup.clusters)) refl h;
  cpus_at = λ n q h. by_cpus n q (nat_lt n (length g.setup.clusters)) refl h;
}
  where
    past : (n : ℕ) → nat_lt n (length g.setup.clusters) ≡ false → cluster_at (unlinked_clusters g) n ≡ no_facts
    past n e =
        let beyond : length g.setup.clusters ≤ n = grind (arith, nat_tests, e) in
        get_or_past (unlinked_clusters g) n no_facts (omega (arith, beyond, length-unlinked g))

    none : (q : ℕ) → has_cpu no_facts q ≡ true → ⊥
    none q h = let low : q - 0 < 0 = ltb-true (q - 0) 0 (both (nat_le 0 q) (nat_lt (q - 0) 0) h).1 in omega (arith, low)

    by_tasks : (n t : ℕ) (b : Bool) → nat_lt n (length g.setup.clusters) ≡ b → has t (cluster_at (unlinked_clusters g) n).tasks ≡ true → IsHome (task_homes g.setup.tasks) t n
    by_tasks n t true e h = task-home g n (ltb-true n (length g.setup.clusters) e) t h
    by_tasks n t false e h = absurd (clash _ (subst (λ (x : ClusterFacts). has t x.tasks ≡ true) (past n e) h) refl)

    by_cpus : (n q : ℕ) (b : Bool) → nat_lt n (length g.setup.clusters) ≡ b → has_cpu (cluster_at (unlinked_clusters g) n) q ≡ true → IsHome (homes_from 0 g.setup.clusters) q n
    by_cpus n q true e h = cpu-home g n (ltb-true n (length g.setup.clusters) e) q h
    by_cpus n q false e h = absurd (none q (subst (λ (x : ClusterFacts). has_cpu x q ≡ true) (past n e) h))
