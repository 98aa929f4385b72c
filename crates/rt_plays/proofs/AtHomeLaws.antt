-- Where a group's processors and tasks are.
use Rattle.std.proofs.Common.{arith, length, true, ℕ, ◌<◌, ◌≡◌}
use Rattle.rt_rules.specs.Numbers.{has, numbers_from}
use Rattle.rt_rules.proofs.BoolLaws.{both}
use Rattle.rt_rules.proofs.MemberLaws.{equal_self, has-filter}
use Rattle.rt_rules.proofs.NumberLaws.{has-numbers_from, numbers_from-below, numbers_from-has}
use Rattle.rt_model.specs.Group.{Group, clusters, cpus, first_cpu, group_processors, home, in_group, processors, tasks, tasks_of}
use Rattle.rt_model.proofs.PastLaws.{processor-home}
use Rattle.rt_laws.proofs.Rules.{MeetsRules}
use Rattle.rt_laws.proofs.ValidSets.{rules_of}
use Rattle.rt_laws.proofs.ValidSteps.{in_some}
use Rattle.rt_plays.specs.AtHome.{IsAtHome, ProcessorsAreAtHome, TasksAreAtHome}

cluster-inside : (g : Group) (c : ℕ) → has c (clusters g) ≡ true → c < length g.setup.clusters
unfolding clusters
cluster-inside g c h = omega (arith, numbers_from-below c 0 (length g.setup.clusters) (both _ _ (rw has-filter at h)).0)

at_home : (g : Group) (q c : ℕ) → has c (clusters g) ≡ true → has q (processors g c) ≡ true → IsAtHome g q c
unfolding processors
at_home g q c there h = record {
  cluster_there = there;
  inside = cluster-inside g c there;
  low = has-numbers_from q (first_cpu g c) (cpus g c) h;
  high = numbers_from-below q (first_cpu g c) (cpus g c) h;
}

pub processors_are_at_home : ProcessorsAreAtHome
unfolding group_processors
processors_are_at_home g q h =
    let one = in_some (processors g) (clusters g) q h in
    rw (processor-home g one.0 q one.2) (at_home g q one.0 one.1 one.2)

-- ---- tasks

cluster-there : (g : Group) (c : ℕ) → c < length g.setup.clusters → in_group g c ≡ true → has c (clusters g) ≡ true
unfolding clusters
cluster-there g c low h = let listed : has c (numbers_from 0 (length g.setup.clusters)) ≡ true = numbers_from-has 0 (length g.setup.clusters) c (omega arith) (omega arith) in rw (has-filter, listed, h)

-- a task of the group is one of its cluster's
among_own : (g : Group) (t : ℕ) → has t (tasks g) ≡ true → has t (tasks_of g (home g t)) ≡ true
unfolding tasks_of
among_own g t h = rw (has-filter, h, equal_self (home g t))

pub tasks_are_at_home : TasksAreAtHome
unfolding tasks
tasks_are_at_home g t valid h =
    let rules : MeetsRules g = rules_of g valid in
    let listed = both (has t (numbers_from 1 (length g.setup.tasks))) (in_group g (home g t)) (rw has-filter at h) in
    record {
      low = has-numbers_from t 1 (length g.setup.tasks) listed.0;
      high = omega (arith, numbers_from-below t 1 (length g.setup.tasks) listed.0);
      cluster_there = cluster-there g (home g t) (rules.has_home t h) listed.1;
      member = among_own g t h;
    }
