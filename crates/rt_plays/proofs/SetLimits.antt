-- The numbers of a valid setup are within the limits.
use Rattle.std.proofs.Common.{List, [], arith, eqb-true, leb-true, length, ltb-true, map, refl, true, ℕ, ◌+◌, ◌<◌, ◌≡◌, ◌≤◌, ◌∷◌}
use Rattle.std.proofs.lemmas.List.{length-map}
use Rattle.std.proofs.lemmas.List.Sums.{sum_by-cons}
use Rattle.std.specs.Prelude.{nat_le, nat_lt, slice_index_or, sum_by}
use Rattle.rt_base.specs.declared.TheConstants.{MOST_CLUSTERS, MOST_CPUS, MOST_RESVS, MOST_SEMS, MOST_TASKS, TICK_END}
use Rattle.rt_task.specs.Draft.{draft_cluster, draft_drive, draft_of, draft_resv}
use Rattle.rt_task.specs.Lookups as lookups
use Rattle.rt_task.specs.NameRules.{task_name}
use Rattle.rt_task.specs.RangeRules.{task_range}
use Rattle.rt_task.specs.RuleWords.{is_prio, is_span}
use Rattle.rt_task.specs.SizeRules.{horizon_fits, whole_size}
use Rattle.rt_task.specs.Validity.{IsValid}
use Rattle.rt_task.specs.declared.Cluster.{Cluster}
use Rattle.rt_task.specs.declared.Parts.{Parts}
use Rattle.rt_task.specs.declared.Task.{Task}
use Rattle.rt_task.specs.declared.draft.Draft.{Draft}
use Rattle.rt_task.specs.declared.draft.DraftCluster.{DraftCluster}
use Rattle.rt_model.specs.Group.{Group, cluster, cpus, no_cluster, no_task}
use Rattle.rt_plays.specs.Room.{processor_count}
use Rattle.rt_rules.proofs.BoolLaws.{both}
use Rattle.rt_laws.proofs.Rules.{MeetsRules}
use Rattle.rt_laws.proofs.ValidSets.{drafted, keeps_rows, rules_of, task-keeps, within-bounds}
use Rattle.rt_plays.specs.Limits.{IsTaskInLimits, SetsAreInLimits}
use Rattle.rt_plays.proofs.ValidRows.{passes_rows}

pub cpus-drafted : (ks : List Cluster) → sum_by (λ (c : DraftCluster). c.cpus) (map draft_cluster ks) ≡ sum_by (λ (k : Cluster). k.cpus) ks
cpus-drafted [] = refl
cpus-drafted (k ∷ ks) = omega (arith, cpus-drafted ks, sum_by-cons (λ (c : DraftCluster). c.cpus) (draft_cluster k) (map draft_cluster ks), sum_by-cons (λ (c : Cluster). c.cpus) k ks)

-- as many of each as the limits allow
record IsFew (p : Parts) : Type 0 where
  clusters : length p.clusters ≤ MOST_CLUSTERS
  cpus : processor_count p ≤ MOST_CPUS
  tasks : length p.tasks ≤ MOST_TASKS
  resvs : length p.resvs ≤ MOST_RESVS
  drive : horizon_fits (draft_of p) (draft_drive p.drive) ≡ true

is_few : (p : Parts) → IsValid p → IsFew p
unfolding whole_size lookups.cpus
is_few p valid =
    let d : Draft = draft_of p in
    let by_clusters = both (nat_le (length d.clusters) MOST_CLUSTERS) _ (passes_rows p valid).size in
    let by_cpus = both (nat_le (lookups.cpus d) MOST_CPUS) _ by_clusters.1 in
    let by_tasks = both (nat_le (length d.tasks) MOST_TASKS) _ by_cpus.1 in
    let by_resvs = both (nat_le (length d.resvs) MOST_RESVS) _ (both (nat_le (length d.sems) MOST_SEMS) _ by_tasks.1).1 in
    record {
      clusters = rw (length-map p.clusters draft_cluster) at (leb-true (length d.clusters) MOST_CLUSTERS by_clusters.0);
      cpus = rw (cpus-drafted p.clusters) at (leb-true (lookups.cpus d) MOST_CPUS by_cpus.0);
      tasks = rw (length-map p.tasks drafted) at (leb-true (length d.tasks) MOST_TASKS by_tasks.0);
      resvs = rw (length-map p.resvs draft_resv) at (leb-true (length d.resvs) MOST_RESVS by_resvs.0);
      drive = by_resvs.1;
    }

-- what drives a valid set is within the limit
pub drive-fits : (p : Parts) → IsValid p → horizon_fits (draft_of p) (draft_drive p.drive) ≡ true
drive-fits p valid = (is_few p valid).drive

has_cpus : (p : Parts) → IsValid p → (c : ℕ) → c < length p.clusters → 1 ≤ (slice_index_or p.clusters c no_cluster).cpus
unfolding cpus cluster
has_cpus p valid c low = let g : Group = record { setup = p; number = 0 } in let rules : MeetsRules g = rules_of g valid in rules.has_cpu c low

-- ---- tasks

numbered : (p : Parts) → IsValid p → (i : ℕ) → i < length p.tasks → (slice_index_or p.tasks i no_task).number.0 ≡ i + 1
unfolding task_name
numbered p valid i low =
    let kept = task-keeps p (task_name (draft_of p)) (keeps_rows p valid).name i low in
    let number : ℕ = (slice_index_or p.tasks i no_task).number.0 in
    let by_place : number ≡ length kept.earlier + 1 = eqb-true number (length kept.earlier + 1) (both _ _ kept.keeps).0 in
    omega (arith, by_place, kept.number)

-- what the row of ranges says of a task
record IsInRange (t : Task) (clusters : ℕ) : Type 0 where
  cost : t.cost < TICK_END
  period : t.period < TICK_END
  deadline : t.rel_deadline < TICK_END
  phase : t.phase < TICK_END
  cluster : t.cluster.0 < clusters

span-low : (n : ℕ) → is_span n ≡ true → n < TICK_END
span-low n h = omega (arith, within-bounds 1 _ n h)

in_range : (p : Parts) → IsValid p → (i : ℕ) → i < length p.tasks → IsInRange (slice_index_or p.tasks i no_task) (length p.clusters)
unfolding task_range
in_range p valid i low =
    let t : Task = slice_index_or p.tasks i no_task in
    let kept = task-keeps p (task_range (draft_of p)) (keeps_rows p valid).range i low in
    let by_cost = both (is_span t.cost) _ kept.keeps in
    let by_period = both (is_span t.period) _ by_cost.1 in
    let by_deadline = both (is_span t.rel_deadline) _ by_period.1 in
    let by_phase = both (nat_lt t.phase TICK_END) _ by_deadline.1 in
    let by_cluster = both (nat_lt t.cluster.0 (length (draft_of p).clusters)) _ (both (is_prio t.prio) _ by_phase.1).1 in
    record {
      cost = span-low t.cost by_cost.0;
      period = span-low t.period by_period.0;
      deadline = span-low t.rel_deadline by_deadline.0;
      phase = ltb-true t.phase TICK_END by_phase.0;
      cluster = rw (length-map p.clusters draft_cluster) at (ltb-true t.cluster.0 (length (draft_of p).clusters) by_cluster.0);
    }

task-in : (p : Parts) → IsValid p → (i : ℕ) → i < length p.tasks → IsTaskInLimits (i + 1) (length p.clusters) (slice_index_or p.tasks i no_task)
task-in p valid i low =
    let range = in_range p valid i low in
    record {
      number_is = numbered p valid i low;
      cluster_there = range.cluster;
      phase_low = range.phase;
      period_low = range.period;
      deadline_low = range.deadline;
      cost_low = range.cost;
    }

pub sets_are_in_limits : SetsAreInLimits
sets_are_in_limits p valid =
    let few = is_few p valid in
    record {
      few_clusters = few.clusters;
      few_cpus = few.cpus;
      few_tasks = few.tasks;
      few_resvs = few.resvs;
      has_cpus = has_cpus p valid;
      tasks_in = task-in p valid;
    }
