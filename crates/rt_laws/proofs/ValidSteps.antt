-- The steps of a valid set name what is there, and their numbers are within the limits.
use Rattle.std.proofs.Common.{List, [], ap, arith, eqb-true, inl, inr, length, ltb-true, map, refl, subst, suc, sym, true, zero, ℕ, ◌&&◌, ◌-◌, ◌<◌, ◌∙◌, ◌∷◌, ◌≡◌, ◌⊎◌, get_or}
use Rattle.std.proofs.lemmas.List.{get_or-map, length-map}
use Rattle.std.proofs.lemmas.List.Concat.{flat_map-cons}
use Rattle.std.specs.Prelude.{flat_map, nat_lt, option_map, slice_get, slice_index_or, unwrap_or, ◌==◌}
use Rattle.rt_base.specs.declared.TheConstants.{TICK_END}
use Rattle.rt_task.specs.declared.Act.{Act}
use Rattle.rt_task.specs.declared.Act.TheVariants as acts
use Rattle.rt_task.specs.declared.Cluster.{Cluster}
use Rattle.rt_task.specs.declared.Op.{Op}
use Rattle.rt_task.specs.declared.Op.TheVariants as ops
use Rattle.rt_task.specs.declared.Step.{Step}
use Rattle.rt_task.specs.declared.Task.{Task}
use Rattle.rt_task.specs.declared.draft.DraftCluster.{DraftCluster}
use Rattle.rt_task.specs.declared.draft.DraftTask.{DraftTask}
use Rattle.rt_task.specs.Draft.{draft_cluster, draft_drive, draft_of, draft_step, draft_task, runs, steps_of}
use Rattle.rt_task.specs.Lookups.{cluster_among, cluster_of_task, group_of}
use Rattle.rt_task.specs.Lookups as lookups
use Rattle.rt_task.specs.NameRules.{act_is_known, step_name}
use Rattle.rt_task.specs.RangeRules.{step_range}
use Rattle.rt_task.specs.RuleWords.{act_in_range, is_known}
use Rattle.rt_task.specs.SharingRules.{act_is_in_group, step_sharing}
use Rattle.rt_rules.specs.Numbers.{has, numbers_from}
use Rattle.rt_rules.proofs.BoolLaws.{both, either, or_true}
use Rattle.rt_rules.proofs.MemberLaws.{equal_self, has-append, has-filter}
use Rattle.rt_rules.proofs.NumberLaws.{numbers_from-has}
use Rattle.rt_model.specs.Group.{Group, cluster, cluster_in, cluster_with, clusters, group_processors, home, in_group, no_cluster, no_task, processors, sems, task, tasks}
use Rattle.rt_model.specs.Steps.{IsActOf, IsOpOf, IsStepOf}
use Rattle.rt_model.proofs.PastLaws.{processor-home}
use Rattle.rt_laws.specs.ValidSteps.{StepsAreOfGroups}
use Rattle.rt_laws.proofs.ValidSets.{KeepsRule, KeepsSteps, step_rows, within-bounds}

-- ---- what the rules and the definitions look up is the same

pub cluster_among-in : (ks : List Cluster) (q : ℕ) → cluster_among (map draft_cluster ks) q ≡ cluster_in ks q
cluster_among-in [] q = refl
cluster_among-in (k ∷ ks) q = rw (cluster_among-in ks (q - k.cpus)) refl

pub looked_up : {A B : Type 0} (f : A → ℕ) (h : B → A) (xs : List B) (i : ℕ) (d : B) → f (h d) ≡ 0 → unwrap_or (option_map f (slice_get (map h xs) i)) 0 ≡ f (h (slice_index_or xs i d))
looked_up f h [] i d none = sym none
looked_up f h (x ∷ xs) zero d none = refl
looked_up f h (x ∷ xs) (suc i) d none = looked_up f h xs i d none

group-looked_up : (g : Group) (c : ℕ) → group_of (draft_of g.setup) c ≡ (cluster g c).group.0
unfolding group_of cluster
group-looked_up g c = looked_up (λ (k : DraftCluster). k.group) draft_cluster g.setup.clusters c no_cluster refl

home-looked_up : (g : Group) (t : ℕ) → cluster_of_task (draft_of g.setup) t ≡ home g t
unfolding cluster_of_task home task
home-looked_up g t = looked_up (λ (p : DraftTask). p.cluster) (λ (p : Task). draft_task p (runs p.body)) g.setup.tasks (t - 1) no_task refl

-- ---- the group of a processor

pub in_some : (f : ℕ → List ℕ) (cs : List ℕ) (q : ℕ) → has q (flat_map f cs) ≡ true → (c : ℕ) × (has c cs ≡ true) × (has q (f c) ≡ true)
in_some f [] q h = cc
in_some f (c ∷ cs) q h = split (either (has q (f c)) (has q (flat_map f cs)) (sym (has-append q (f c) (flat_map f cs)) ∙ ap (has q) (sym (flat_map-cons f c cs)) ∙ h)) (in_some f cs q)
  where
    split : (has q (f c) ≡ true) ⊎ (has q (flat_map f cs) ≡ true) → (has q (flat_map f cs) ≡ true → (b : ℕ) × (has b cs ≡ true) × (has q (f b) ≡ true))
        → (b : ℕ) × (has b (c ∷ cs) ≡ true) × (has q (f b) ≡ true)
    split (inl k) more = (c, rw (equal_self c) refl, k)
    split (inr k) more = let b = more k in (b.0, rw b.1 (or_true (b.0 == c)), b.2)

pub group-of-processor : (g : Group) (q : ℕ) → has q (group_processors g) ≡ true → in_group g (cluster_with g q) ≡ true
unfolding group_processors clusters
group-of-processor g q h =
    let one = in_some (processors g) (clusters g) q h in
    let there : in_group g one.0 ≡ true = (both (has one.0 (numbers_from 0 (length g.setup.clusters))) (in_group g one.0) (rw has-filter at one.1)).1 in
    rw (processor-home g one.0 q one.2) there

-- ---- acts

known-sem : (g : Group) (s : ℕ) → is_known g.setup.sems s ≡ true → has s (sems g) ≡ true
unfolding sems
known-sem g s h = let bounds = within-bounds 1 (length g.setup.sems) s h in numbers_from-has 1 (length g.setup.sems) s bounds.0 (omega (arith, bounds.1))

op-of : (g : Group) (q : ℕ) (op : Op) → act_in_range (acts.Do op) ≡ true → act_is_known (draft_of g.setup) (acts.Do op) ≡ true → IsOpOf g op
op-of g q ops.Work range known = tt
op-of g q (ops.Lock s) range known = known-sem g s.0 known
op-of g q (ops.Unlock s) range known = known-sem g s.0 known
op-of g q (ops.Sleep n) range known = let bounds = within-bounds 1 (TICK_END - 1) n range in omega (arith, bounds.1)
op-of g q ops.NpOn range known = tt
op-of g q ops.NpOff range known = tt
op-of g q ops.End range known = tt

act-of : (g : Group) (q : ℕ) (act : Act) → act_in_range act ≡ true → act_is_known (draft_of g.setup) act ≡ true → act_is_in_group (draft_of g.setup) q act ≡ true
    → in_group g (cluster_with g q) ≡ true → IsActOf g act
unfolding tasks in_group cluster_with lookups.cluster_with
act-of g q acts.Tick range known shares here = tt
act-of g q acts.Irq range known shares here = tt
act-of g q (acts.Do op) range known shares here = op-of g q op range known
act-of g q (acts.Arrive t) range known shares here =
    let bounds = within-bounds 1 (length (draft_of g.setup).tasks) t.0 known in
    let count = length-map g.setup.tasks (λ (p : Task). draft_task p (runs p.body)) in
    let there : has t.0 (numbers_from 1 (length g.setup.tasks)) ≡ true = numbers_from-has 1 (length g.setup.tasks) t.0 bounds.0 (omega (arith, bounds.1, count)) in
    let same : (cluster g (home g t.0)).group.0 ≡ (cluster g (cluster_with g q)).group.0 =
    ap (λ c. (cluster g c).group.0) (sym (home-looked_up g t.0)) ∙ sym (group-looked_up g (cluster_of_task (draft_of g.setup) t.0)) ∙ eqb-true _ _ shares ∙ group-looked_up g (lookups.cluster_with (draft_of g.setup) q) ∙ ap (λ c. (cluster g c).group.0) (cluster_among-in g.setup.clusters q) in
    rw (has-filter, there, same) here

pub steps_are_of_groups : StepsAreOfGroups
unfolding step_range step_name step_sharing
steps_are_of_groups g valid steps drive = λ i d low at. of_group i d low at
  where
    rows : KeepsSteps g.setup
    rows = step_rows g.setup valid

    listed : steps_of (draft_drive g.setup.drive) ≡ map draft_step steps
    listed = ap (λ x. steps_of (draft_drive x)) drive

    inside : (i : ℕ) → i < length steps → i < length (steps_of (draft_drive g.setup.drive))
    inside i low = let count = ap length listed ∙ length-map steps draft_step in omega (arith, low, count)

    seen : (i : ℕ) (d : Step) → i < length steps → slice_index_or (steps_of (draft_drive g.setup.drive)) i (draft_step d) ≡ draft_step (get_or steps i d)
    seen i d low = ap (λ xs. slice_index_or xs i (draft_step d)) listed ∙ get_or-map draft_step steps i d (draft_step d) low

    of_group : (i : ℕ) (d : Step) → i < length steps → has (get_or steps i d).cpu.0 (group_processors g) ≡ true → IsStepOf g (get_or steps i d)
    of_group i d low at =
        let s : Step = get_or steps i d in
        let range = subst (λ x. KeepsRule (step_range (draft_of g.setup)) i x) (seen i d low) (rows.range i (draft_step d) (inside i low)) in
        let name = subst (λ x. KeepsRule (step_name (draft_of g.setup)) i x) (seen i d low) (rows.name i (draft_step d) (inside i low)) in
        let sharing = subst (λ x. KeepsRule (step_sharing (draft_of g.setup)) i x) (seen i d low) (rows.sharing i (draft_step d) (inside i low)) in
        let limits = both (nat_lt s.tick.0 TICK_END) (act_in_range s.act) (both (nat_lt s.cpu.0 (lookups.cpus (draft_of g.setup))) (nat_lt s.tick.0 TICK_END && act_in_range s.act) range.keeps).1 in
        record {
          processor = at;
          tick = ltb-true s.tick.0 TICK_END limits.0;
          act = act-of g s.cpu.0 s.act limits.1 name.keeps sharing.keeps (group-of-processor g s.cpu.0 at);
        }
