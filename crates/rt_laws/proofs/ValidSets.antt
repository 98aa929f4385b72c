-- A valid set meets the rules that the laws use.
use Rattle.std.proofs.Common.{Bool, List, [], ap, arith, cond, eqb-true, false, inl, inr, leb-true, length, length-append, ltb-false, ltb-true, map, not, refl, subst, suc, sym, true, zero, ℕ, ◌&&◌, ◌++◌, ◌+◌, ◌-◌, ◌<◌, ◌||◌, ◌∙◌, ◌∷◌, ◌≡◌, ◌≤◌, ◌⊎◌}
use Rattle.std.proofs.lemmas.List.{get_or-map, length-map}
use Rattle.std.specs.List.{list_all, list_any}
use Rattle.std.specs.Prelude.{None, Option, Some, bytes_eq, filter, if◌then◌else◌, nat_le, nat_lt, option_map, slice_get, slice_index_or, unwrap_or, ⊤, ◌==◌}
use Rattle.std.proofs.lemmas.List.Folds.{list_any_at}
use Rattle.rt_base.specs.declared.SemNo.{SemNo}
use Rattle.rt_base.specs.declared.TheConstants.{MOST_CPUS, TICK_END}
use Rattle.rt_task.specs.Draft.{draft_cluster, draft_drive, draft_of, draft_resv, draft_task, runs, steps_of}
use Rattle.rt_task.specs.Lookups.{group_of, is_fmlp_sem}
use Rattle.rt_task.specs.NameRules.{piece_is_known, resv_is_known, step_name, task_name}
use Rattle.rt_task.specs.RangeRules.{cluster_range, resv_range, step_range, task_range, whole_range}
use Rattle.rt_task.specs.Refusals.{bad, each, first, first_failing, whole}
use Rattle.rt_task.specs.RuleWords as words
use Rattle.rt_task.specs.RuleWords.{all_same, first_of, is_fmlp, is_partitioned, allows_clusters, is_known, is_name, is_of_one_cluster, is_periodic, is_prio, is_span, no_repeat, piece_in_range, sem_numbers, stands_under, within}
use Rattle.rt_task.specs.SharingRules.{clusters_sharing, has_fmlp_users, stands_apart, resv_sharing, sem_sharing, step_sharing, task_sharing}
use Rattle.rt_task.specs.Validity.{IsValid, name_rows, range_rows, refusal, refusal_of, whole_refusal, sharing_rows, size_rows, shape_rows}
use Rattle.rt_task.specs.declared.Kind.TheVariants.{Periodic, Sporadic}
use Rattle.rt_task.specs.declared.Kind.{Kind}
use Rattle.rt_task.specs.declared.Parts.{Parts}
use Rattle.rt_task.specs.declared.PluginKind.TheVariants as plugins
use Rattle.rt_task.specs.declared.PluginKind.{PluginKind}
use Rattle.rt_task.specs.declared.Protocol.TheVariants.{Srp}
use Rattle.rt_task.specs.declared.ResvKind.TheVariants as resv_kinds
use Rattle.rt_task.specs.declared.Sem.{Sem}
use Rattle.rt_task.specs.declared.Task.{Task}
use Rattle.rt_task.specs.declared.bad_set.BadSet.{BadSet}
use Rattle.rt_task.specs.declared.bad_set.Part.TheVariants as parts
use Rattle.rt_task.specs.declared.bad_set.Part.{Part}
use Rattle.rt_task.specs.declared.bad_set.SetKind.TheVariants as kinds
use Rattle.rt_task.specs.declared.bad_set.SetKind.{SetKind}
use Rattle.rt_task.specs.declared.draft.Draft.{Draft}
use Rattle.rt_task.specs.declared.draft.DraftCluster.{DraftCluster}
use Rattle.rt_task.specs.declared.draft.DraftResv.{DraftResv}
use Rattle.rt_task.specs.declared.draft.DraftStep.{DraftStep}
use Rattle.rt_task.specs.declared.draft.DraftTask.{DraftTask}
use Rattle.rt_rules.specs.Numbers.{has, numbers_from}
use Rattle.rt_model.specs.Group.{Group, cluster, cpus, declares, home, no_cluster, no_resv, no_sem, no_task, protocol, resv, sem, sems, task, tasks, users}
use Rattle.rt_rules.proofs.BoolLaws.{both, clash, either, not_true, or_else, or_true, unless}
use Rattle.rt_rules.proofs.MemberLaws.{equal_self, has-filter, list_all-has, turned}
use Rattle.rt_rules.proofs.NumberLaws.{has-numbers_from, numbers_from-has, numbers_from-below}
use Rattle.rt_laws.proofs.GroupLaws.{user-task}
use Rattle.rt_laws.proofs.Rules.{MeetsRules}

-- ---- tests on a list in order

abbrev pub AllNone : List (Option BadSet) → Type 0
AllNone [] = ⊤
AllNone (o ∷ os) = (o ≡ None) × AllNone os

pub all-none : (os : List (Option BadSet)) → first os ≡ None → AllNone os
all-none [] h = tt
all-none (None ∷ os) h = (refl, all-none os h)
all-none (Some x ∷ os) h = cc

pub whole-none : (kind : SetKind) (b : Bool) → whole kind b ≡ None → b ≡ true
whole-none kind true h = refl
whole-none kind false h = cc

-- each element keeps the rule beside those before it
pub record KeepsRule {A : Type 0} (rule : List A → A → Bool) (n : ℕ) (x : A) : Type 0 where
  pub earlier : List A
  pub number : length earlier ≡ n
  pub keeps : rule earlier x ≡ true

first_failing-none : {A : Type 0} (rule : List A → A → Bool) (earlier xs : List A) (i : ℕ) (d : A) → first_failing rule earlier xs ≡ None → i < length xs → KeepsRule rule (length earlier + i) (slice_index_or xs i d)
first_failing-none rule earlier [] i d h low = absurd (omega arith)
first_failing-none rule earlier (x ∷ xs) zero d h low = by_case (rule earlier x) refl h
  where
    by_case : (b : Bool) → rule earlier x ≡ b → (if b then first_failing rule (earlier ++ x ∷ []) xs else Some (length earlier)) ≡ None → KeepsRule rule (length earlier + 0) x
    by_case true e k = record { earlier = earlier; number = omega arith; keeps = e }
    by_case false e k = cc
first_failing-none rule earlier (x ∷ xs) (suc i) d h low = by_case (rule earlier x) h (λ k. first_failing-none rule (earlier ++ x ∷ []) xs i d k (omega arith))
  where
    one_more : KeepsRule rule (length (earlier ++ x ∷ []) + i) (slice_index_or xs i d) → KeepsRule rule (length earlier + suc i) (slice_index_or xs i d)
    one_more r = record { earlier = r.earlier; number = omega (arith, r.number, length-append earlier (x ∷ [])); keeps = r.keeps }

    by_case : (b : Bool) → (if b then first_failing rule (earlier ++ x ∷ []) xs else Some (length earlier)) ≡ None → (first_failing rule (earlier ++ x ∷ []) xs ≡ None → KeepsRule rule (length (earlier ++ x ∷ []) + i) (slice_index_or xs i d)) → KeepsRule rule (length earlier + suc i) (slice_index_or xs i d)
    by_case true k r = one_more (r k)
    by_case false k r = cc

each-keeps : {A : Type 0} (kind : SetKind) (part : Part) (rule : List A → A → Bool) (xs : List A) (i : ℕ) (d : A) → each kind part rule xs ≡ None → i < length xs → KeepsRule rule i (slice_index_or xs i d)
each-keeps kind part rule xs i d h low = let e : 0 + i ≡ i = omega arith in subst (λ n. KeepsRule rule n (slice_index_or xs i d)) e (first_failing-none rule [] xs i d (none (first_failing rule [] xs) h) low)
  where
    none : (o : Option ℕ) → option_map (bad kind part) o ≡ None → o ≡ None
    none None k = refl
    none (Some n) k = cc

each-none : (kind : SetKind) (part : Part) (o : Option ℕ) → option_map (bad kind part) o ≡ None → o ≡ None
each-none kind part None h = refl
each-none kind part (Some n) h = cc

-- ---- the rows of the table

pub record KeepsRows (p : Parts) : Type 0 where
  pub whole : whole_range (draft_of p) ≡ true
  pub cluster : (i : ℕ) (d : DraftCluster) → i < length (draft_of p).clusters → KeepsRule (cluster_range (draft_of p)) i (slice_index_or (draft_of p).clusters i d)
  pub range : (i : ℕ) (d : DraftTask) → i < length (draft_of p).tasks → KeepsRule (task_range (draft_of p)) i (slice_index_or (draft_of p).tasks i d)
  pub name : (i : ℕ) (d : DraftTask) → i < length (draft_of p).tasks → KeepsRule (task_name (draft_of p)) i (slice_index_or (draft_of p).tasks i d)
  pub resv : (i : ℕ) (d : DraftResv) → i < length (draft_of p).resvs → KeepsRule (resv_range (draft_of p)) i (slice_index_or (draft_of p).resvs i d)
  pub resvs : first_failing (resv_sharing (draft_of p)) [] (draft_of p).resvs ≡ None
  pub sem : (i : ℕ) (d : Sem) → i < length p.sems → KeepsRule (sem_sharing (draft_of p)) i (slice_index_or p.sems i d)
  pub task : (i : ℕ) (d : DraftTask) → i < length (draft_of p).tasks → KeepsRule (task_sharing (draft_of p)) i (slice_index_or (draft_of p).tasks i d)

pub keeps_rows : (p : Parts) → IsValid p → KeepsRows p
unfolding refusal_of whole_refusal refusal
keeps_rows p valid =
    let d : Draft = draft_of p in
    let all = all-none (first (shape_rows d) ∷ refusal d ∷ []) valid in
    let table = all-none (first (range_rows d) ∷ first (name_rows d) ∷ first (sharing_rows d) ∷ first (size_rows d) ∷ []) all.1.0 in
    let range = all-none (range_rows d) table.0 in
    let name = all-none (name_rows d) table.1.0 in
    let sharing = all-none (sharing_rows d) table.1.1.0 in
    record {
      whole = whole-none kinds.Range (whole_range d) range.0;
      cluster = λ i x low. each-keeps kinds.Range parts.Cluster (cluster_range d) d.clusters i x range.1.0 low;
      resv = λ i x low. each-keeps kinds.Range parts.Resv (resv_range d) d.resvs i x range.1.1.0 low;
      range = λ i x low. each-keeps kinds.Range parts.Task (task_range d) d.tasks i x range.1.1.1.0 low;
      resvs = each-none kinds.Sharing parts.Resv (first_failing (resv_sharing d) [] d.resvs) sharing.1.0;
      name = λ i x low. each-keeps kinds.Name parts.Task (task_name d) d.tasks i x name.1.1.0 low;
      sem = λ i x low. each-keeps kinds.Sharing parts.Sem (sem_sharing d) d.sems i x sharing.0 low;
      task = λ i x low. each-keeps kinds.Sharing parts.Task (task_sharing d) d.tasks i x sharing.1.1.0 low;
    }

-- each step keeps the rules of its row
pub record KeepsSteps (p : Parts) : Type 0 where
  pub range : (i : ℕ) (d : DraftStep) → i < length (steps_of (draft_drive p.drive)) → KeepsRule (step_range (draft_of p)) i (slice_index_or (steps_of (draft_drive p.drive)) i d)
  pub name : (i : ℕ) (d : DraftStep) → i < length (steps_of (draft_drive p.drive)) → KeepsRule (step_name (draft_of p)) i (slice_index_or (steps_of (draft_drive p.drive)) i d)
  pub sharing : (i : ℕ) (d : DraftStep) → i < length (steps_of (draft_drive p.drive)) → KeepsRule (step_sharing (draft_of p)) i (slice_index_or (steps_of (draft_drive p.drive)) i d)

pub step_rows : (p : Parts) → IsValid p → KeepsSteps p
unfolding refusal_of whole_refusal refusal
step_rows p valid =
    let d : Draft = draft_of p in
    let all = all-none (first (shape_rows d) ∷ refusal d ∷ []) valid in
    let table = all-none (first (range_rows d) ∷ first (name_rows d) ∷ first (sharing_rows d) ∷ first (size_rows d) ∷ []) all.1.0 in
    let range = all-none (range_rows d) table.0 in
    let name = all-none (name_rows d) table.1.0 in
    let sharing = all-none (sharing_rows d) table.1.1.0 in
    record {
      range = λ i x low. each-keeps kinds.Range parts.Step (step_range d) (steps_of d.drive) i x range.1.1.1.1.0 low;
      name = λ i x low. each-keeps kinds.Name parts.Step (step_name d) (steps_of d.drive) i x name.1.1.1.0 low;
      sharing = λ i x low. each-keeps kinds.Sharing parts.Step (step_sharing d) (steps_of d.drive) i x sharing.1.1.1.0 low;
    }

-- ---- tasks and semaphores by their numbers

-- a number of the list stands for an element
numbered : (t n : ℕ) → has t (numbers_from 1 n) ≡ true → (1 ≤ t) × (t - 1 < n)
numbered t n h = let low : 1 ≤ t = has-numbers_from t 1 n h in (low, omega (arith, low, numbers_from-below t 1 n h))

pub task-numbered : (g : Group) (t : ℕ) → has t (tasks g) ≡ true → t - 1 < length g.setup.tasks
unfolding tasks
task-numbered g t h = (numbered t (length g.setup.tasks) (both _ _ (rw has-filter at h)).0).1

sem-numbered : (g : Group) (s : ℕ) → has s (sems g) ≡ true → (1 ≤ s) × (s - 1 < length g.setup.sems)
unfolding sems
sem-numbered g s h = numbered s (length g.setup.sems) h

abbrev pub drafted : Task → DraftTask
drafted t = draft_task t (runs t.body)

-- what is kept of a task, as the rules see it
pub task-keeps : (p : Parts) (rule : List DraftTask → DraftTask → Bool) → ((i : ℕ) (d : DraftTask) → i < length (draft_of p).tasks → KeepsRule rule i (slice_index_or (draft_of p).tasks i d)) → (i : ℕ) → i < length p.tasks → KeepsRule rule i (drafted (slice_index_or p.tasks i no_task))
task-keeps p rule each i low = subst (KeepsRule rule i) (get_or-map drafted p.tasks i no_task (drafted no_task) low) (each i (drafted no_task) (rw (length-map p.tasks drafted) low))

-- ---- what the rules say

fourth : (a b c d e : Bool) → a && (b && (c && (d && e))) ≡ true → d ≡ true
fourth a b c d e h = (both d e (both c (d && e) (both b (c && (d && e)) (both a (b && (c && (d && e))) h).1).1).1).0

sixth : (a b c d e f k : Bool) → a && (b && (c && (d && (e && (f && k))))) ≡ true → f ≡ true
sixth a b c d e f k h = fourth c d e f k (both b (c && (d && (e && (f && k)))) (both a (b && (c && (d && (e && (f && k))))) h).1).1

pub has_cluster : (plugin : PluginKind) (n : ℕ) → allows_clusters plugin n ≡ true → 1 ≤ n
has_cluster plugins.GsnEdf n h = let e : n ≡ 1 = eqb-true n 1 h in omega (arith, e)
has_cluster plugins.CEdf n h = ltb-true 0 n h
has_cluster plugins.PsnEdf n h = ltb-true 0 n h
has_cluster plugins.PFp n h = ltb-true 0 n h
has_cluster plugins.PRes n h = ltb-true 0 n h

pub within-bounds : (low high n : ℕ) → within low high n ≡ true → (low ≤ n) × (n ≤ high)
within-bounds low high n h = let q = both (nat_le low n) (nat_le n high) h in (leb-true low n q.0, leb-true n high q.1)

periodic-is : (k : Kind) → is_periodic k ≡ true → k ≡ Periodic
periodic-is Periodic h = refl
periodic-is Sporadic h = cc

early-periodic : (early periodic : Bool) → not early || periodic ≡ true → early ≡ true → periodic ≡ true
early-periodic true periodic h e = h
early-periodic false periodic h e = cc

-- a number beyond a list stands for the default
beyond : {A : Type 0} (d : A) (xs : List A) (i : ℕ) → length xs ≤ i → slice_index_or xs i d ≡ d
beyond d [] i h = refl
beyond d (x ∷ xs) zero h = absurd (omega arith)
beyond d (x ∷ xs) (suc i) h = beyond d xs i (omega arith)

-- ---- the clusters of a semaphore's users

has-mapped : {A : Type 0} (f : A → ℕ) (keep : A → Bool) (xs : List A) (i : ℕ) (d : A) → i < length xs → keep (slice_index_or xs i d) ≡ true → has (f (slice_index_or xs i d)) (map f (filter keep xs)) ≡ true
has-mapped f keep [] i d low h = absurd (omega arith)
has-mapped f keep (x ∷ xs) zero d low h = rw (h, equal_self (f x))
has-mapped f keep (x ∷ xs) (suc i) d low h = by_case (keep x) (has-mapped f keep xs i d (omega arith) h)
  where
    by_case : (b : Bool) → has (f (slice_index_or xs i d)) (map f (filter keep xs)) ≡ true → has (f (slice_index_or xs i d)) (map f (cond b (x ∷ filter keep xs) (filter keep xs))) ≡ true
    by_case true k = rw k (or_true (f (slice_index_or xs i d) == f x))
    by_case false k = k

has-any : (n : ℕ) (ns : List ℕ) → has n ns ≡ true → words.has n ns ≡ true
has-any n [] h = cc
has-any n (m ∷ ns) h = split (either (n == m) _ h) (has-any n ns)
  where
    split : (n == m ≡ true) ⊎ (has n ns ≡ true) → (has n ns ≡ true → words.has n ns ≡ true) → m == n || words.has n ns ≡ true
    split (inl k) r = rw (turned m n, k)
    split (inr k) r = rw (r k) (or_true (m == n))

-- all numbers of such a list are one
same_as-first : (x : ℕ) (xs : List ℕ) (a : ℕ) → list_all (λ y. y == x) xs ≡ true → has a (x ∷ xs) ≡ true → a ≡ x
same_as-first x xs a h k = split (either (a == x) _ k)
  where
    split : (a == x ≡ true) ⊎ (has a xs ≡ true) → a ≡ x
    split (inl m) = eqb-true a x m
    split (inr m) = eqb-true a x (list_all-has (λ y. y == x) xs a h m)

all_same-equal : (xs : List ℕ) (a b : ℕ) → all_same xs ≡ true → has a xs ≡ true → has b xs ≡ true → a ≡ b
all_same-equal [] a b h k m = cc
all_same-equal (x ∷ xs) a b h k m = same_as-first x xs a h k ∙ sym (same_as-first x xs b h m)

-- the first of such a list
first-same : (xs : List ℕ) (a : ℕ) → all_same xs ≡ true → has a xs ≡ true → first_of xs ≡ Some a
first-same [] a h k = cc
first-same (x ∷ xs) a h k = ap Some (sym (same_as-first x xs a h k))

-- a test that a number passes is passed by one that stands for it
any-mapped : (test : ℕ → Bool) (r : ℕ) (ns : List SemNo) → has r (map (λ (n : SemNo). n.0) ns) ≡ true → test r ≡ true → list_any (λ (n : SemNo). test n.0) ns ≡ true
any-mapped test r [] h k = cc
any-mapped test r (n ∷ ns) h k = split (either (r == n.0) _ h) (λ m. any-mapped test r ns m k)
  where
    split : (r == n.0 ≡ true) ⊎ (has r (map (λ (m : SemNo). m.0) ns) ≡ true) → (has r (map (λ (m : SemNo). m.0) ns) ≡ true → list_any (λ (m : SemNo). test m.0) ns ≡ true) → test n.0 || list_any (λ (m : SemNo). test m.0) ns ≡ true
    split (inl m) rec = let e : test n.0 ≡ true = rw (eqb-true r n.0 m) at k in rw e
    split (inr m) rec = rw (rec m) (or_true (test n.0))

sem-got : (xs : List Sem) (i : ℕ) → i < length xs → slice_get xs i ≡ Some (slice_index_or xs i no_sem)
sem-got [] i low = absurd (omega arith)
sem-got (x ∷ xs) zero low = refl
sem-got (x ∷ xs) (suc i) low = sem-got xs i (omega arith)

home-shared : (g : Group) (s t : ℕ) → has t (users g s) ≡ true → has (home g t) (clusters_sharing (draft_of g.setup) s) ≡ true
unfolding clusters_sharing home task declares
home-shared g s t h =
    let u = user-task g s t h in
    let low : t - 1 < length g.setup.tasks = task-numbered g t u.0 in
    let is : slice_index_or (draft_of g.setup).tasks (t - 1) (drafted no_task) ≡ drafted (slice_index_or g.setup.tasks (t - 1) no_task) = get_or-map drafted g.setup.tasks (t - 1) no_task (drafted no_task) low in
    let uses_it : words.has s (sem_numbers (drafted (slice_index_or g.setup.tasks (t - 1) no_task))) ≡ true = has-any s _ u.1 in
    subst (λ (x : DraftTask). has x.cluster (map (λ (d : DraftTask). d.cluster) (filter (λ d. words.has s (sem_numbers d)) (draft_of g.setup).tasks)) ≡ true) is
    (has-mapped (λ (d : DraftTask). d.cluster) (λ d. words.has s (sem_numbers d)) (draft_of g.setup).tasks (t - 1) (drafted no_task) (rw (length-map g.setup.tasks drafted) low) (rw is uses_it))

-- the test of a semaphore's users, where they are to share a cluster
shared : (one : Bool) (same other : Bool) → (if one then same else other) ≡ true → one ≡ true → same ≡ true
shared true same other h e = h
shared false same other h e = cc

module _ (g : Group) (valid : IsValid g.setup) where
  rows : KeepsRows g.setup
  rows = keeps_rows g.setup valid

  a_cluster : 1 ≤ length g.setup.clusters
  unfolding whole_range
  a_cluster = rw (length-map g.setup.clusters draft_cluster) at (has_cluster g.setup.plugin (length (map draft_cluster g.setup.clusters)) (both _ _ rows.whole).0)

  a_cpu : (c : ℕ) → c < length g.setup.clusters → 1 ≤ cpus g c
  unfolding cpus cluster cluster_range
  a_cpu c low =
      let k = rows.cluster c (draft_cluster no_cluster) (rw (length-map g.setup.clusters draft_cluster) low) in
      let n : ℕ = (slice_index_or (draft_of g.setup).clusters c (draft_cluster no_cluster)).cpus in
      let is : n ≡ (slice_index_or g.setup.clusters c no_cluster).cpus = ap (λ (x : DraftCluster). x.cpus) (get_or-map draft_cluster g.setup.clusters c no_cluster (draft_cluster no_cluster) low) in
      rw is at (within-bounds 1 MOST_CPUS n (both _ _ k.keeps).0).0

  -- under a partitioned plugin a cluster has one processor
  pub one_cpu : (c : ℕ) → is_partitioned g.setup.plugin ≡ true → c < length g.setup.clusters → cpus g c ≡ 1
  unfolding cpus cluster cluster_range
  one_cpu c parts low =
      let k = rows.cluster c (draft_cluster no_cluster) (rw (length-map g.setup.clusters draft_cluster) low) in
      let n : ℕ = (slice_index_or (draft_of g.setup).clusters c (draft_cluster no_cluster)).cpus in
      let is : n ≡ (slice_index_or g.setup.clusters c no_cluster).cpus = ap (λ (x : DraftCluster). x.cpus) (get_or-map draft_cluster g.setup.clusters c no_cluster (draft_cluster no_cluster) low) in
      let one : n == 1 ≡ true = or_else (not (is_partitioned g.setup.plugin)) (n == 1) (both _ _ (both _ _ k.keeps).1).0 (rw parts) in
      rw is at (eqb-true n 1 one)

  task_at : (t : ℕ) → t - 1 < length g.setup.tasks → KeepsRule (task_range (draft_of g.setup)) (t - 1) (drafted (task g t))
  unfolding task
  task_at t low = task-keeps g.setup (task_range (draft_of g.setup)) rows.range (t - 1) low

  a_cost : (t : ℕ) → has t (tasks g) ≡ true → 1 ≤ (task g t).cost
  unfolding task_range
  a_cost t h = (within-bounds 1 _ (task g t).cost (both _ _ (task_at t (task-numbered g t h)).keeps).0).0

  a_home : (t : ℕ) → has t (tasks g) ≡ true → home g t < length g.setup.clusters
  unfolding task_range home
  a_home t h =
      let q : Task = task g t in
      let low : nat_lt (home g t) (length (map draft_cluster g.setup.clusters)) ≡ true = sixth (is_span q.cost) (is_span q.period) (is_span q.rel_deadline) (nat_lt q.phase TICK_END) (is_prio q.prio) (nat_lt q.cluster.0 (length (draft_of g.setup).clusters)) (list_all piece_in_range (runs q.body)) (task_at t (task-numbered g t h)).keeps in
      rw (length-map g.setup.clusters draft_cluster) at (ltb-true (home g t) (length (map draft_cluster g.setup.clusters)) low)

  declared_sem : (t s : ℕ) → has t (tasks g) ≡ true → declares g t s ≡ true → has s (sems g) ≡ true
  unfolding task_name declares task sems
  declared_sem t s h k =
      let r = task-keeps g.setup (task_name (draft_of g.setup)) rows.name (t - 1) (task-numbered g t h) in
      let q : Task = task g t in
      let known : list_all (is_known g.setup.sems) (sem_numbers (drafted (task g t))) ≡ true = fourth (q.number.0 == length r.earlier + 1) (is_name q.name) (not (list_any (λ (x : DraftTask). bytes_eq x.name q.name) r.earlier)) (list_all (is_known g.setup.sems) (sem_numbers (drafted q))) (no_repeat (sem_numbers (drafted q)) && (resv_is_known (draft_of g.setup) q.resv && list_all (piece_is_known (draft_of g.setup)) (runs q.body))) r.keeps in
      let bounds = within-bounds 1 (length g.setup.sems) s (list_all-has (is_known g.setup.sems) (sem_numbers (drafted (task g t))) s known k) in
      numbers_from-has 1 (length g.setup.sems) s bounds.0 (omega (arith, bounds.1))

  periodic : (t : ℕ) → (task g t).early ≡ true → (task g t).kind ≡ Periodic
  unfolding task_sharing task
  periodic t e = by_case (nat_lt (t - 1) (length g.setup.tasks)) refl
    where
      by_case : (b : Bool) → nat_lt (t - 1) (length g.setup.tasks) ≡ b → (task g t).kind ≡ Periodic
      by_case true low =
          let r = task-keeps g.setup (task_sharing (draft_of g.setup)) rows.task (t - 1) (ltb-true _ _ low) in
          periodic-is (task g t).kind (early-periodic (task g t).early (is_periodic (task g t).kind) (both _ _ (both _ _ r.keeps).1).1 e)
      by_case false low = let none : task g t ≡ no_task = beyond no_task g.setup.tasks (t - 1) (ltb-false _ _ low) in ap (λ (x : Task). x.kind) none

  -- a number that stands for no reservation stands for a polling one
  a_period : (r : ℕ) → (resv g r).kind ≡ resv_kinds.Sporadic → 1 ≤ (resv g r).period
  unfolding resv resv_range
  a_period r sporadic = by_case (nat_lt (r - 1) (length g.setup.resvs)) refl
    where
      by_case : (b : Bool) → nat_lt (r - 1) (length g.setup.resvs) ≡ b → 1 ≤ (slice_index_or g.setup.resvs (r - 1) no_resv).period
      by_case true low =
          let inside : r - 1 < length g.setup.resvs = ltb-true _ _ low in
          let k = rows.resv (r - 1) (draft_resv no_resv) (rw (length-map g.setup.resvs draft_resv) inside) in
          let n : ℕ = (slice_index_or (draft_of g.setup).resvs (r - 1) (draft_resv no_resv)).period in
          let is : n ≡ (slice_index_or g.setup.resvs (r - 1) no_resv).period = ap (λ (x : DraftResv). x.period) (get_or-map draft_resv g.setup.resvs (r - 1) no_resv (draft_resv no_resv) inside) in
          rw is at (within-bounds 1 _ n (both _ _ k.keeps).0).0
      by_case false high = let none : slice_index_or g.setup.resvs (r - 1) no_resv ≡ no_resv = beyond no_resv g.setup.resvs (r - 1) (ltb-false _ _ high) in let k : (slice_index_or g.setup.resvs (r - 1) no_resv).kind ≡ resv_kinds.Polling = rw none in cc

  sem_at : (s : ℕ) → has s (sems g) ≡ true → KeepsRule (sem_sharing (draft_of g.setup)) (s - 1) (sem g s)
  unfolding sem
  sem_at s h = rows.sem (s - 1) no_sem (sem-numbered g s h).1

  allowed : (s : ℕ) → has s (sems g) ≡ true → stands_under (protocol g s) g.setup.plugin ≡ true
  unfolding sem_sharing protocol
  allowed s h = (both _ _ (sem_at s h).keeps).0

  one_cluster : (s : ℕ) → has s (sems g) ≡ true → is_of_one_cluster (protocol g s) g.setup.plugin ≡ true → all_same (clusters_sharing (draft_of g.setup) s) ≡ true
  unfolding sem_sharing protocol
  one_cluster s h one =
      let r = sem_at s h in
      let at : length r.earlier + 1 ≡ s = omega (arith, r.number, (sem-numbered g s h).0) in
      let sharing : List ℕ = clusters_sharing (draft_of g.setup) (length r.earlier + 1) in
      let tests = (both (stands_under (protocol g s) g.setup.plugin) ((if is_of_one_cluster (protocol g s) g.setup.plugin then all_same sharing else all_same (map (group_of (draft_of g.setup)) sharing)) && stands_apart (draft_of g.setup) (protocol g s) (first_of sharing)) r.keeps).1 in
      let test = (both (if is_of_one_cluster (protocol g s) g.setup.plugin then all_same sharing else all_same (map (group_of (draft_of g.setup)) sharing)) (stands_apart (draft_of g.setup) (protocol g s) (first_of sharing)) tests).0 in
      subst (λ n. all_same (clusters_sharing (draft_of g.setup) n) ≡ true) at (shared (is_of_one_cluster (protocol g s) g.setup.plugin) (all_same sharing) (all_same (map (group_of (draft_of g.setup)) sharing)) test one)

  keeps_apart : (s : ℕ) → has s (sems g) ≡ true → stands_apart (draft_of g.setup) (protocol g s) (first_of (clusters_sharing (draft_of g.setup) s)) ≡ true
  unfolding sem_sharing protocol
  keeps_apart s h =
      let r = sem_at s h in
      let at : length r.earlier + 1 ≡ s = omega (arith, r.number, (sem-numbered g s h).0) in
      let sharing : List ℕ = clusters_sharing (draft_of g.setup) (length r.earlier + 1) in
      let tests = (both (stands_under (protocol g s) g.setup.plugin) ((if is_of_one_cluster (protocol g s) g.setup.plugin then all_same sharing else all_same (map (group_of (draft_of g.setup)) sharing)) && stands_apart (draft_of g.setup) (protocol g s) (first_of sharing)) r.keeps).1 in
      let test = (both (if is_of_one_cluster (protocol g s) g.setup.plugin then all_same sharing else all_same (map (group_of (draft_of g.setup)) sharing)) (stands_apart (draft_of g.setup) (protocol g s) (first_of sharing)) tests).1 in
      subst (λ n. stands_apart (draft_of g.setup) (protocol g s) (first_of (clusters_sharing (draft_of g.setup) n)) ≡ true) at test

  -- a cluster with a user of an FMLP semaphore has one
  fmlp-users : (u r : ℕ) → has u (tasks g) ≡ true → declares g u r ≡ true → is_fmlp (protocol g r) ≡ true → has_fmlp_users (draft_of g.setup) (home g u) ≡ true
  unfolding has_fmlp_users is_fmlp_sem home task declares protocol sem
  fmlp-users u r h d k =
      let low : u - 1 < length g.setup.tasks = task-numbered g u h in
      let known : r - 1 < length g.setup.sems = (sem-numbered g r (declared_sem u r h d)).1 in
      let x : Task = slice_index_or g.setup.tasks (u - 1) no_task in
      let is : slice_index_or (draft_of g.setup).tasks (u - 1) (drafted no_task) ≡ drafted x = get_or-map drafted g.setup.tasks (u - 1) no_task (drafted no_task) low in
      let of_sem : unwrap_or (option_map (λ (y : Sem). is_fmlp y.protocol) (slice_get g.setup.sems (r - 1))) false ≡ true = rw (sem-got g.setup.sems (r - 1) known) k in
      let any : list_any (λ (n : SemNo). unwrap_or (option_map (λ (y : Sem). is_fmlp y.protocol) (slice_get g.setup.sems (n.0 - 1))) false) x.uses ≡ true = any-mapped (λ (n : ℕ). unwrap_or (option_map (λ (y : Sem). is_fmlp y.protocol) (slice_get g.setup.sems (n - 1))) false) r x.uses d of_sem in
      list_any_at (λ (p : DraftTask). p.cluster == x.cluster.0 && list_any (λ (n : SemNo). unwrap_or (option_map (λ (y : Sem). is_fmlp y.protocol) (slice_get g.setup.sems (n.0 - 1))) false) p.uses) (draft_of g.setup).tasks (u - 1) (drafted no_task) (rw (length-map g.setup.tasks drafted) low) (rw is (rw (equal_self x.cluster.0, any)))

  stay_apart : (s r t u : ℕ) → protocol g s ≡ Srp → has t (users g s) ≡ true → has u (tasks g) ≡ true → home g u ≡ home g t → declares g u r ≡ true → is_fmlp (protocol g r) ≡ false
  stay_apart s r t u p h k same d = unless _ (λ m. clash _ (fmlp-users u r k d m) (rw same none))
    where
      there : has s (sems g) ≡ true
      there = let w = user-task g s t h in declared_sem t s w.0 w.1

      one : all_same (clusters_sharing (draft_of g.setup) s) ≡ true
      one = one_cluster s there (rw p)

      none : has_fmlp_users (draft_of g.setup) (home g t) ≡ false
      none = not_true _ (rw (p, first-same (clusters_sharing (draft_of g.setup) s) (home g t) one (home-shared g s t h)) at (keeps_apart s there))

  users_share : (s t u : ℕ) → is_of_one_cluster (protocol g s) g.setup.plugin ≡ true → has t (users g s) ≡ true → has u (users g s) ≡ true → home g t ≡ home g u
  users_share s t u one h k =
      let d = user-task g s t h in
      all_same-equal (clusters_sharing (draft_of g.setup) s) (home g t) (home g u) (one_cluster s (declared_sem t s d.0 d.1) one) (home-shared g s t h) (home-shared g s u k)

  pub rules_of : MeetsRules g
  rules_of = record {
    has_cluster = a_cluster;
    has_cpu = a_cpu;
    has_home = a_home;
    has_cost = a_cost;
    is_periodic = periodic;
    is_known = declared_sem;
    has_period = a_period;
    is_allowed = allowed;
    is_single = one_cpu;
    apart = stay_apart;
    shares = users_share;
  }
