-- The partition of a processor of a split set. Each cluster has one processor, so the cluster of a processor has its number.
use Rattle.std.proofs.Common.{◌≡◌, ℕ, zero, suc, ◌+◌, ◌-◌, ◌<◌, Bool, true, false, ◌||◌, List, [], ◌∷◌, ◌++◌, length, refl, sym, ap, ◌∙◌, arith, append-nil, eqb-true, ltb-true, inl, inr}
use Rattle.std.proofs.lemmas.List.{map-append}
use Rattle.std.proofs.lemmas.List.Elements.{filter-append}
use Rattle.std.proofs.lemmas.List.Sums.{sum_by-cons}
use Rattle.std.specs.List.{list_all}
use Rattle.std.specs.Prelude.{◌==◌, ◌⊎◌, nat_lt, slice_index_or, sum_by, filter, flat_map}
use Rattle.rt_base.specs.TaskNos.{numbers}
use Rattle.rt_base.specs.declared.TaskNo.{TaskNo}
use Rattle.rt_task.specs.RuleWords.{is_partitioned}
use Rattle.rt_task.specs.declared.Cluster.{Cluster}
use Rattle.rt_task.specs.declared.Parts.{Parts}
use Rattle.rt_task.specs.declared.PluginKind.{PluginKind}
use Rattle.rt_task.specs.declared.PluginKind.TheVariants as plugins
use Rattle.rt_task.specs.declared.Protocol.{Protocol}
use Rattle.rt_task.specs.declared.Protocol.TheVariants as protocols
use Rattle.rt_task.specs.declared.Sem.{Sem}
use Rattle.rt_task.specs.declared.Task.{Task}
use Rattle.rt_rules.specs.Numbers.{has, numbers_from}
use Rattle.rt_rules.proofs.BoolLaws.{both, not_true, or_true, unless}
use Rattle.rt_rules.proofs.MemberLaws.{equal_self, has-append, has-filter}
use Rattle.rt_rules.proofs.NumberLaws.{numbers_from-has}
use Rattle.rt_model.specs.Group.{Group, cluster, cluster_in, cluster_with, clusters, cpus, first_cpu, first_in, group_processors, home, in_group, no_cluster, no_sem, no_task, processors, protocol, sem, task}
use Rattle.rt_model.specs.Group as group
use Rattle.rt_laws.proofs.ValidSets.{rules_of}
use Rattle.rt_plays.specs.Plays.{group_with}
use Rattle.rt_plays.specs.Room.{processor_count}
use Rattle.split_rules.specs.PartLinks.{part, tasks}
use Rattle.split_rules.specs.Partitions.{group_no, part_group}
use Rattle.split_laws.specs.Keys.{AllBoost}
use Rattle.split_laws.specs.Parts.{IsSeat}
use Rattle.split_set.specs.SplitSets.{has_split_steps, is_split_plugin, is_split_protocol, is_split_task}
use Rattle.split_writer.specs.PartPlays.{IsPartition}

abbrev AllOne : List Cluster → Type 0
AllOne ks = (c : ℕ) → c < length ks → (slice_index_or ks c no_cluster).cpus ≡ 1

fewer : (k : Cluster) (ks : List Cluster) → AllOne (k ∷ ks) → AllOne ks
fewer k ks one c low = one (suc c) (omega (arith, low))

cluster-is : (ks : List Cluster) (q : ℕ) → AllOne ks → q < length ks → cluster_in ks q ≡ q
cluster-is [] q one low = absurd (omega (arith, low))
cluster-is (k ∷ ks) zero one low = let e : k.cpus ≡ 1 = one 0 (omega arith) in rw e refl
cluster-is (k ∷ ks) (suc q) one low =
    let e : k.cpus ≡ 1 = one 0 (omega arith) in
    let high : nat_lt (suc q) 1 ≡ false = unless _ (λ h. let l = ltb-true (suc q) 1 h in omega (arith, l)) in
    let less : suc q - 1 ≡ q = omega arith in
    rw (e, high, less) (ap suc (cluster-is ks q (fewer k ks one) (omega (arith, low))))

first-is : (ks : List Cluster) (q : ℕ) → AllOne ks → q < length ks → first_in ks q ≡ q
first-is [] q one low = absurd (omega (arith, low))
first-is (k ∷ ks) zero one low = refl
first-is (k ∷ ks) (suc q) one low =
    let e : k.cpus ≡ 1 = one 0 (omega arith) in
    let more = first-is ks q (fewer k ks one) (omega (arith, low)) in
    omega (arith, e, more)

sum-is : (ks : List Cluster) → AllOne ks → sum_by (λ (k : Cluster). k.cpus) ks ≡ length ks
sum-is [] one = refl
sum-is (k ∷ ks) one =
    let e : k.cpus ≡ 1 = one 0 (omega arith) in
    omega (arith, e, sum_by-cons (λ (c : Cluster). c.cpus) k ks, sum-is ks (fewer k ks one))

partitions : (k : PluginKind) → is_split_plugin k ≡ true → is_partitioned k ≡ true
partitions plugins.PsnEdf h = refl
partitions plugins.PFp h = refl
partitions plugins.GsnEdf h = cc
partitions plugins.CEdf h = cc
partitions plugins.PRes h = cc

sem-boosts : (xs : List Sem) (i : ℕ) → list_all (λ (s : Sem). is_split_protocol s.protocol) xs ≡ true
    → ((slice_index_or xs i no_sem).protocol ≡ protocols.Fmlp) ⊎ ((slice_index_or xs i no_sem).protocol ≡ protocols.Mpcp)
sem-boosts [] i h = inl refl
sem-boosts (x ∷ xs) zero h = by_protocol x.protocol (both _ _ h).0
  where
    by_protocol : (p : Protocol) → is_split_protocol p ≡ true → (p ≡ protocols.Fmlp) ⊎ (p ≡ protocols.Mpcp)
    by_protocol protocols.Fmlp k = inl refl
    by_protocol protocols.Mpcp k = inr refl
    by_protocol protocols.Omlp k = cc
    by_protocol protocols.Pcp k = cc
    by_protocol protocols.Srp k = cc
sem-boosts (x ∷ xs) (suc i) h = sem-boosts xs i (both (is_split_protocol x.protocol) _ h).1

task-plain : (xs : List Task) (i : ℕ) → list_all is_split_task xs ≡ true → (slice_index_or xs i no_task).enforce ≡ false
task-plain [] i h = refl
task-plain (x ∷ xs) zero h = not_true _ (both _ _ (both _ _ (both _ _ h).0).1).0
task-plain (x ∷ xs) (suc i) h = task-plain xs i (both (is_split_task x) _ h).1

in-one : (f : ℕ → List ℕ) (cs : List ℕ) (c q : ℕ) → has c cs ≡ true → has q (f c) ≡ true → has q (flat_map f cs) ≡ true
in-one f [] c q h m = cc
in-one f (x ∷ cs) c q h m = rw (has-append q (f x) (flat_map f cs)) (by_case (c == x) refl h (in-one f cs c q))
  where
    by_case : (b : Bool) → c == x ≡ b → b || has c cs ≡ true → (has c cs ≡ true → has q (f c) ≡ true → has q (flat_map f cs) ≡ true) → has q (f x) || has q (flat_map f cs) ≡ true
    by_case true e k rest = let s : c ≡ x = eqb-true c x e in let here : has q (f x) ≡ true = rw s at m in rw here refl
    by_case false e k rest = rw (rest k m) (or_true (has q (f x)))

twice : (f h : ℕ → Bool) (xs : List ℕ) → ((x : ℕ) → f x ≡ true → h x ≡ true) → filter f (filter h xs) ≡ filter f xs
twice f h [] k = refl
twice f h (x ∷ xs) k = by_case (twice f h xs k) (h x) refl (f x) refl
  where
    by_case : filter f (filter h xs) ≡ filter f xs → (a : Bool) → h x ≡ a → (b : Bool) → f x ≡ b → filter f (filter h (x ∷ xs)) ≡ filter f (x ∷ xs)
    by_case rest true d true e = rw (d, e) (ap (λ ys. x ∷ ys) rest)
    by_case rest true d false e = rw (d, e) rest
    by_case rest false d true e = let m : false ≡ true = sym d ∙ k x e in cc
    by_case rest false d false e = rw (d, e) rest

numbers-next : (a n : ℕ) → numbers_from a (n + 1) ≡ numbers_from a n ++ (a + n) ∷ []
numbers-next a zero = let e : a + 0 ≡ a = omega arith in rw e refl
numbers-next a (suc n) =
    let e : suc n + 1 ≡ suc (n + 1) = omega arith in
    let m : a + suc n ≡ suc a + n = omega arith in
    rw (e, m) (ap (λ xs. a ∷ xs) (numbers-next (suc a) n))

-- one number more
module _ (f : ℕ → Bool) (i : ℕ) (xs : List TaskNo) (so_far : numbers xs ≡ filter f (numbers_from 1 i)) where
  more : filter f (numbers_from 1 (i + 1)) ≡ filter f (numbers_from 1 i) ++ filter f ((i + 1) ∷ [])
  more =
      let e : 1 + i ≡ i + 1 = omega arith in
      ap (filter f) (numbers-next 1 i ∙ ap (λ n. numbers_from 1 i ++ n ∷ []) e) ∙ filter-append f (numbers_from 1 i) ((i + 1) ∷ [])

  pub with-own : f (i + 1) ≡ true → numbers (xs ++ (record { 0 = i + 1 }) ∷ []) ≡ filter f (numbers_from 1 (i + 1))
  with-own h = map-append (λ (t : TaskNo). t.0) xs ((record { 0 = i + 1 }) ∷ []) ∙ ap (λ ys. ys ++ (i + 1) ∷ []) so_far ∙ sym (more ∙ rw h refl)

  pub without-other : f (i + 1) ≡ false → numbers xs ≡ filter f (numbers_from 1 (i + 1))
  without-other h = so_far ∙ sym (more ∙ rw h (append-nil (filter f (numbers_from 1 i))))

any-default : (xs : List Task) (i : ℕ) (d : Task) → i < length xs → slice_index_or xs i no_task ≡ slice_index_or xs i d
any-default [] i d low = absurd (omega (arith, low))
any-default (x ∷ xs) zero d low = refl
any-default (x ∷ xs) (suc i) d low = any-default xs i d (omega (arith, low))

-- the cluster of the task at a place
pub home-at : (p : Parts) (n i : ℕ) (d : Task) → i < length p.tasks → home (group_with p n) (i + 1) ≡ (slice_index_or p.tasks i d).cluster.0
unfolding home task
home-at p n i d low = let e : i + 1 - 1 ≡ i = omega arith in rw e (ap (λ (x : Task). x.cluster.0) (any-default p.tasks i d low))

module _ (p : Parts) (q : ℕ) (is : IsPartition p q) where
  split : (is_split_plugin p.plugin ≡ true) × (list_all (λ (s : Sem). is_split_protocol s.protocol) p.sems ≡ true) × (list_all is_split_task p.tasks ≡ true)
  split = let a = both (is_split_plugin p.plugin) _ is.split in let b = both (has_split_steps p.drive) _ a.1 in let c = both _ (list_all is_split_task p.tasks) b.1 in (a.0, c.0, c.1)

  all-one : AllOne p.clusters
  unfolding cpus cluster
  all-one c low = (rules_of (group_with p 0) is.valid).is_single c (partitions p.plugin split.0) low

  abbrev g : Group
  g = part_group p q

  pub low : q < length p.clusters
  low = let n = is.there in omega (arith, n, sum-is p.clusters all-one)

  pub cpu-count : processor_count p ≡ length p.clusters
  cpu-count = sum-is p.clusters all-one

  pub part-is : part g q ≡ q
  unfolding part cluster_with
  part-is = cluster-is p.clusters q all-one low

  pub number-is : group_no p q ≡ (slice_index_or p.clusters q no_cluster).group.0
  unfolding cluster cluster_with
  number-is = ap (λ c. (slice_index_or p.clusters c no_cluster).group.0) (cluster-is p.clusters q all-one low)

  pub seat : IsSeat g q
  unfolding first_cpu cluster_with
  seat = ap (first_in p.clusters) (cluster-is p.clusters q all-one low) ∙ first-is p.clusters q all-one low

  pub one : cpus g (part g q) ≡ 1
  unfolding cpus cluster
  one = ap (λ c. (slice_index_or p.clusters c no_cluster).cpus) part-is ∙ all-one q low

  in-own : in_group g q ≡ true
  unfolding in_group cluster
  in-own = rw (number-is) (equal_self (slice_index_or p.clusters q no_cluster).group.0)

  pub inside : has q (group_processors g) ≡ true
  unfolding group_processors clusters processors first_cpu cpus cluster
  inside = in-one (processors g) (clusters g) q q
      (has-filter (in_group g) q (numbers_from 0 (length p.clusters)) ∙ rw (numbers_from-has 0 (length p.clusters) q (omega arith) (let l = low in omega (arith, l)), in-own) refl)
      (rw (first-is p.clusters q all-one low, all-one q low) (rw (equal_self q) refl))

  pub tasks-are : tasks g q ≡ filter (λ t. home g t == q) (numbers_from 1 (length p.tasks))
  unfolding tasks group.tasks_of group.tasks
  tasks-are =
      ap (λ c. filter (λ t. home g t == c) (group.tasks g)) part-is
      ∙ twice (λ t. home g t == q) (λ t. in_group g (home g t)) (numbers_from 1 (length p.tasks))
      (λ t h. let e : home g t ≡ q = eqb-true (home g t) q h in rw e in-own)

  pub boosts : AllBoost g
  unfolding protocol sem
  boosts s = sem-boosts p.sems (s - 1) split.1

  pub plain : (t : ℕ) → (task g t).enforce ≡ false
  unfolding task
  plain t = task-plain p.tasks (t - 1) split.2
