-- The clusters of a group and the homes of its processors, as the definitions speak of them; and a table that changes.
use Rattle.std.proofs.Common.{◌≡◌, ◌≢◌, ℕ, zero, suc, ◌+◌, ◌-◌, ◌<◌, ◌≤◌, Bool, true, false, ◌⊎◌, inl, inr, List, [], ◌∷◌, ◌++◌, length, map, set, get_or, replicate, refl, sym, ◌∙◌, arith, add_assoc, add-zero, zero-add, length-append, get_or-set_same, get_or-set_other}
use Rattle.std.specs.Prelude.{◌==◌, nat_lt, Option, None, Some, if◌then◌else◌, option_map, slice_index, slice_index_or, sum_by}
use Rattle.std.proofs.lemmas.Bool.{cases_lt}
use Rattle.std.proofs.lemmas.Bool.Decides.{nat_tests}
use Rattle.std.proofs.lemmas.List.{get_or-append_right, get_or-replicate, get_or_append_left, get_or_past, length-replicate, set_past}
use Rattle.std.proofs.lemmas.List.Sums.{sum_by-cons}
use Rattle.rt_task.specs.declared.Cluster.{Cluster}
use Rattle.rt_rules.specs.Numbers.{has}
use Rattle.rt_rules.proofs.NumberLaws.{numbers_from-below}
use Rattle.rt_model.specs.Group.{Group, cluster, cluster_in, cluster_with, clusters, cpus, first_cpu, first_in, group_processors, in_group, no_cluster, processors}
use Rattle.rt_laws.proofs.ValidSteps.{in_some}
use Rattle.cluster_table.specs.Clusters.{KeptCluster, fresh, homes_from, relinked, rows_from}
use Rattle.cluster_table.specs.Table.{Table, changed_at, cluster_at}

-- ---- the clusters of the group

row-of : (n room first : ℕ) (ks : List Cluster) (c : ℕ) → c < length ks
    → get_or (rows_from n room first ks) c None
    ≡ (if (get_or ks c no_cluster).group.0 == n then Some (fresh (first + first_in ks c) (get_or ks c no_cluster).cpus room) else None)
row-of n room first [] c low = absurd (omega arith)
row-of n room first (k ∷ ks) zero low = rw add-zero
row-of n room first (k ∷ ks) (suc c) low = rw (← add_assoc first k.cpus (first_in ks c)) (row-of n room (first + k.cpus) ks c (omega arith))

pub row-at : (g : Group) (room c : ℕ) → c < length g.setup.clusters
    → slice_index_or (rows_from g.number room 0 g.setup.clusters) c None ≡ (if in_group g c then Some (fresh (first_cpu g c) (cpus g c) room) else None)
unfolding in_group cluster first_cpu cpus
row-at g room c low = rw zero-add at (row-of g.number room 0 g.setup.clusters c low)

-- ---- the homes of the processors

pub length-homes : (c : ℕ) (ks : List Cluster) → length (homes_from c ks) ≡ sum_by (λ (k : Cluster). k.cpus) ks
length-homes c [] = refl
length-homes c (k ∷ ks) =
    omega (arith, length-append (replicate k.cpus c) (homes_from (suc c) ks), length-replicate k.cpus c, length-homes (suc c) ks, sum_by-cons (λ (k : Cluster). k.cpus) k ks)

home-of : (c : ℕ) (ks : List Cluster) (q : ℕ) → q < sum_by (λ (k : Cluster). k.cpus) ks → get_or (homes_from c ks) q 0 ≡ c + cluster_in ks q
home-of c [] q low = absurd (omega arith)
home-of c (k ∷ ks) q low = by_case (nat_lt q k.cpus) refl (home-of (suc c) ks (q - k.cpus))
  where
    count : length (replicate k.cpus c) ≡ k.cpus
    count = length-replicate k.cpus c

    by_case : (b : Bool) → nat_lt q k.cpus ≡ b → (q - k.cpus < sum_by (λ (k : Cluster). k.cpus) ks → get_or (homes_from (suc c) ks) (q - k.cpus) 0 ≡ suc c + cluster_in ks (q - k.cpus))
        → get_or (replicate k.cpus c ++ homes_from (suc c) ks) q 0 ≡ c + (if b then 0 else suc (cluster_in ks (q - k.cpus)))
    by_case true e rest =
        let here : q < k.cpus = grind (arith, nat_tests, e) in
        get_or_append_left (replicate k.cpus c) (homes_from (suc c) ks) 0 q (omega (arith, count, here)) ∙ get_or-replicate k.cpus q c 0 here ∙ sym (rw add-zero)
    by_case false e rest =
        let beyond : k.cpus ≤ q = grind (arith, nat_tests, e) in
        let more : q - k.cpus < sum_by (λ (k : Cluster). k.cpus) ks = omega (arith, beyond, low, sum_by-cons (λ (k : Cluster). k.cpus) k ks) in
        get_or-append_right (replicate k.cpus c) (homes_from (suc c) ks) k.cpus q 0 count beyond ∙ rest more ∙ omega arith

pub home-at : (g : Group) (q : ℕ) → q < sum_by (λ (k : Cluster). k.cpus) g.setup.clusters → slice_index (homes_from 0 g.setup.clusters) q ≡ cluster_with g q
unfolding cluster_with
home-at g q low = home-of 0 g.setup.clusters q low ∙ omega arith

first-low : (ks : List Cluster) (c : ℕ) → first_in ks c + (get_or ks c no_cluster).cpus ≤ sum_by (λ (k : Cluster). k.cpus) ks
first-low [] c = omega arith
first-low (k ∷ ks) zero = omega (arith, sum_by-cons (λ (k : Cluster). k.cpus) k ks)
first-low (k ∷ ks) (suc c) = omega (arith, first-low ks c, sum_by-cons (λ (k : Cluster). k.cpus) k ks)

pub processor-low : (g : Group) (q : ℕ) → has q (group_processors g) ≡ true → q < sum_by (λ (k : Cluster). k.cpus) g.setup.clusters
unfolding group_processors processors cpus cluster first_cpu
processor-low g q h =
    let one = in_some (processors g) (clusters g) q h in
    let below = numbers_from-below q (first_cpu g one.0) (cpus g one.0) one.2 in
    omega (arith, below, first-low g.setup.clusters one.0)

-- ---- a table that changes

pub at-changed : (c : ℕ) (change : KeptCluster → KeptCluster) (t : Table) → cluster_at (changed_at c change t) c ≡ option_map change (cluster_at t c)
at-changed c change t = by_place (cases_lt c (length t.clusters))
  where
    by_place : (c < length t.clusters) ⊎ (length t.clusters ≤ c) → get_or (set t.clusters c (option_map change (get_or t.clusters c None))) c None ≡ option_map change (get_or t.clusters c None)
    by_place (inl h) = get_or-set_same t.clusters c _ None h
    by_place (inr h) = rw (set_past t.clusters c (option_map change (get_or t.clusters c None)) h, get_or_past t.clusters c None h)

pub at-changed_other : (c d : ℕ) (change : KeptCluster → KeptCluster) (t : Table) → d ≢ c → cluster_at (changed_at c change t) d ≡ cluster_at t d
at-changed_other c d change t apart = get_or-set_other t.clusters c d _ None apart

pub at-relinked : (t : Table) (c : ℕ) → cluster_at (record t { clusters = map (option_map relinked) t.clusters }) c ≡ option_map relinked (cluster_at t c)
at-relinked t c = at-mapped t.clusters c
  where
    at-mapped : (ks : List (Option KeptCluster)) (c : ℕ) → get_or (map (option_map relinked) ks) c None ≡ option_map relinked (get_or ks c None)
    at-mapped [] c = refl
    at-mapped (k ∷ ks) zero = refl
    at-mapped (k ∷ ks) (suc c) = at-mapped ks c
