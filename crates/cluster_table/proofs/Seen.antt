-- A table of clusters as contracts see it, as one cluster changes and as all are placed.
use Rattle.std.proofs.Common.{◌≡◌, ℕ, zero, suc, ◌+◌, Bool, true, false, subst, ◌<◌, ◌≤◌, ◌⊎◌, inl, inr, List, length, [], ◌∷◌, map, set, get_or, refl, sym, ap, ◌∙◌}
use Rattle.std.specs.Prelude.{◌==◌, if◌then◌else◌, Option, None, Some, option_map}
use Rattle.std.proofs.lemmas.List.{get_or_past, get_or_read, length-map, map-set}
use Rattle.std.proofs.lemmas.Bool.{cases_lt}
use Rattle.rt_task.specs.declared.Cluster.{Cluster}
use Rattle.rt_rules.proofs.BoolLaws.{clash}
use Rattle.cluster_table.specs.Clusters.{KeptCluster, IsStable, fresh, relinked, rows_from}
use Rattle.cluster_table.specs.Placed.{PlacedCluster, as_placed}
use Rattle.cluster_table.specs.Table.{AreListed, clusters_seen}
use Rattle.cluster_table.proofs.Stable.{relinked-stable, stable-fresh}

pub at-seen : (ks : List (Option PlacedCluster)) (c : ℕ) → get_or (clusters_seen ks) c None ≡ option_map (λ (k : PlacedCluster). k.cluster) (get_or ks c None)
at-seen [] c = refl
at-seen (k ∷ ks) zero = refl
at-seen (k ∷ ks) (suc c) = at-seen ks c

pub same-seen : (ks : List (Option PlacedCluster)) (c : ℕ) (k : PlacedCluster) (j : KeptCluster) → get_or ks c None ≡ Some k → get_or (clusters_seen ks) c None ≡ Some j → k.cluster ≡ j
same-seen ks c k j at seen =
    let here : Some k.cluster ≡ Some j = sym (ap (option_map (λ (k : PlacedCluster). k.cluster)) at) ∙ sym (at-seen ks c) ∙ seen in
    cc

-- what a read of a cluster that is there gives
pub read-cluster : (ks : List (Option PlacedCluster)) (c : ℕ) (o : Option PlacedCluster) (k : PlacedCluster) (j : KeptCluster) → get_or (clusters_seen ks) c None ≡ Some j → o ≡ get_or ks c o → o ≡ Some k
    → get_or ks c None ≡ Some k
read-cluster ks c o k j there read is = by_place (cases_lt c (length ks))
  where
    by_place : (c < length ks) ⊎ (length ks ≤ c) → get_or ks c None ≡ Some k
    by_place (inl h) = sym (get_or_read ks c o h read None) ∙ is
    by_place (inr h) =
        let none : None ≡ Some j = sym (ap (option_map (λ (k : PlacedCluster). k.cluster)) (get_or_past ks c None h)) ∙ sym (at-seen ks c) ∙ there in
        cc

pub seen-set : (ks : List (Option PlacedCluster)) (c : ℕ) (k new : PlacedCluster) (change : KeptCluster → KeptCluster) → get_or ks c None ≡ Some k → new.cluster ≡ change k.cluster
    → clusters_seen (set ks c (Some new)) ≡ set (clusters_seen ks) c (option_map change (get_or (clusters_seen ks) c None))
seen-set ks c k new change at is =
    map-set (option_map (λ (k : PlacedCluster). k.cluster)) ks c (Some new)
    ∙ ap {B = List (Option KeptCluster)} (λ o. set (clusters_seen ks) c o) (ap {B = Option KeptCluster} (λ x. Some x) is ∙ sym (ap (option_map change) (at-seen ks c ∙ ap (option_map (λ (k : PlacedCluster). k.cluster)) at)))

-- one cluster that is placed: placing each of them makes the same of the table
pub relinked-once : (ks : List (Option PlacedCluster)) (c : ℕ) (k new : PlacedCluster) → get_or ks c None ≡ Some k → new.cluster ≡ relinked k.cluster → IsStable new.cluster
    → map (option_map relinked) (clusters_seen (set ks c (Some new))) ≡ map (option_map relinked) (clusters_seen ks)
relinked-once [] c k new at is stable = cc
relinked-once (x ∷ ks) zero k new at is stable =
    let same : relinked new.cluster ≡ relinked k.cluster = relinked-stable new.cluster stable ∙ is in
    rw (at, same) refl
relinked-once (x ∷ ks) (suc c) k new at is stable = ap (λ xs. option_map relinked (option_map (λ (k : PlacedCluster). k.cluster) x) ∷ xs) (relinked-once ks c k new at is stable)

-- where each cluster is stable, placing changes none
pub relinked-all : (ks : List (Option PlacedCluster)) → ((c : ℕ) (k : PlacedCluster) → get_or ks c None ≡ Some k → IsStable k.cluster)
    → map (option_map relinked) (clusters_seen ks) ≡ clusters_seen ks
relinked-all [] stable = refl
relinked-all (None ∷ ks) stable = ap (λ xs. None ∷ xs) (relinked-all ks (λ c. stable (suc c)))
relinked-all (Some k ∷ ks) stable = rw (relinked-stable k.cluster (stable 0 k refl)) (ap (λ xs. Some k.cluster ∷ xs) (relinked-all ks (λ c. stable (suc c))))

-- ---- a new table

pub seen-as_placed : (rows : List (Option KeptCluster)) → clusters_seen (map (option_map as_placed) rows) ≡ rows
seen-as_placed [] = refl
seen-as_placed (None ∷ rows) = ap (λ xs. None ∷ xs) (seen-as_placed rows)
seen-as_placed (Some k ∷ rows) = ap (λ xs. Some k ∷ xs) (seen-as_placed rows)

pub length-rows : (n room first : ℕ) (ks : List Cluster) → length (rows_from n room first ks) ≡ length ks
length-rows n room first [] = refl
length-rows n room first (k ∷ ks) = ap suc (length-rows n room (first + k.cpus) ks)

-- each of its clusters is placed
new-placed : (n room first : ℕ) (ks : List Cluster) (c : ℕ) (k : PlacedCluster) → get_or (map (option_map as_placed) (rows_from n room first ks)) c None ≡ Some k
    → (k.is_placed ≡ true) × IsStable k.cluster
new-placed n room first [] c k at = cc
new-placed n room first (x ∷ ks) zero k at = by_group (x.group.0 == n) at
  where
    by_group : (b : Bool) → option_map as_placed (if b then Some (fresh first x.cpus room) else None) ≡ Some k → (k.is_placed ≡ true) × IsStable k.cluster
    by_group true e =
        let is : as_placed (fresh first x.cpus room) ≡ k = cc in
        subst (λ (j : PlacedCluster). (j.is_placed ≡ true) × IsStable j.cluster) is (refl, stable-fresh first x.cpus room)
    by_group false e = cc
new-placed n room first (x ∷ ks) (suc c) k at = new-placed n room (first + x.cpus) ks c k at

pub listed-new : (n room first : ℕ) (ks : List Cluster) (most : ℕ) → length ks ≤ most → AreListed (map (option_map as_placed) (rows_from n room first ks)) [] most
listed-new n room first ks most fits = record {
  once = tt;
  inside = λ c h. cc;
  unplaced = λ c k h at. cc;
  listed = λ c k at h. absurd (clash k.is_placed (new-placed n room first ks c k at).0 h);
  stable = λ c k at h. (new-placed n room first ks c k at).1;
  room_for_all = rw (length-map, length-rows n room first ks) fits;
}
