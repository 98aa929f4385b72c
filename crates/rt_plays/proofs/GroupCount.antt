-- The groups of a valid setup are numbered from 0 on, without a gap.
use Rattle.std.proofs.Common.{Bool, List, [], ap, append_assoc, arith, eqb-true, inl, inr, leb-true, length, map, refl, true, ℕ, ◌++◌, ◌+◌, ◌<◌, ◌||◌, ◌≡◌, ◌≤◌, ◌⊎◌, ◌∷◌}
use Rattle.std.proofs.lemmas.Bool.{cases_lt, or_left, or_right}
use Rattle.std.proofs.lemmas.List.{append-nil, length-map}
use Rattle.std.proofs.lemmas.List.Folds.{list_any-append}
use Rattle.std.proofs.lemmas.Simd.{map-map}
use Rattle.std.specs.List.{list_any}
use Rattle.std.specs.Prelude.{None, max, ◌==◌}
use Rattle.rt_base.specs.declared.TheConstants.{MOST_CPUS}
use Rattle.rt_task.specs.Draft.{draft_cluster, draft_of}
use Rattle.rt_task.specs.RangeRules.{cluster_range, group_follows, groups_top}
use Rattle.rt_task.specs.Refusals.{first_failing}
use Rattle.rt_task.specs.RuleWords.{greatest, within}
use Rattle.rt_task.specs.Validity.{IsValid}
use Rattle.rt_task.specs.declared.Cluster.{Cluster}
use Rattle.rt_task.specs.declared.Parts.{Parts}
use Rattle.rt_task.specs.declared.draft.Draft.{Draft}
use Rattle.rt_task.specs.declared.draft.DraftCluster.{DraftCluster}
use Rattle.rt_rules.proofs.BoolLaws.{both, either}
use Rattle.rt_rules.proofs.MemberLaws.{equal_self}
use Rattle.rt_model.specs.Group.{Group}
use Rattle.rt_plays.specs.Plays.{group_count}
use Rattle.rt_laws.proofs.Rules.{MeetsRules}
use Rattle.rt_laws.proofs.ValidSets.{rules_of}
use Rattle.rt_plays.specs.Groups.{IsGroupOf}
use Rattle.rt_plays.specs.AtHome.{GroupsAreCounted}
use Rattle.rt_plays.proofs.ValidRows.{first-passes, passes_rows}

-- a cluster is of the group
abbrev is_there : ℕ → List DraftCluster → Bool
is_there n ks = list_any (λ (c : DraftCluster). c.group == n) ks

-- each group up to the greatest has a cluster
abbrev IsCounted : List DraftCluster → Type 0
IsCounted ks = (n : ℕ) → 1 ≤ length ks → n ≤ groups_top ks → is_there n ks ≡ true

groups_top-push : (front : List DraftCluster) (c : DraftCluster) → groups_top (front ++ c ∷ []) ≡ max (groups_top front) c.group
groups_top-push [] c = omega arith
groups_top-push (k ∷ ks) c = let h = groups_top-push ks c in omega arith

-- a group that follows is one of those before it or the next
counted-push : (front : List DraftCluster) (c : DraftCluster) → IsCounted front → group_follows front c.group ≡ true → IsCounted (front ++ c ∷ [])
counted-push [] c counted follows n some low =
    let first : c.group ≡ 0 = eqb-true c.group 0 follows in
    let same : n ≡ 0 = omega arith in
    rw (first, same) refl
counted-push (k ∷ ks) c counted follows n some low = rw (list_any-append (λ (x : DraftCluster). x.group == n) (k ∷ ks) (c ∷ [])) (by_case (cases_lt (groups_top (k ∷ ks)) n))
  where
    next : c.group ≤ groups_top (k ∷ ks) + 1
    next = leb-true c.group (groups_top (k ∷ ks) + 1) follows

    top : groups_top ((k ∷ ks) ++ c ∷ []) ≡ max (groups_top (k ∷ ks)) c.group
    top = groups_top-push (k ∷ ks) c

    by_case : (groups_top (k ∷ ks) < n) ⊎ (n ≤ groups_top (k ∷ ks)) → is_there n (k ∷ ks) || is_there n (c ∷ []) ≡ true
    by_case (inl above) = let same : c.group ≡ n = omega (arith, next, top, low) in or_right (is_there n (k ∷ ks)) (is_there n (c ∷ [])) (rw (same, equal_self n) refl)
    by_case (inr among) = or_left (is_there n (k ∷ ks)) (is_there n (c ∷ [])) (counted n (omega arith) among)

counted-all : (d : Draft) (front ks : List DraftCluster) → IsCounted front → first_failing (cluster_range d) front ks ≡ None → IsCounted (front ++ ks)
unfolding cluster_range
counted-all d front [] counted h = rw append-nil counted
counted-all d front (c ∷ ks) counted h =
    let passes = first-passes (cluster_range d) front c ks h in
    let follows = (both _ _ (both (within 1 MOST_CPUS c.cpus) _ passes.0).1).1 in
    rw (← append_assoc front (c ∷ []) ks) (counted-all d (front ++ c ∷ []) ks (counted-push front c counted follows) passes.1)

-- ---- the clusters of a setup

is_there-drafted : (n : ℕ) (ks : List Cluster) → is_there n (map draft_cluster ks) ≡ list_any (λ (k : Cluster). k.group.0 == n) ks
is_there-drafted n [] = refl
is_there-drafted n (k ∷ ks) = rw (is_there-drafted n ks) refl

top-drafted : (ks : List Cluster) → groups_top (map draft_cluster ks) ≡ greatest (map (λ (k : Cluster). k.group.0) ks)
top-drafted ks = ap greatest (map-map (λ (c : DraftCluster). c.group) draft_cluster ks)

-- no cluster's group is above the greatest
there-below : (n : ℕ) (ks : List Cluster) → list_any (λ (k : Cluster). k.group.0 == n) ks ≡ true → n ≤ greatest (map (λ (k : Cluster). k.group.0) ks)
there-below n [] h = cc
there-below n (k ∷ ks) h = by_case (either (k.group.0 == n) _ h) (there-below n ks)
  where
    by_case : (k.group.0 == n ≡ true) ⊎ (list_any (λ (x : Cluster). x.group.0 == n) ks ≡ true) → (list_any (λ (x : Cluster). x.group.0 == n) ks ≡ true → n ≤ greatest (map (λ (x : Cluster). x.group.0) ks)) → n ≤ greatest (map (λ (x : Cluster). x.group.0) (k ∷ ks))
    by_case (inl here) rest = let same : k.group.0 ≡ n = eqb-true k.group.0 n here in omega arith
    by_case (inr later) rest = omega (arith, rest later)

counted : (p : Parts) → IsValid p → IsCounted (draft_of p).clusters
counted p valid = counted-all (draft_of p) [] (draft_of p).clusters (λ n some low. absurd (omega arith)) (passes_rows p valid).clusters

below-there : (p : Parts) (n : ℕ) → IsValid p → n < group_count p → IsGroupOf p n
below-there p n valid low =
    let g : Group = record { setup = p; number = 0 } in
    let rules : MeetsRules g = rules_of g valid in
    let some : 1 ≤ length (map draft_cluster p.clusters) = omega (arith, rules.has_cluster, length-map p.clusters draft_cluster) in
    let under : n ≤ groups_top (map draft_cluster p.clusters) = omega (arith, low, top-drafted p.clusters) in
    rw (is_there-drafted n p.clusters) at (counted p valid n some under)

pub groups_are_counted : GroupsAreCounted
groups_are_counted p n valid = (λ (there : IsGroupOf p n). omega (arith, there-below n p.clusters there), below-there p n valid)
