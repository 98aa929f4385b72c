use Rattle.std.proofs.Common.{◌≡◌, ◌<◌, ◌++◌, ◌∷◌, [], List, length, set, true, ap, sym, ◌∙◌, arith}
use Rattle.std.proofs.lemmas.List.{get_or_read, map-append, nil_from_length, set-get_or}
use Rattle.std.specs.Prelude.{None, Option, Some}
use Rattle.rt_base.specs.declared.ClusterNo.{ClusterNo}
use Rattle.rt_rules.specs.Numbers.{has}
use Rattle.rt_rules.proofs.MemberLaws.{equal_self, has-push}
use Rattle.cluster_table.specs.Clusters.{KeptCluster}
use Rattle.cluster_table.specs.Placed.{PlacedCluster}
use Rattle.cluster_table.specs.Table.{Table, cluster_at, cluster_numbers}
use Rattle.cluster_table.proofs.Listed.{listed-absent, listed-placed, stable-all}
use Rattle.cluster_table.proofs.Marking.{seen-other, unmarked-other}
use Rattle.cluster_table.proofs.Seen.{relinked-all, relinked-once}
use Rattle.cluster_table.proofs.ClusterTable.place_changed.Goals as goal
use Rattle.cluster_table.proofs.ClusterTable.place_changed.Goals.{In-Some}

-- the last of the list leaves it
last : (c : In-Some) → cluster_numbers c.loop-c.self-inside.changed.items ≡ cluster_numbers c.pop.new.self.items ++ c.in-Some.c.0 ∷ []
last c = ap cluster_numbers c.in-Some.ensures.items ∙ map-append (λ (c : ClusterNo). c.0) c.pop.new.self.items (c.in-Some.c ∷ [])

within : (c : In-Some) → c.in-Some.c.0 < length c.loop-c.self-inside.clusters.items
within c =
    let there : has c.in-Some.c.0 (cluster_numbers c.loop-c.self-inside.changed.items) ≡ true = rw (last c) (has-push c.in-Some.c.0 c.in-Some.c.0 (cluster_numbers c.pop.new.self.items) ∙ rw (equal_self c.in-Some.c.0)) in
    c.loop-c.invariant.listed.inside c.in-Some.c.0 there

pub index_mut-requires : goal.index_mut-requires
index_mut-requires c = omega (arith, within (goal.at.index_mut-requires c).In-Some, c.loop-c.self-inside.clusters.ok.0)

pub loop-c-preserved-in-Some-index_mut : goal.loop-c-preserved-in-Some-index_mut
loop-c-preserved-in-Some-index_mut c =
    let popped = (goal.at.loop-c-preserved-in-Some-index_mut c).In-Some in
    let ks = c.loop-c.self-inside.clusters.items in
    let k = c.in-Some-index_mut.cluster in
    let new = c.place.new.self in
    let changed = cluster_numbers c.loop-c.self-inside.changed.items in
    let placed = ap (λ (k : PlacedCluster). k.is_placed) c.place.ensures.cluster in
    let at = sym (get_or_read ks c.in-Some.c.0 c.index_mut.result.now (within popped) c.index_mut.ensures.value None) ∙ c.in-Some-index_mut.is in
    record {
      homes = c.loop-c.invariant.homes;
      unmarked = λ d h.
          let other = unmarked-other c.loop-c.placed c.in-Some.c d (rw c.mark.ensures at h) in
          let was = c.loop-c.invariant.unmarked d other.1 in
          (was.0, seen-other ks c.in-Some.c.0 d (Some new) other.0 ∙ was.1);
      relinked = relinked-once ks c.in-Some.c.0 k new at (ap (λ (k : PlacedCluster). k.cluster) c.place.ensures.cluster) c.place.ensures.stable ∙ c.loop-c.invariant.relinked;
      listed =
          rw c.pop.ensures.capacity
          (listed-placed ks changed _ c.loop-c.invariant.listed c.in-Some.c.0 k at (cluster_numbers c.pop.new.self.items) new (last popped) placed c.place.ensures.stable);
    }

pub loop-c-preserved : goal.loop-c-preserved
loop-c-preserved c =
    let popped = (goal.at.loop-c-preserved c).In-Some in
    let ks = c.loop-c.self-inside.clusters.items in
    let same = ap (set ks c.in-Some.c.0) c.index_mut.ensures.value ∙ set-get_or ks c.in-Some.c.0 c.index_mut.result.now in
    let none = sym (get_or_read ks c.in-Some.c.0 c.index_mut.result.now (within popped) c.index_mut.ensures.value None) ∙ c.in_default-index_mut.is in
    record {
      homes = c.loop-c.invariant.homes;
      unmarked = λ d h.
          let other = unmarked-other c.loop-c.placed c.in-Some.c d (rw c.mark.ensures at h) in
          let was = c.loop-c.invariant.unmarked d other.1 in
          (was.0, rw same was.1);
      relinked = rw same c.loop-c.invariant.relinked;
      listed =
          rw (same, c.pop.ensures.capacity)
          (listed-absent ks (cluster_numbers c.loop-c.self-inside.changed.items) _ c.loop-c.invariant.listed c.in-Some.c.0 (cluster_numbers c.pop.new.self.items) (last popped) none);
    }

pub returns-clause-clusters : goal.returns-clause-clusters
returns-clause-clusters c =
    let inside = c.loop-c.self-inside in
    let none : inside.changed.items ≡ [] = nil_from_length _ (omega (arith, c.in_default.ensures.cases.0, inside.changed.ok.0)) in
    let stable = stable-all inside.clusters.items (cluster_numbers inside.changed.items) _ c.loop-c.invariant.listed (ap cluster_numbers none) in
    let placed = sym (relinked-all inside.clusters.items stable) ∙ c.loop-c.invariant.relinked in
    rw (← c.self.view_is, c.loop-c.invariant.homes) (ap (λ (ks : List (Option KeptCluster)). record { homes = cluster_numbers c.self.inside.homes.items; clusters = ks }) placed)

pub returns-clause-others : goal.returns-clause-others
returns-clause-others c = λ d h.
    let still = c.loop-c.invariant.unmarked d h in
    (still.0, still.1 ∙ ap (λ (t : Table). cluster_at t d) c.self.view_is)
