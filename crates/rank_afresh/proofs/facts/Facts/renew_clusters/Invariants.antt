use Rattle.std.proofs.Common.{◌≡◌, ℕ, true, false, get_or, length, take, vec_len}
use Rattle.rt_base.specs.TaskNos.{numbers}
use Rattle.rt_rules.specs.Numbers.{has}
use Rattle.rank_afresh.specs.Clusters.{HasRenewed}
use Rattle.rank_afresh.specs.Facts.{cluster_at}
use Rattle.rank_afresh.specs.Visits.{AreHomes}
use Rattle.rank_afresh.proofs.facts.Facts.renew_clusters.Given as goal

-- the clusters at the first i positions have looked at the tasks, and the others are as they were
abbrev pub invariant-loop-i : goal.invariant-loop-i
invariant-loop-i l = record {
  core : l.self-inside.core ≡ l.initial.self-inside.core;
  moments : l.self-inside.moments ≡ l.initial.self-inside.moments;
  looked : l.self-inside.looked ≡ l.initial.self-inside.looked;
  visits : l.self-inside.visits ≡ l.initial.self-inside.visits;
  count : vec_len l.self-inside.clusters ≡ vec_len l.initial.self-inside.clusters;
  room : length l.self-inside.clusters.items ≡ length l.initial.self-inside.clusters.items;
  homes : AreHomes l.self-inside.clusters.items l.initial.self-inside.visits;
  done : (m : ℕ) → has m (take l.i l.initial.self-inside.visits.positions) ≡ true → HasRenewed l.parts l.initial.self-inside.core.facts (numbers l.initial.self-inside.looked.items)
      (cluster_at l.initial.self-inside.clusters.items m) (cluster_at l.self-inside.clusters.items m);
  marks_room : length l.placed ≡ length l.initial.placed;
  marks_stay : (m : ℕ) → get_or l.placed m false ≡ false → get_or l.initial.placed m false ≡ false;
  links_stay : (m : ℕ) → get_or l.placed m false ≡ false → (cluster_at l.self-inside.clusters.items m).links ≡ (cluster_at l.initial.self-inside.clusters.items m).links;
  rest : (m : ℕ) → has m (take l.i l.initial.self-inside.visits.positions) ≡ false → cluster_at l.self-inside.clusters.items m ≡ cluster_at l.initial.self-inside.clusters.items m;
}
