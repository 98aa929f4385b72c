-- A processor in its cluster, and the clusters after an act of it.
use Rattle.std.proofs.Common.{◌≡◌, ◌≢◌, ℕ, Bool, true, false, length, eqb-true, refl, sym, ap, ◌∙◌, subst, arith}
use Rattle.std.specs.Prelude.{◌==◌, Some, option_map, slice_index}
use Rattle.std.proofs.lemmas.Bool.{eqb-false}
use Rattle.rt_task.specs.declared.Act.{Act}
use Rattle.rt_rules.specs.Numbers.{has}
use Rattle.rt_rules.proofs.NumberLaws.{numbers_from-has}
use Rattle.rt_model.specs.Group.{Group, cluster_with, clusters, cpus, first_cpu, processors}
use Rattle.rt_model.specs.Links.{linked, runs_of}
use Rattle.rt_model.specs.Outcomes.{past_act}
use Rattle.rt_model.specs.Past.{Acted, Past}
use Rattle.rt_model.specs.Runs.{runs}
use Rattle.rt_model.proofs.PastLaws.{link_at-numbers, length-runs_of, processor-home}
use Rattle.rt_plays.specs.Homes.{IsProcessorOf}
use Rattle.rt_plays.specs.AtHome.{IsAtHome}
use Rattle.rt_plays.proofs.AtHomeLaws.{processors_are_at_home}
use Rattle.rt_plays.proofs.RunsAfter.{runs_of-changed, runs_of-still}
use Rattle.rt_changes.proofs.rankings.SameClusters.{runs-elsewhere}
use Rattle.link_table.specs.Linked.{IsOfCluster, link_of, runs_on, with_run}
use Rattle.group_jobs.specs.FactMoves.{with_act}
use Rattle.cluster_table.specs.Clusters.{KeptCluster}
use Rattle.cluster_table.specs.Table.{HasProcessor, Table, changed_at, cluster_at}
use Rattle.cluster_table.proofs.RowLaws.{at-changed, at-changed_other}
use Rattle.group_engine.specs.declared.state.GroupState.{GroupState}
use Rattle.group_engine.specs.Links.{AreLinksAt}
use Rattle.group_engine.specs.State.{HasClusterAt, IsAt, IsClusterAt}
use Rattle.group_engine.proofs.Settling.{HasClusterBetween}

-- ---- a processor in its cluster

module _ (g : Group) (q : ℕ) (inside : IsProcessorOf g q) (past : Past) (s : GroupState) (at : IsAt g past s) where
  home_at : IsAtHome g q (cluster_with g q)
  home_at = processors_are_at_home g q inside

  -- its cluster
  pub own_cluster : HasClusterAt g (cluster_with g q) past s.clusters
  own_cluster = at.clusters_are (cluster_with g q) home_at.cluster_there

  pub of_cluster : (k : KeptCluster) → IsClusterAt g (cluster_with g q) past k → IsOfCluster k.linked q
  of_cluster k is =
      let size : length k.linked.runs ≡ cpus g (cluster_with g q) = ap length is.runs_are ∙ length-runs_of g (cluster_with g q) past in
      (omega (arith, is.first_is, home_at.low), omega (arith, is.first_is, home_at.high, size))

  -- the table has it
  pub has_processor : HasProcessor s.clusters (slice_index s.clusters.homes q) q
  has_processor =
      let there : cluster_at s.clusters (slice_index s.clusters.homes q) ≡ Some own_cluster.cluster = ap (cluster_at s.clusters) (at.homes_are.are q inside) ∙ own_cluster.there in
      (own_cluster.cluster, there, of_cluster own_cluster.cluster own_cluster.is_at)

  -- what it runs, and what it is linked to
  pub runs-read : (k : KeptCluster) → IsClusterAt g (cluster_with g q) past k → runs_on k.linked q ≡ runs q past
  unfolding runs_of processors
  runs-read k is =
      rw (is.first_is, is.runs_are)
      (link_at-numbers (λ r. runs r past) (first_cpu g (cluster_with g q)) (cpus g (cluster_with g q)) q (numbers_from-has (first_cpu g (cluster_with g q)) (cpus g (cluster_with g q)) q home_at.low home_at.high))

  pub link-read : (k : KeptCluster) → IsClusterAt g (cluster_with g q) past k → link_of k.linked q ≡ linked g q past
  unfolding linked
  link-read k is = rw (is.first_is, is.links_are) refl

  -- and so of each processor of its cluster
  pub links-read : (k : KeptCluster) → IsClusterAt g (cluster_with g q) past k → AreLinksAt g past k.linked
  unfolding linked processors
  links-read k is r here =
      let c : ℕ = cluster_with g q in
      let size : length k.linked.runs ≡ cpus g c = ap length is.runs_are ∙ length-runs_of g c past in
      let there : has r (processors g c) ≡ true =
      numbers_from-has (first_cpu g c) (cpus g c) r (omega (arith, is.first_is, here.0)) (omega (arith, is.first_is, here.1, size)) in
      rw (processor-home g c r there, is.first_is, is.links_are) refl

-- ---- a cluster after an act of the processor

module _ (g : Group) (q : ℕ) (act : Act) (past : Past) (s : GroupState) (at : IsAt g past s) where
  -- where the processor runs what it ran, each cluster is between
  pub between-still : runs q (with_act g q act past) ≡ runs q past → (c : ℕ) → has c (clusters g) ≡ true → HasClusterBetween g c (Acted (past_act g q act past)) past s.clusters
  between-still same c h = was (at.clusters_are c h)
    where
      was : HasClusterAt g c past s.clusters → HasClusterBetween g c (Acted (past_act g q act past)) past s.clusters
      was k = record {
        cluster = k.cluster;
        there = k.there;
        is_between = record {
          cpus_are = k.is_at.cpus_are;
          first_is = k.is_at.first_is;
          room = k.is_at.room;
          keys_are = k.is_at.keys_are;
          runs_are = k.is_at.runs_are ∙ sym (runs_of-still g c q act past same);
          links_are = k.is_at.links_are;
        };
      }

module _ (g : Group) (q : ℕ) (inside : IsProcessorOf g q) (act : Act) (past : Past) (s : GroupState) (at : IsAt g past s) (t : Table) (change : KeptCluster → KeptCluster) where
  own : IsAtHome g q (cluster_with g q)
  own = processors_are_at_home g q inside

  -- what the processor runs now is written down in its cluster, and the others stay
  pub between-run : t ≡ changed_at (cluster_with g q) change s.clusters
      → ((k : KeptCluster) → cluster_at s.clusters (cluster_with g q) ≡ Some k → IsClusterAt g (cluster_with g q) past k → change k ≡ record k { linked = with_run k.linked q (runs q (with_act g q act past)) })
      → (c : ℕ) → has c (clusters g) ≡ true → HasClusterBetween g c (Acted (past_act g q act past)) past t
  between-run same run c h = by_case (cluster_with g q == c) refl (at.clusters_are c h)
    where
      by_case : (b : Bool) → cluster_with g q == c ≡ b → HasClusterAt g c past s.clusters → HasClusterBetween g c (Acted (past_act g q act past)) past t
      by_case true e was =
          let here : cluster_with g q ≡ c = eqb-true _ _ e in
          let k : KeptCluster = was.cluster in
          let is : IsClusterAt g (cluster_with g q) past k = subst (λ d. IsClusterAt g d past k) (sym here) was.is_at in
          let there : cluster_at s.clusters (cluster_with g q) ≡ Some k = ap (cluster_at s.clusters) here ∙ was.there in
          let next : KeptCluster = record k { linked = with_run k.linked q (runs q (with_act g q act past)) } in
          let in_table : cluster_at t (cluster_with g q) ≡ Some next = ap (λ x. cluster_at x (cluster_with g q)) same ∙ at-changed (cluster_with g q) change s.clusters ∙ ap (option_map change) there ∙ ap Some (run k there is) in
          subst (λ d. HasClusterBetween g d (Acted (past_act g q act past)) past t) here (record {
            cluster = next;
            there = in_table;
            is_between = record {
              cpus_are = is.cpus_are;
              first_is = is.first_is;
              room = is.room;
              keys_are = is.keys_are;
              runs_are = rw (is.runs_are, is.first_is) (sym (runs_of-changed g (cluster_with g q) q act past own.low own.high));
              links_are = is.links_are;
            };
          })
      by_case false e was =
          let apart : c ≢ cluster_with g q = λ k. eqb-false _ _ e (sym k) in
          let in_table : cluster_at t c ≡ Some was.cluster = ap (λ x. cluster_at x c) same ∙ at-changed_other (cluster_with g q) c change s.clusters apart ∙ was.there in
          record {
            cluster = was.cluster;
            there = in_table;
            is_between = record {
              cpus_are = was.is_at.cpus_are;
              first_is = was.is_at.first_is;
              room = was.is_at.room;
              keys_are = was.is_at.keys_are;
              runs_are = was.is_at.runs_are ∙ sym (runs-elsewhere g c q act past e);
              links_are = was.is_at.links_are;
            };
          }
