-- A task that is linked was eligible, and is one of its processor's cluster.
use Rattle.std.proofs.Common.{Bool, List, [], arith, cond, false, length, ltb-false, map, refl, suc, sym, true, ℕ, ◌-◌, ◌<◌, ◌∙◌, ◌∷◌, ◌≡◌, ◌≤◌}
use Rattle.std.specs.Prelude.{filter, nat_lt}
use Rattle.rt_task.specs.declared.Cluster.{Cluster}
use Rattle.rt_rules.specs.Keys.{Ranked, sorted}
use Rattle.rt_rules.specs.Numbers.{has, is}
use Rattle.rt_rules.specs.Placing.{tasks_in}
use Rattle.rt_model.specs.EffectiveKeys.{effective_key}
use Rattle.rt_model.specs.Group.{Group, cluster_in, cluster_with, cpus, first_cpu, first_in, home, processors, tasks, tasks_of}
use Rattle.rt_model.specs.Links.{linked, links}
use Rattle.rt_model.specs.Reachable.{IsReachable}
use Rattle.rt_model.specs.Past.{Past}
use Rattle.rt_model.specs.Tops.{eligible, ranking, top}
use Rattle.rt_rules.proofs.BoolLaws.{both}
use Rattle.rt_rules.proofs.LinkLaws.{link_at-inside, has-link_at}
use Rattle.rt_rules.proofs.MemberLaws.{has-filter}
use Rattle.rt_rules.proofs.NumberLaws.{numbers_from-has}
use Rattle.rt_rules.proofs.RankedLaws.{has-sorted, has-take, tasks_ranked}
use Rattle.rt_model.proofs.PastLaws.{length-links, links-top, processor-home, single}
use Rattle.rt_model.proofs.TopLaws.{tasks-ranked}
use Rattle.rt_laws.proofs.GroupLaws.{tasks_of-home}

-- a task of the top is an eligible task of the cluster
pub top-eligible : (g : Group) (c t : ℕ) (past : Past) → has t (top g c past) ≡ true → (has t (tasks_of g c) ≡ true) × (eligible g t past ≡ true)
unfolding top ranking
top-eligible g c t past h =
    let ts : List ℕ = filter (λ u. eligible g u past) (tasks_of g c) in
    let rs : List Ranked = map (λ u. record { key = effective_key g u past; task = u }) ts in
    let k : has t (tasks_ranked (sorted rs)) ≡ true = has-take t (cpus g c) (tasks_ranked (sorted rs)) h in
    let m : has t ts ≡ true = rw (has-sorted t rs, tasks-ranked g past ts) at k in
    both _ _ (rw has-filter at m)

first_in-le : (ks : List Cluster) (q : ℕ) → first_in ks (cluster_in ks q) ≤ q
first_in-le [] q = omega arith
first_in-le (k ∷ ks) q = by_case (nat_lt q k.cpus) refl (first_in-le ks (q - k.cpus))
  where
    by_case : (b : Bool) → nat_lt q k.cpus ≡ b → first_in ks (cluster_in ks (q - k.cpus)) ≤ q - k.cpus → first_in (k ∷ ks) (cond b 0 (suc (cluster_in ks (q - k.cpus)))) ≤ q
    by_case true e h = omega arith
    by_case false e h = omega (arith, ltb-false q k.cpus e, h)

-- what is known of a task that is linked to a processor
pub record IsLinked (g : Group) (q t : ℕ) (past : Past) : Type 0 where
  pub at_home : cluster_with g q ≡ home g t
  pub placed : has q (processors g (home g t)) ≡ true
  pub member : has t (tasks g) ≡ true
  pub was_eligible : eligible g t past ≡ true
  pub of_top : has t (top g (home g t) past) ≡ true

-- a task that is linked to a processor is of its cluster and was eligible
pub linked-eligible : (g : Group) {past : Past} → IsReachable g past → (q t : ℕ) → is t (linked g q past) ≡ true → IsLinked g q t past
unfolding linked processors first_cpu cluster_with
linked-eligible g {past} made q t h =
    let c : ℕ = cluster_in g.setup.clusters q in
    let there : has t (tasks_in (links g c past)) ≡ true = has-link_at t (links g c past) _ h in
    let among : has t (top g c past) ≡ true = sym (links-top g c (processor-home g c) made t) ∙ there in
    let facts = top-eligible g c t past among in
    let at : (has t (tasks g) ≡ true) × (home g t ≡ c) = tasks_of-home g c t facts.0 in
    let inside : q - first_in g.setup.clusters c < length (links g c past) = link_at-inside t (links g c past) _ h in
    let low : first_in g.setup.clusters c ≤ q = first_in-le g.setup.clusters q in
    let size : length (links g c past) ≡ cpus g c = length-links g c past (single g c (processor-home g c) made) in
    record {
      at_home = sym at.1;
      placed = rw at.1 (numbers_from-has (first_in g.setup.clusters c) (cpus g c) q low (omega arith));
      member = at.0;
      was_eligible = facts.1;
      of_top = rw at.1 among;
    }
