-- Rankings, tops and links of a cluster, kept or left as they are.
use Rattle.std.proofs.Common.{◌≡◌, ℕ, Bool, true, false, ◌||◌, List, [], ◌∷◌, map, refl, sym, ap, ◌∙◌, arith}
use Rattle.std.specs.Prelude.{◌==◌, if◌then◌else◌}
use Rattle.rt_task.specs.declared.Act.{Act}
use Rattle.rt_rules.specs.Numbers.{has, is}
use Rattle.rt_rules.specs.Placing.{placed, tasks_in}
use Rattle.rt_rules.proofs.BoolLaws.{unless, clash}
use Rattle.rt_rules.proofs.MemberLaws.{equal_self, is-some}
use Rattle.rt_rules.proofs.PlacingLaws.{has-tasks_in}
use Rattle.rt_model.specs.Answers.{answer}
use Rattle.rt_model.specs.Group.{Group, cpus, cluster_with, home, processors, tasks_of}
use Rattle.rt_model.specs.Links.{runs_of, links, linked}
use Rattle.rt_model.specs.Reachable.{IsReachable}
use Rattle.rt_model.specs.Outcomes.{past_act}
use Rattle.rt_model.specs.Past.{Event, Clock, Acted, Past, accepted}
use Rattle.rt_model.specs.Runs.{runs}
use Rattle.rt_model.specs.Tops.{ranking, top}
use Rattle.rt_model.proofs.PastLaws.{IsSingle, single, processor-home, length-runs_of}
use Rattle.rt_model.proofs.Steps.{links-step, runs-acted, past_act-cpu}
use Rattle.rt_model.proofs.TopLaws.{distinct-top, length-top, distinct-tasks_of}
use Rattle.rt_laws.proofs.GroupLaws.{tasks_of-home}
use Rattle.rt_laws.proofs.links.Links.{runs_at_home}
use Rattle.rt_laws.proofs.Moves.{last_move}
use Rattle.rt_laws.proofs.links.PlacedAgain.{placed-again}
use Rattle.rt_rules.proofs.RankedByLaws.{ranked_by-same}
use Rattle.rt_changes.specs.Clusters.{RankingIsKept, TopIsTaken, LinksSettle, LinksStay, SameCluster, SameStanding, ClusterStays, RunsStay, OtherClustersStay}
use Rattle.rt_changes.specs.Touched.{arriving}
use Rattle.ready_queue.proofs.Refreshing.{ranking_is_refreshed}
use Rattle.ready_queue.proofs.ReadySets.{first_are_the_ranking}
use Rattle.rt_changes.proofs.rankings.SameEligibility.{eligible_after_act}

-- ---- the ranking

pub ranking_is_kept : RankingIsKept
unfolding ranking
ranking_is_kept g c touched past past' agree = ranking_is_refreshed touched (tasks_of g c) _ _ _ _ (distinct-tasks_of g c) agree

pub top_is_taken : TopIsTaken
unfolding top ranking
top_is_taken g c past keys us holds taken = first_are_the_ranking (cpus g c) (tasks_of g c) _ _ keys us (distinct-tasks_of g c) holds taken

-- ---- the links

pub links-settle : (g : Group) (c : ℕ) {past : Past} → IsReachable g past → placed (top g c past) (runs_of g c past) (links g c past) ≡ links g c past
links-settle g c {past} made =
    let a : IsSingle g c past = single g c (processor-home g c) made in
    rw a.links_are (placed-again (top g c past) (runs_of g c past) a.before (distinct-top g c past) a.runs_distinct a.before_distinct (length-runs_of g c past ∙ sym a.before_length) (omega (arith, length-top g c past, length-runs_of g c past)))

pub links_settle : LinksSettle
links_settle g past valid made c = links-settle g c made

pub links-stay : (g : Group) (c : ℕ) (e : Event) (past : Past) → IsReachable g past → top g c (e ∷ past) ≡ top g c past → runs_of g c (e ∷ past) ≡ runs_of g c past → links g c (e ∷ past) ≡ links g c past
links-stay g c e past made t r = links-step g c e past ∙ rw (t, r) (links-settle g c made)

pub links_stay : LinksStay
links_stay g e past valid made c t r = links-stay g c e past (last_move g made).0 t r

-- ---- a cluster

pub ranking-same : (g : Group) (c : ℕ) (past past' : Past) → ((t : ℕ) → has t (tasks_of g c) ≡ true → SameStanding g t past past') → ranking g c past' ≡ ranking g c past
unfolding ranking
ranking-same g c past past' same = sym (ranked_by-same _ _ _ _ (tasks_of g c) (λ t h. sym (same t h).eligible_same) (λ t h k. sym ((same t h).key_same k)))

pub cluster-stays : (g : Group) (c : ℕ) (e : Event) (past : Past) → IsReachable g past → ((t : ℕ) → has t (tasks_of g c) ≡ true → SameStanding g t past (e ∷ past)) → runs_of g c (e ∷ past) ≡ runs_of g c past → SameCluster g c past (e ∷ past)
unfolding top linked
cluster-stays g c e past made same r =
    let k : ranking g c (e ∷ past) ≡ ranking g c past = ranking-same g c past (e ∷ past) same in
    let t : top g c (e ∷ past) ≡ top g c past = rw k in
    let l : links g c (e ∷ past) ≡ links g c past = links-stay g c e past made t r in
    record { ranking_same = k; top_same = t; runs_same = r; links_same = l; linked_same = λ q h. rw (h, l) }

pub cluster_stays : ClusterStays
cluster_stays g e past valid made c same r = cluster-stays g c e past (last_move g made).0 same r

-- ---- acts elsewhere

runs-map : (g : Group) (q : ℕ) (act : Act) (past : Past) (ps : List ℕ) → has q ps ≡ false → map (λ p. runs p (Acted (past_act g q act past) ∷ past)) ps ≡ map (λ p. runs p past) ps
runs-map g q act past [] h = refl
runs-map g q act past (p ∷ ps) h = by_case (q == p) refl h (runs-map g q act past ps)
  where
    by_case : (b : Bool) → q == p ≡ b → b || has q ps ≡ false → (has q ps ≡ false → map (λ r. runs r (Acted (past_act g q act past) ∷ past)) ps ≡ map (λ r. runs r past) ps) → runs p (Acted (past_act g q act past) ∷ past) ∷ map (λ r. runs r (Acted (past_act g q act past) ∷ past)) ps ≡ runs p past ∷ map (λ r. runs r past) ps
    by_case true e k rest = cc
    by_case false e k rest = let here : runs p (Acted (past_act g q act past) ∷ past) ≡ runs p past = rw (runs-acted, past_act-cpu, e) in ap (λ o. o ∷ map (λ r. runs r (Acted (past_act g q act past) ∷ past)) ps) here ∙ ap (λ os. runs p past ∷ os) (rest k)

pub runs-elsewhere : (g : Group) (c q : ℕ) (act : Act) (past : Past) → cluster_with g q == c ≡ false → runs_of g c (Acted (past_act g q act past) ∷ past) ≡ runs_of g c past
unfolding runs_of
runs-elsewhere g c q act past h = runs-map g q act past (processors g c) (unless (has q (processors g c)) (λ k. clash _ (rw (processor-home g c q k) (equal_self c)) h))

pub runs-clock : (g : Group) (c tick : ℕ) (past : Past) → runs_of g c (Clock tick ∷ past) ≡ runs_of g c past
unfolding runs_of runs
runs-clock g c tick past = refl

pub runs_stay : RunsStay
runs_stay g past valid made c = (λ tick. runs-clock g c tick past, λ q act h. runs-elsewhere g c q act past h)

pub other_clusters_stay : OtherClustersStay
other_clusters_stay g past valid made none c q act e = cluster-stays g c (Acted (past_act g q act past)) past made standing (runs-elsewhere g c q act past e.other_cluster)
  where
    -- a task of the cluster does not run there
    runs_not : (t : ℕ) → has t (tasks_of g c) ≡ true → is t (runs q past) ≡ false
    runs_not t h = unless _ (λ k. let at : cluster_with g q ≡ home g t = runs_at_home g past valid made q t (is-some t (runs q past) k) in clash _ (rw (at, (tasks_of-home g c t h).1) (equal_self c)) e.other_cluster)

    out : (t : ℕ) → has t (tasks_of g c) ≡ true → (b : Bool) → has t (if b then tasks_in (runs q past ∷ arriving act ∷ []) else []) ≡ false
    out t h true = rw (has-tasks_in t (runs q past) (arriving act ∷ []), runs_not t h, has-tasks_in t (arriving act) [], e.arrives_not t h)
    out t h false = refl

    standing : (t : ℕ) → has t (tasks_of g c) ≡ true → SameStanding g t past (Acted (past_act g q act past) ∷ past)
    standing t h = record { eligible_same = eligible_after_act g past valid made none q act t (out t h (accepted (answer g q act past))) (e.waits_same t h) (rw (tasks_of-home g c t h).1 e.srp_same); key_same = e.key_same t h }
