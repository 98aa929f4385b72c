-- Clusters after a move: few tasks are brought up to date, and none where nothing of the cluster changes.
use Rattle.std.proofs.Common.{◌≡◌, ℕ, Bool, true, false, eqb-true, List, [], ◌∷◌, refl, sym, ◌∙◌}
use Rattle.std.specs.Prelude.{if◌then◌else◌}
use Rattle.rt_task.specs.declared.Act.{Act}
use Rattle.rt_task.specs.Validity.{IsValid}
use Rattle.rt_rules.specs.Numbers.{has, is}
use Rattle.rt_rules.specs.Placing.{tasks_in}
use Rattle.rt_rules.proofs.BoolLaws.{both, clash, unless}
use Rattle.rt_rules.proofs.MemberLaws.{equal_self, has-filter, is-some}
use Rattle.rt_rules.proofs.PlacingLaws.{has-tasks_in}
use Rattle.rt_model.specs.Answers.{answer}
use Rattle.rt_model.specs.Group.{Group, clients, cluster_with, home, served_by, tasks, tasks_of}
use Rattle.rt_model.specs.Reachable.{IsReachable}
use Rattle.rt_model.specs.Outcomes.{past_act}
use Rattle.rt_model.specs.Past.{Clock, Acted, Past, accepted}
use Rattle.rt_model.specs.Runs.{runs}
use Rattle.rt_laws.proofs.GroupLaws.{home-tasks_of, tasks_of-home}
use Rattle.rt_laws.proofs.links.Links.{runs_at_home}
use Rattle.rt_changes.specs.ClusterMoves.{of_cluster, SameBut, RankingAfterMove, SetAfterMove, IsBeside, ClusterAfterQuietAct, ClusterAfterClock, StandingIsServed, ReservedAfterAct, ReservedAfterClock}
use Rattle.rt_changes.specs.Clusters.{AgreeInCluster}
use Rattle.rt_changes.specs.Touched.{arriving, touched_by}
use Rattle.rt_changes.proofs.rankings.ClientHomes.{clients_share_home}
use Rattle.rt_changes.proofs.rankings.QuietMoves.{standing_after_act, standing_after_clock}
use Rattle.ready_queue.proofs.ReadySets.{set_is_refreshed}
use Rattle.rt_changes.proofs.rankings.SameClusters.{cluster-stays, ranking_is_kept, runs-clock, runs-elsewhere}
use Rattle.rt_changes.proofs.rankings.SameReservations.{reservations_after_act, reservations_after_clock}
use Rattle.rt_changes.proofs.rankings.ServedClients.{eligible-served, key-fixed}

-- ---- few tasks are brought up to date

agree : (g : Group) (c : ℕ) (changed : List ℕ) (past past' : Past) → SameBut g c changed past past' → AgreeInCluster g c (of_cluster g c changed) past past'
agree g c changed past past' same = record {
  inside = λ t h. (both _ _ (rw has-filter at h)).1;
  tests = λ t h k. sym (same t h (outside t h k)).eligible_same;
  keys = λ t h k e. sym ((same t h (outside t h k)).key_same e);
}
  where
    outside : (t : ℕ) → has t (tasks_of g c) ≡ true → has t (of_cluster g c changed) ≡ false → has t changed ≡ false
    outside t h k = unless _ (λ m. clash _ (rw (has-filter (λ u. has u (tasks_of g c)) t changed, m) h) k)

pub ranking_after_move : RankingAfterMove
ranking_after_move g c changed past past' same = ranking_is_kept g c (of_cluster g c changed) past past' (agree g c changed past past' same)

pub set_after_move : SetAfterMove
set_after_move g c changed past past' keys same holds = set_is_refreshed (of_cluster g c changed) (tasks_of g c) _ _ _ _ keys (agree g c changed past past' same) holds

-- ---- none is

-- a task of the cluster is not touched
beside-untouched : (g : Group) (past : Past) → IsValid g.setup → IsReachable g past → (c q : ℕ) (act : Act) → IsBeside g c q act → (t : ℕ) → has t (tasks_of g c) ≡ true → has t (touched_by g q act past) ≡ false
beside-untouched g past valid made c q act b t h = out (accepted (answer g q act past))
  where
    runs_not : is t (runs q past) ≡ false
    runs_not = unless _ (λ k. let at : cluster_with g q ≡ home g t = runs_at_home g past valid made q t (is-some t (runs q past) k) in clash _ (rw (at, (tasks_of-home g c t h).1) (equal_self c)) b.other_cluster)

    out : (a : Bool) → has t (if a then tasks_in (runs q past ∷ arriving act ∷ []) else []) ≡ false
    out true = rw (has-tasks_in t (runs q past) (arriving act ∷ []), runs_not, has-tasks_in t (arriving act) [], b.arrives_not t h)
    out false = refl

pub cluster_after_quiet_act : ClusterAfterQuietAct
cluster_after_quiet_act g past valid made none c q act quiet b =
    cluster-stays g c (Acted (past_act g q act past)) past made
    (λ t h. standing_after_act g past valid made none q act quiet t (beside-untouched g past valid made c q act b t h))
    (runs-elsewhere g c q act past b.other_cluster)

pub cluster_after_clock : ClusterAfterClock
cluster_after_clock g past valid made none c tick still = cluster-stays g c (Clock tick) past made (λ t h. standing_after_clock g past valid made none tick t (still t h)) (runs-clock g c tick past)

-- ---- under P-RES

pub standing_is_served : StandingIsServed
standing_is_served g valid res t past past' s = record {
  eligible_same = rw (eligible-served g valid res t past, eligible-served g valid res t past', s.left_same, s.front_same);
  key_same = λ e. key-fixed g valid res t past' ∙ sym (key-fixed g valid res t past);
}

client-of : (g : Group) (r t : ℕ) → has t (clients g r) ≡ true → (has t (tasks g) ≡ true) × (served_by g t ≡ r)
unfolding clients
client-of g r t h = let q = both _ _ (rw has-filter at h) in (q.0, eqb-true (served_by g t) r q.1)

pub reserved_after_act : ReservedAfterAct
reserved_after_act g past valid made res c q act b =
    cluster-stays g c (Acted (past_act g q act past)) past made
    (λ t h. standing_is_served g valid res t past (Acted (past_act g q act past) ∷ past) (reservations_after_act g past valid made q act (served_by g t) (λ u k. beside-untouched g past valid made c q act b u (at_home t u h k))))
    (runs-elsewhere g c q act past b.other_cluster)
  where
    -- the clients of the task's reservation are of its cluster
    at_home : (t u : ℕ) → has t (tasks_of g c) ≡ true → has u (clients g (served_by g t)) ≡ true → has u (tasks_of g c) ≡ true
    at_home t u h k =
        let m = tasks_of-home g c t h in
        let n = client-of g (served_by g t) u k in
        let same : home g u ≡ c = clients_share_home g valid res u t n.0 m.0 n.1 ∙ m.1 in
        rw same at (home-tasks_of g u n.0)

pub reserved_after_clock : ReservedAfterClock
reserved_after_clock g past valid made res c tick still =
    cluster-stays g c (Clock tick) past made
    (λ t h. let s = still t h in standing_is_served g valid res t past (Clock tick ∷ past) (reservations_after_clock g past valid made tick (served_by g t) s.clients_still s.no_refill s.same_slot))
    (runs-clock g c tick past)
