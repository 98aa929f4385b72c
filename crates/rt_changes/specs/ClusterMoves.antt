-- A cluster after a move, without looking at tasks that the move does not change.
use Rattle.std.specs.Prelude.{◌≡◌, ℕ, true, false, ◌==◌, filter, List, ◌∷◌, Option}
use Rattle.rt_rules.specs.declared.Key.{Key}
use Rattle.rt_task.specs.declared.Act.{Act}
use Rattle.rt_task.specs.RuleWords.{is_p_res}
use Rattle.rt_task.specs.Validity.{IsValid}
use Rattle.rt_rules.specs.Numbers.{has, is}
use Rattle.rt_rules.specs.SemState.{Neither}
use Rattle.rt_model.specs.EffectiveKeys.{effective_key}
use Rattle.rt_model.specs.Group.{Group, clients, cluster_with, home, resv, served_by, tasks, tasks_of}
use Rattle.rt_model.specs.Outcomes.{past_act}
use Rattle.rt_model.specs.Past.{Clock, Acted, Past, sem_act}
use Rattle.rt_model.specs.Reservations.{is_refill, refilled}
use Rattle.rt_changes.specs.Served.{StaysInSlot}
use Rattle.rt_model.specs.Tops.{eligible, ranking}
use Rattle.rt_laws.specs.EveryPast.{EveryPast}
use Rattle.rt_changes.specs.Clusters.{HoldsEligible, SameCluster, SameStanding}
use Rattle.ready_queue.specs.ReadySet.{set_refreshed}
use Rattle.ready_queue.specs.Refreshed.{refreshed}
use Rattle.rt_changes.specs.Served.{SameReservation}
use Rattle.rt_changes.specs.Touched.{arriving, comes_due}

-- those of the tasks that are of the cluster
abbrev pub of_cluster : Group → ℕ → List ℕ → List ℕ
of_cluster g c changed = filter (λ t. has t (tasks_of g c)) changed

-- the standing of each task of the cluster is the same but for the changed ones
abbrev pub SameBut : Group → ℕ → List ℕ → Past → Past → Type 0
SameBut g c changed past past' = (t : ℕ) → has t (tasks_of g c) ≡ true → has t changed ≡ false → SameStanding g t past past'

-- The ranking of a cluster after a move: its changed tasks taken out, and put back where they are eligible now.
abbrev pub RankingAfterMove : Type 0
RankingAfterMove =
    (g : Group) (c : ℕ) (changed : List ℕ) (past past' : Past) → SameBut g c changed past past'
    → ranking g c past' ≡ refreshed (λ t. effective_key g t past') (λ t. eligible g t past') (of_cluster g c changed) (ranking g c past)

-- The same of a set that holds just its eligible tasks.
abbrev pub SetAfterMove : Type 0
SetAfterMove =
    (g : Group) (c : ℕ) (changed : List ℕ) (past past' : Past) (keys : List (Option Key)) → SameBut g c changed past past'
    → HoldsEligible g c past keys
    → HoldsEligible g c past' (set_refreshed (λ t. effective_key g t past') (λ t. eligible g t past') (of_cluster g c changed) keys)

-- an act is of another cluster, and no task of this one arrives by it
pub record IsBeside (g : Group) (c q : ℕ) (act : Act) : Type 0 where
  pub other_cluster : cluster_with g q == c ≡ false
  pub arrives_not : (t : ℕ) → has t (tasks_of g c) ≡ true → is t (arriving act) ≡ false

-- Without reservations such an act leaves the cluster where it does nothing at semaphores.
abbrev pub ClusterAfterQuietAct : Type 0
ClusterAfterQuietAct =
    EveryPast (λ g past. is_p_res g.setup.plugin ≡ false → (c q : ℕ) (act : Act)
    → sem_act (Acted (past_act g q act past)) ≡ Neither → IsBeside g c q act
    → SameCluster g c past (Acted (past_act g q act past) ∷ past))

-- Without reservations a move of the clock leaves a cluster of which no task comes due.
abbrev pub ClusterAfterClock : Type 0
ClusterAfterClock =
    EveryPast (λ g past. is_p_res g.setup.plugin ≡ false → (c tick : ℕ) → ((t : ℕ) → has t (tasks_of g c) ≡ true
    → comes_due g tick t past ≡ false) → SameCluster g c past (Clock tick ∷ past))

-- ---- under P-RES

-- A task whose reservation is the same has the same standing.
abbrev pub StandingIsServed : Type 0
StandingIsServed =
    (g : Group) → IsValid g.setup → is_p_res g.setup.plugin ≡ true → (t : ℕ) (past past' : Past)
    → SameReservation g (served_by g t) past past' → SameStanding g t past past'

-- The clients of a reservation are of one cluster.
abbrev pub ClientsShareHome : Type 0
ClientsShareHome =
    (g : Group) → IsValid g.setup → is_p_res g.setup.plugin ≡ true → (t u : ℕ) → has t (tasks g) ≡ true → has u (tasks g) ≡ true
    → served_by g t ≡ served_by g u → home g t ≡ home g u

-- An act of another cluster leaves a cluster of which no task arrives.
abbrev pub ReservedAfterAct : Type 0
ReservedAfterAct =
    EveryPast (λ g past. is_p_res g.setup.plugin ≡ true → (c q : ℕ) (act : Act) → IsBeside g c q act
    → SameCluster g c past (Acted (past_act g q act past) ∷ past))

-- no client of a task's reservation comes due, and the reservation is neither refilled nor moved in its slots
pub record IsUndisturbed (g : Group) (tick t : ℕ) (past : Past) : Type 0 where
  pub clients_still : (u : ℕ) → has u (clients g (served_by g t)) ≡ true → comes_due g tick u past ≡ false
  pub no_refill : is_refill g (resv g (served_by g t)).kind (served_by g t) (Clock tick) past (refilled g (served_by g t) past) ≡ false
  pub same_slot : StaysInSlot g tick (served_by g t) past

-- A move of the clock leaves a cluster of which it disturbs no reservation.
abbrev pub ReservedAfterClock : Type 0
ReservedAfterClock =
    EveryPast (λ g past. is_p_res g.setup.plugin ≡ true → (c tick : ℕ) → ((t : ℕ) → has t (tasks_of g c) ≡ true
    → IsUndisturbed g tick t past) → SameCluster g c past (Clock tick ∷ past))
