-- What stays as it is where few tasks of a cluster change: its ranking, its top and its links.
use Rattle.std.specs.Prelude.{◌≡◌, ℕ, true, false, ◌==◌, List, ◌∷◌, Option}
use Rattle.rt_rules.specs.declared.Key.{Key}
use Rattle.rt_task.specs.declared.Act.{Act}
use Rattle.rt_task.specs.RuleWords.{is_p_res}
use Rattle.rt_rules.specs.Numbers.{has, is}
use Rattle.rt_rules.specs.Placing.{placed}
use Rattle.rt_model.specs.EffectiveKeys.{effective_key}
use Rattle.rt_model.specs.Group.{Group, cpus, cluster_with, tasks_of}
use Rattle.rt_model.specs.Holders.{awaits}
use Rattle.rt_model.specs.Links.{runs_of, links, linked}
use Rattle.rt_model.specs.Outcomes.{past_act}
use Rattle.rt_model.specs.Past.{Clock, Acted, Past}
use Rattle.rt_model.specs.StackPolicy.{srp}
use Rattle.rt_model.specs.Tops.{eligible, ranking, top}
use Rattle.rt_laws.specs.EveryPast.{EveryPast, EveryMove}
use Rattle.ready_queue.specs.Refreshed.{AgreeBut, refreshed}
use Rattle.ready_queue.specs.ReadySet.{HoldsJust, AreTaken}
use Rattle.rt_changes.specs.Touched.{arriving}

-- in two pasts the eligibility of a cluster's tasks, and the keys of the eligible ones, agree outside the touched tasks
abbrev pub AgreeInCluster : Group → ℕ → List ℕ → Past → Past → Type 0
AgreeInCluster g c touched past past' =
    AgreeBut touched (tasks_of g c) (λ t. effective_key g t past) (λ t. effective_key g t past')
    (λ t. eligible g t past) (λ t. eligible g t past')

-- The ranking of a cluster is kept by taking out the touched tasks and putting back those that are eligible now.
abbrev pub RankingIsKept : Type 0
RankingIsKept =
    (g : Group) (c : ℕ) (touched : List ℕ) (past past' : Past) → AgreeInCluster g c touched past past'
    → ranking g c past' ≡ refreshed (λ t. effective_key g t past') (λ t. eligible g t past') touched (ranking g c past)

-- a set that holds just the eligible tasks of a cluster, with their effective keys
abbrev pub HoldsEligible : Group → ℕ → Past → List (Option Key) → Type 0
HoldsEligible g c past keys = HoldsJust (tasks_of g c) (λ t. effective_key g t past) (λ t. eligible g t past) keys

-- The tasks that are taken out of such a set as its first, as many as the cluster has processors, are its top.
abbrev pub TopIsTaken : Type 0
TopIsTaken =
    (g : Group) (c : ℕ) (past : Past) (keys : List (Option Key)) (us : List ℕ) → HoldsEligible g c past keys
    → AreTaken (cpus g c) keys us → us ≡ top g c past

-- Placing again changes no link.
abbrev pub LinksSettle : Type 0
LinksSettle = EveryPast (λ g past. (c : ℕ) → placed (top g c past) (runs_of g c past) (links g c past) ≡ links g c past)

-- A move that leaves the top and what runs in a cluster leaves its links.
abbrev pub LinksStay : Type 0
LinksStay =
    EveryMove (λ g e past. (c : ℕ) → top g c (e ∷ past) ≡ top g c past → runs_of g c (e ∷ past) ≡ runs_of g c past
    → links g c (e ∷ past) ≡ links g c past)

-- a cluster is the same in two pasts
pub record SameCluster (g : Group) (c : ℕ) (past past' : Past) : Type 0 where
  pub ranking_same : ranking g c past' ≡ ranking g c past
  pub top_same : top g c past' ≡ top g c past
  pub runs_same : runs_of g c past' ≡ runs_of g c past
  pub links_same : links g c past' ≡ links g c past
  pub linked_same : (q : ℕ) → cluster_with g q ≡ c → linked g q past' ≡ linked g q past

-- a task is eligible or not as before, and where it is its key is the same
pub record SameStanding (g : Group) (t : ℕ) (past past' : Past) : Type 0 where
  pub eligible_same : eligible g t past' ≡ eligible g t past
  pub key_same : eligible g t past ≡ true → effective_key g t past' ≡ effective_key g t past

-- A move that leaves each task of a cluster and what runs there leaves the cluster.
abbrev pub ClusterStays : Type 0
ClusterStays =
    EveryMove (λ g e past. (c : ℕ) → ((t : ℕ) → has t (tasks_of g c) ≡ true → SameStanding g t past (e ∷ past))
    → runs_of g c (e ∷ past) ≡ runs_of g c past → SameCluster g c past (e ∷ past))

-- What runs in a cluster is changed by acts of its own processors alone.
abbrev pub RunsStay : Type 0
RunsStay =
    EveryPast (λ g past. (c : ℕ) → ((tick : ℕ) → runs_of g c (Clock tick ∷ past) ≡ runs_of g c past) × ((q : ℕ) (act : Act)
    → cluster_with g q == c ≡ false → runs_of g c (Acted (past_act g q act past) ∷ past) ≡ runs_of g c past))

-- an act leaves what each task of a cluster waits for, what is held there of SRP, and the keys of the eligible ones, and none of them
-- arrives
pub record IsElsewhere (g : Group) (c q : ℕ) (act : Act) (past : Past) : Type 0 where
  pub other_cluster : cluster_with g q == c ≡ false
  pub arrives_not : (t : ℕ) → has t (tasks_of g c) ≡ true → is t (arriving act) ≡ false
  pub waits_same : (t : ℕ) → has t (tasks_of g c) ≡ true → awaits g t (Acted (past_act g q act past) ∷ past) ≡ awaits g t past
  pub srp_same : srp g c (Acted (past_act g q act past) ∷ past) ≡ srp g c past
  pub key_same : (t : ℕ) → has t (tasks_of g c) ≡ true → eligible g t past ≡ true
      → effective_key g t (Acted (past_act g q act past) ∷ past) ≡ effective_key g t past

-- Without reservations such an act leaves the cluster.
abbrev pub OtherClustersStay : Type 0
OtherClustersStay =
    EveryPast (λ g past. is_p_res g.setup.plugin ≡ false → (c q : ℕ) (act : Act) → IsElsewhere g c q act past
    → SameCluster g c past (Acted (past_act g q act past) ∷ past))
