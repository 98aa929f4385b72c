-- Worked sets at the limits of the rules of range, each limit with the first number beyond it.
use Rattle.std.specs.Prelude.{◌≡◌, ℕ, ◌+◌, List, [], ◌∷◌, Option, replicate, refl}
use Rattle.rt_task.specs.declared.Cluster.{Cluster}
use Rattle.rt_task.specs.declared.Op.TheVariants as ops
use Rattle.rt_task.specs.declared.Parts.{Parts}
use Rattle.rt_task.specs.declared.PluginKind.TheVariants as plugins
use Rattle.rt_task.specs.declared.Resv.{Resv}
use Rattle.rt_task.specs.declared.ResvKind.TheVariants.{Polling}
use Rattle.rt_task.specs.declared.Slot.{Slot}
use Rattle.rt_task.specs.declared.Step.{Step}
use Rattle.rt_task.specs.declared.bad_set.BadSet.{BadSet}
use Rattle.rt_task.specs.declared.bad_set.Part.TheVariants as parts
use Rattle.rt_task.specs.declared.bad_set.SetKind.TheVariants as kinds
use Rattle.rt_model.specs.worked.Samples.{cluster_with, reservation, slot, table, periodic, with_body, with_prio, with_phase, in_cluster}
use Rattle.rt_model.specs.worked.Samples.{step_of, tick, sleep}
use Rattle.rt_laws.specs.worked.EdgeCases.{rules_computed}
use Rattle.rt_laws.specs.worked.RuleCases.{refusals, valid, refused, called, set_of, with_horizon, with_steps, with_second}
use Rattle.rt_laws.specs.worked.RuleCases.{with_second_resv}
use Rattle.rt_laws.specs.worked.RuleCases.{in_clusters}

-- the last number of a duration or a tick, and the first beyond
abbrev pub last_tick : ℕ
last_tick = 999999999999

abbrev pub beyond_ticks : ℕ
beyond_ticks = 1000000000000

-- ---- the whole: how many clusters, and the horizon

pub clusters-under-gsn-edf :
    refusals (in_clusters plugins.GsnEdf)
    ([] ∷ (cluster_with 1 0 ∷ []) ∷ (cluster_with 1 0 ∷ cluster_with 1 0 ∷ []) ∷ [])
    ≡ refused kinds.Range parts.Whole 0 ∷ valid ∷ refused kinds.Range parts.Whole 0 ∷ []
unfolding rules_computed
clusters-under-gsn-edf = refl

pub clusters-under-c-edf :
    refusals (in_clusters plugins.CEdf)
    ([] ∷ (cluster_with 1 0 ∷ []) ∷ (cluster_with 1 0 ∷ cluster_with 1 0 ∷ []) ∷ [])
    ≡ refused kinds.Range parts.Whole 0 ∷ valid ∷ valid ∷ []
unfolding rules_computed
clusters-under-c-edf = refl

pub horizon-ranges :
    refusals (λ h. with_horizon h (set_of plugins.GsnEdf (cluster_with 1 0 ∷ []) [] [] (
    called 97 (with_body (ops.Work ∷ ops.End ∷ []) (periodic 1 1 10 10)) ∷ [])))
    (0 ∷ 1 ∷ [])
    ≡ refused kinds.Range parts.Whole 0 ∷ valid ∷ []
unfolding rules_computed
horizon-ranges = refl

-- ---- clusters: how many processors, one where the plugin is partitioned, and groups

pub processors-of-a-cluster :
    refusals (λ n. in_clusters plugins.GsnEdf (cluster_with n 0 ∷ [])) (0 ∷ 1 ∷ 64 ∷ 65 ∷ [])
    ≡ refused kinds.Range parts.Cluster 0 ∷ valid ∷ valid ∷ refused kinds.Range parts.Cluster 0 ∷ []
unfolding rules_computed
processors-of-a-cluster = refl

pub two_processors-under :
    refusals (λ plugin. in_clusters plugin (cluster_with 2 0 ∷ [])) (plugins.GsnEdf ∷ plugins.CEdf ∷ plugins.PsnEdf ∷ plugins.PFp ∷ [])
    ≡ valid ∷ valid ∷ refused kinds.Range parts.Cluster 0 ∷ refused kinds.Range parts.Cluster 0 ∷ []
unfolding rules_computed
two_processors-under = refl

pub two_processors-under-p-res :
    refusals (λ n. set_of plugins.PRes (cluster_with 1 0 ∷ cluster_with n 0 ∷ []) [] [] []) (1 ∷ 2 ∷ [])
    ≡ valid ∷ refused kinds.Range parts.Cluster 1 ∷ []
unfolding rules_computed
two_processors-under-p-res = refl

abbrev pub one_each : List ℕ → List Cluster
one_each [] = []
one_each (g ∷ gs) = cluster_with 1 g ∷ one_each gs

-- a group is at most one more than the greatest before it, and need not be one more than the last
pub groups-of-clusters :
    refusals (λ gs. in_clusters plugins.PsnEdf (one_each gs))
    ((0 ∷ 0 ∷ []) ∷ (1 ∷ []) ∷ (0 ∷ 1 ∷ 0 ∷ 2 ∷ []) ∷ (0 ∷ 1 ∷ 0 ∷ 3 ∷ []) ∷ (0 ∷ 2 ∷ []) ∷ [])
    ≡ valid
    ∷ refused kinds.Range parts.Cluster 0
    ∷ valid
    ∷ refused kinds.Range parts.Cluster 3
    ∷ refused kinds.Range parts.Cluster 1
    ∷ []
unfolding rules_computed
groups-of-clusters = refl

-- ---- reservations

abbrev pub polling : Resv → Parts
polling r = with_second_resv (reservation Polling 1 10 1) r

pub period-of-a-reservation :
    refusals (λ n. polling (reservation Polling 1 n 1)) (0 ∷ 1 ∷ last_tick ∷ beyond_ticks ∷ [])
    ≡ refused kinds.Range parts.Resv 1 ∷ valid ∷ valid ∷ refused kinds.Range parts.Resv 1 ∷ []
unfolding rules_computed
period-of-a-reservation = refl

pub budget-of-a-reservation :
    refusals (λ n. polling (reservation Polling n 10 1)) (0 ∷ 1 ∷ 10 ∷ 11 ∷ [])
    ≡ refused kinds.Range parts.Resv 1 ∷ valid ∷ valid ∷ refused kinds.Range parts.Resv 1 ∷ []
unfolding rules_computed
budget-of-a-reservation = refl

pub priority-of-a-reservation :
    refusals (λ n. polling (reservation Polling 1 10 n)) (0 ∷ 1 ∷ 511 ∷ 512 ∷ [])
    ≡ refused kinds.Range parts.Resv 1 ∷ valid ∷ valid ∷ refused kinds.Range parts.Resv 1 ∷ []
unfolding rules_computed
priority-of-a-reservation = refl

pub cluster-of-a-reservation :
    refusals (λ n. polling (record (reservation Polling 1 10 1) { cluster = record { 0 = n } })) (0 ∷ 1 ∷ [])
    ≡ valid ∷ refused kinds.Range parts.Resv 1 ∷ []
unfolding rules_computed
cluster-of-a-reservation = refl

-- ---- tables

-- a table whose slots begin at tick 10 or later, beside one with a slot before it
abbrev pub beside_table : List Slot → Parts
beside_table slots = with_second_resv (table 1000 1 (slot 0 1 ∷ [])) (table 1000 1 slots)

-- each slot has a tick, begins where the one before has ended or later, and ends with the cycle
pub slots-in-order :
    refusals beside_table
    ((slot 10 11 ∷ slot 11 12 ∷ [])
    ∷ (slot 10 12 ∷ slot 11 13 ∷ [])
    ∷ (slot 20 21 ∷ slot 10 11 ∷ [])
    ∷ (slot 10 11 ∷ slot 20 20 ∷ [])
    ∷ (slot 999 1000 ∷ [])
    ∷ (slot 999 1001 ∷ [])
    ∷ [])
    ≡ valid
    ∷ refused kinds.Range parts.Resv 1
    ∷ refused kinds.Range parts.Resv 1
    ∷ refused kinds.Range parts.Resv 1
    ∷ valid
    ∷ refused kinds.Range parts.Resv 1
    ∷ []
unfolding rules_computed
slots-in-order = refl

-- so many slots of one tick each, one behind another
abbrev pub slots_from : ℕ → List ℕ → List Slot
slots_from start [] = []
slots_from start (x ∷ xs) = slot start (start + 1) ∷ slots_from (start + 1) xs

pub slots-of-a-table :
    refusals (λ n. beside_table (slots_from 10 (replicate n 0))) (1 ∷ 64 ∷ 65 ∷ [])
    ≡ valid ∷ valid ∷ refused kinds.Range parts.Resv 1 ∷ []
unfolding rules_computed
slots-of-a-table = refl

-- the budget is the length of the slots
pub budget-of-a-table :
    refusals (λ n. with_second_resv (table 10 1 (slot 0 1 ∷ [])) (record (table 10 1 (slot 2 4 ∷ slot 5 6 ∷ [])) { budget = n }))
    (2 ∷ 3 ∷ 4 ∷ [])
    ≡ refused kinds.Range parts.Resv 1 ∷ valid ∷ refused kinds.Range parts.Resv 1 ∷ []
unfolding rules_computed
budget-of-a-table = refl

-- ---- tasks

abbrev pub span_refusals : List (Option BadSet)
span_refusals = refused kinds.Range parts.Task 1 ∷ valid ∷ valid ∷ refused kinds.Range parts.Task 1 ∷ []

abbrev pub spans : List ℕ
spans = 0 ∷ 1 ∷ last_tick ∷ beyond_ticks ∷ []

pub cost-of-a-task : refusals (λ n. with_second (periodic 2 n 10 10)) spans ≡ span_refusals
unfolding rules_computed
cost-of-a-task = refl

pub period-of-a-task : refusals (λ n. with_second (periodic 2 1 n 10)) spans ≡ span_refusals
unfolding rules_computed
period-of-a-task = refl

pub deadline-of-a-task : refusals (λ n. with_second (periodic 2 1 10 n)) spans ≡ span_refusals
unfolding rules_computed
deadline-of-a-task = refl

pub sleep-in-a-body :
    refusals (λ n. with_second (with_body (ops.Sleep n ∷ ops.End ∷ []) (periodic 2 1 10 10))) spans ≡ span_refusals
unfolding rules_computed
sleep-in-a-body = refl

pub phase-of-a-task :
    refusals (λ n. with_second (with_phase n (periodic 2 1 10 10))) (0 ∷ last_tick ∷ beyond_ticks ∷ [])
    ≡ valid ∷ valid ∷ refused kinds.Range parts.Task 1 ∷ []
unfolding rules_computed
phase-of-a-task = refl

pub priority-of-a-task :
    refusals (λ n. with_second (with_prio n (periodic 2 1 10 10))) (0 ∷ 1 ∷ 511 ∷ 512 ∷ [])
    ≡ refused kinds.Range parts.Task 1 ∷ valid ∷ valid ∷ refused kinds.Range parts.Task 1 ∷ []
unfolding rules_computed
priority-of-a-task = refl

pub cluster-of-a-task :
    refusals (λ n. with_second (in_cluster n (periodic 2 1 10 10))) (0 ∷ 1 ∷ [])
    ≡ valid ∷ refused kinds.Range parts.Task 1 ∷ []
unfolding rules_computed
cluster-of-a-task = refl

-- ---- steps, of clusters of two and of three processors

abbrev pub stepped : Step → Parts
stepped s = with_steps (step_of 0 0 tick ∷ s ∷ []) (in_clusters plugins.CEdf (cluster_with 2 0 ∷ cluster_with 3 0 ∷ []))

pub processor-of-a-step :
    refusals (λ n. stepped (step_of n 0 tick)) (0 ∷ 4 ∷ 5 ∷ [])
    ≡ valid ∷ valid ∷ refused kinds.Range parts.Step 1 ∷ []
unfolding rules_computed
processor-of-a-step = refl

pub tick-of-a-step :
    refusals (λ n. stepped (step_of 0 n tick)) (0 ∷ last_tick ∷ beyond_ticks ∷ [])
    ≡ valid ∷ valid ∷ refused kinds.Range parts.Step 1 ∷ []
unfolding rules_computed
tick-of-a-step = refl

pub sleep-of-a-step :
    refusals (λ n. stepped (step_of 0 0 (sleep n))) spans
    ≡ refused kinds.Range parts.Step 1 ∷ valid ∷ valid ∷ refused kinds.Range parts.Step 1 ∷ []
unfolding rules_computed
sleep-of-a-step = refl
