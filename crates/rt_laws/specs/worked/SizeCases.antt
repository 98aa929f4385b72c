-- Worked sets at the limits of sizes, each limit with the first number beyond it.
use Rattle.std.specs.Prelude.{◌≡◌, ℕ, true, false, nat_le, List, [], ◌∷◌, ◌++◌, length, map, replicate, refl}
use Rattle.rt_task.specs.declared.Op.{Op}
use Rattle.rt_task.specs.declared.Op.TheVariants as ops
use Rattle.rt_task.specs.declared.PluginKind.TheVariants as plugins
use Rattle.rt_task.specs.declared.Protocol.TheVariants.{Fmlp}
use Rattle.rt_task.specs.declared.ResvKind.TheVariants.{Polling}
use Rattle.rt_task.specs.declared.bad_set.Part.TheVariants as parts
use Rattle.rt_task.specs.declared.bad_set.SetKind.TheVariants as kinds
use Rattle.rt_task.specs.declared.draft.Draft.{Draft}
use Rattle.rt_task.specs.declared.draft.DraftDrive.TheVariants.{Steps}
use Rattle.rt_task.specs.declared.draft.DraftStep.{DraftStep}
use Rattle.rt_task.specs.Draft.{draft_of, draft_cluster, draft_resv, draft_task}
use Rattle.rt_task.specs.SizeRules.{horizon_fits, whole_size}
use Rattle.rt_model.specs.worked.Samples.{cluster_with, sem_under, reservation, periodic, with_body}
use Rattle.rt_laws.specs.worked.EdgeCases.{rules_computed}
use Rattle.rt_laws.specs.worked.RuleCases.{refusals, valid, refused, called, set_of, with_horizon, with_second, in_clusters}

-- ---- processors: 64 in all

pub processors-in-all :
    refusals (λ n. in_clusters plugins.CEdf (cluster_with 32 0 ∷ cluster_with n 0 ∷ [])) (32 ∷ 33 ∷ [])
    ≡ valid ∷ refused kinds.Size parts.Whole 0 ∷ []
unfolding rules_computed
processors-in-all = refl

-- ---- how many of each: these sets are long, so that only this rule is asked of them

abbrev pub small : Draft
small = draft_of (in_clusters plugins.GsnEdf (cluster_with 1 0 ∷ []))

pub clusters-in-all :
    map (λ n. whole_size (record small { clusters = replicate n (draft_cluster (cluster_with 0 0)) })) (64 ∷ 65 ∷ []) ≡ true ∷ false ∷ []
unfolding rules_computed
clusters-in-all = refl

pub tasks-in-all :
    map (λ n. whole_size (record small { tasks = replicate n (draft_task (periodic 1 1 10 10) []) })) (1024 ∷ 1025 ∷ []) ≡ true ∷ false ∷ []
unfolding rules_computed
tasks-in-all = refl

pub semaphores-in-all :
    map (λ n. whole_size (record small { sems = replicate n (sem_under Fmlp) })) (256 ∷ 257 ∷ []) ≡ true ∷ false ∷ []
unfolding rules_computed
semaphores-in-all = refl

pub reservations-in-all :
    map (λ n. whole_size (record small { resvs = replicate n (draft_resv (reservation Polling 1 10 1)) })) (64 ∷ 65 ∷ []) ≡ true ∷ false ∷ []
unfolding rules_computed
reservations-in-all = refl

-- any list of steps, by its length
pub steps-in-all : (d : Draft) → (steps : List DraftStep) → horizon_fits d (Steps steps) ≡ nat_le (length steps) 1000000
steps-in-all d steps = refl

-- ---- a horizon: 18 steps for each turn of each processor, so that 3 processors have 18,518 turns

pub turns-in-all :
    refusals (λ h. with_horizon h (set_of plugins.GsnEdf (cluster_with 3 0 ∷ []) [] [] (
    called 97 (with_body (ops.Work ∷ ops.End ∷ []) (periodic 1 1 10 10)) ∷ [])))
    (18518 ∷ 18519 ∷ [])
    ≡ valid ∷ refused kinds.Size parts.Whole 0 ∷ []
unfolding rules_computed
turns-in-all = refl

-- ---- bodies: 1,000 operations, each unit of work and the end counted

abbrev pub long_body : ℕ → List Op
long_body units = ops.NpOn ∷ replicate units ops.Work ++ ops.NpOff ∷ ops.End ∷ []

pub operations-of-a-body :
    refusals (λ n. with_second (with_body (long_body n) (periodic 2 1 10 10))) (997 ∷ 998 ∷ [])
    ≡ valid ∷ refused kinds.Size parts.Task 1 ∷ []
unfolding rules_computed
operations-of-a-body = refl
