-- Worked sets at the limits of the rules of shape, and of two faults the one of the earlier rule.
use Rattle.std.specs.Prelude.{◌≡◌, List, [], ◌∷◌, refl}
use Rattle.rt_task.specs.declared.Op.{Op}
use Rattle.rt_task.specs.declared.Op.TheVariants as ops
use Rattle.rt_task.specs.declared.PluginKind.TheVariants as plugins
use Rattle.rt_task.specs.declared.Protocol.TheVariants.{Pcp}
use Rattle.rt_task.specs.declared.ResvKind.TheVariants.{Polling, Sporadic}
use Rattle.rt_task.specs.declared.bad_set.Part.TheVariants as parts
use Rattle.rt_task.specs.declared.bad_set.SetKind.TheVariants as kinds
use Rattle.rt_model.specs.worked.Samples.{cluster_with, sem_under, reservation, slot, periodic, sporadic, with_body}
use Rattle.rt_model.specs.worked.Samples.{step_of, arrive, tick}
use Rattle.rt_laws.specs.worked.EdgeCases.{rules_computed}
use Rattle.rt_laws.specs.worked.RuleCases.{refusals, valid, refused, called, sem_called, resv_called, set_of, with_horizon, with_steps}
use Rattle.rt_laws.specs.worked.RuleCases.{with_second}
use Rattle.rt_laws.specs.worked.RuleCases.{with_second_resv}

-- ---- slots stand with tables alone

pub slots-refusals :
    refusals (with_second_resv (reservation Polling 1 10 1))
    (reservation Polling 1 10 1
    ∷ record (reservation Polling 1 10 1) { slots = slot 5 6 ∷ [] }
    ∷ reservation Sporadic 1 10 1
    ∷ record (reservation Sporadic 1 10 1) { slots = slot 5 6 ∷ [] }
    ∷ [])
    ≡ valid ∷ refused kinds.Shape parts.Resv 1 ∷ valid ∷ refused kinds.Shape parts.Resv 1 ∷ []
unfolding rules_computed
slots-refusals = refl

-- ---- in a body run each task is periodic and has a body; in a set with steps neither has to be

abbrev pub short_body : List Op
short_body = ops.Work ∷ ops.End ∷ []

pub horizon-refusals :
    refusals (λ t. with_horizon 5 (set_of plugins.GsnEdf (cluster_with 1 0 ∷ []) [] [] (
    called 97 (with_body short_body (periodic 1 1 10 10)) ∷
    called 98 t ∷
    [])))
    (with_body short_body (periodic 2 1 10 10)
    ∷ periodic 2 1 10 10
    ∷ with_body short_body (sporadic 2 1 10 10)
    ∷ sporadic 2 1 10 10
    ∷ [])
    ≡ valid ∷ refused kinds.Shape parts.Task 1 ∷ refused kinds.Shape parts.Task 1 ∷ refused kinds.Shape parts.Task 1 ∷ []
unfolding rules_computed
horizon-refusals = refl

pub steps-refusals :
    refusals with_second
    (with_body short_body (periodic 2 1 10 10)
    ∷ periodic 2 1 10 10
    ∷ with_body short_body (sporadic 2 1 10 10)
    ∷ sporadic 2 1 10 10
    ∷ [])
    ≡ valid ∷ valid ∷ valid ∷ valid ∷ []
unfolding rules_computed
steps-refusals = refl

-- ---- of several faults the first, by kind, then by part, then by index

-- each set but the last has the fault of that behind it too
pub kinds-refusals :
    refusals (λ p. p)
    (with_horizon 60000 (set_of plugins.PFp (cluster_with 1 1 ∷ []) (sem_under Pcp ∷ []) [] (periodic 1 1 10 10 ∷ []))
    ∷ with_horizon 60000 (set_of plugins.PFp (cluster_with 1 1 ∷ []) (sem_under Pcp ∷ []) [] (
    with_body short_body (periodic 1 1 10 10) ∷ []))
    ∷ with_horizon 60000 (set_of plugins.GsnEdf (cluster_with 1 0 ∷ []) (sem_under Pcp ∷ []) [] (
    with_body short_body (periodic 1 1 10 10) ∷ []))
    ∷ with_horizon 60000 (set_of plugins.GsnEdf (cluster_with 1 0 ∷ []) (sem_called 115 (sem_under Pcp) ∷ []) [] (
    called 97 (with_body short_body (periodic 1 1 10 10)) ∷ []))
    ∷ with_horizon 60000 (set_of plugins.PFp (cluster_with 1 0 ∷ []) (sem_called 115 (sem_under Pcp) ∷ []) [] (
    called 97 (with_body short_body (periodic 1 1 10 10)) ∷ []))
    ∷ with_horizon 50000 (set_of plugins.PFp (cluster_with 1 0 ∷ []) (sem_called 115 (sem_under Pcp) ∷ []) [] (
    called 97 (with_body short_body (periodic 1 1 10 10)) ∷ []))
    ∷ [])
    ≡ refused kinds.Shape parts.Task 0
    ∷ refused kinds.Range parts.Cluster 0
    ∷ refused kinds.Name parts.Sem 0
    ∷ refused kinds.Sharing parts.Sem 0
    ∷ refused kinds.Size parts.Whole 0
    ∷ valid
    ∷ []
unfolding rules_computed
kinds-refusals = refl

-- of the ranges: the whole, clusters, reservations, tasks, steps
pub ranges-refusals :
    refusals (λ p. p)
    (with_steps (step_of 9 0 tick ∷ []) (set_of plugins.GsnEdf [] [] (reservation Polling 0 10 1 ∷ []) (periodic 1 0 10 10 ∷ []))
    ∷ with_steps (step_of 9 0 tick ∷ []) (
    set_of plugins.GsnEdf (cluster_with 0 0 ∷ []) [] (reservation Polling 0 10 1 ∷ []) (periodic 1 0 10 10 ∷ []))
    ∷ with_steps (step_of 9 0 tick ∷ []) (
    set_of plugins.GsnEdf (cluster_with 1 0 ∷ []) [] (reservation Polling 0 10 1 ∷ []) (periodic 1 0 10 10 ∷ []))
    ∷ with_steps (step_of 9 0 tick ∷ []) (
    set_of plugins.GsnEdf (cluster_with 1 0 ∷ []) [] (reservation Polling 1 10 1 ∷ []) (periodic 1 0 10 10 ∷ []))
    ∷ with_steps (step_of 9 0 tick ∷ []) (
    set_of plugins.GsnEdf (cluster_with 1 0 ∷ []) [] (reservation Polling 1 10 1 ∷ []) (periodic 1 1 10 10 ∷ []))
    ∷ [])
    ≡ refused kinds.Range parts.Whole 0
    ∷ refused kinds.Range parts.Cluster 0
    ∷ refused kinds.Range parts.Resv 0
    ∷ refused kinds.Range parts.Task 0
    ∷ refused kinds.Range parts.Step 0
    ∷ []
unfolding rules_computed
ranges-refusals = refl

-- of the names: semaphores, reservations, tasks, steps
pub names-refusals :
    refusals (λ p. with_steps (step_of 0 0 (arrive 9) ∷ []) p)
    (set_of plugins.GsnEdf (cluster_with 1 0 ∷ []) (sem_under Pcp ∷ []) (reservation Polling 1 10 1 ∷ []) (periodic 1 1 10 10 ∷ [])
    ∷ set_of plugins.GsnEdf (cluster_with 1 0 ∷ []) (sem_called 115 (sem_under Pcp) ∷ []) (reservation Polling 1 10 1 ∷ []) (
    periodic 1 1 10 10 ∷ [])
    ∷ set_of plugins.GsnEdf (cluster_with 1 0 ∷ []) (sem_called 115 (sem_under Pcp) ∷ []) (
    resv_called 114 (reservation Polling 1 10 1) ∷ []) (periodic 1 1 10 10 ∷ [])
    ∷ set_of plugins.GsnEdf (cluster_with 1 0 ∷ []) (sem_called 115 (sem_under Pcp) ∷ []) (
    resv_called 114 (reservation Polling 1 10 1) ∷ []) (called 97 (periodic 1 1 10 10) ∷ [])
    ∷ [])
    ≡ refused kinds.Name parts.Sem 0
    ∷ refused kinds.Name parts.Resv 0
    ∷ refused kinds.Name parts.Task 0
    ∷ refused kinds.Name parts.Step 0
    ∷ []
unfolding rules_computed
names-refusals = refl
