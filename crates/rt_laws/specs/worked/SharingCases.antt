-- Worked sets at the limits of the rules of sharing; those on bodies stand apart.
use Rattle.std.specs.Prelude.{◌≡◌, ℕ, Bool, true, false, List, [], ◌∷◌, map, None, Some, refl}
use Rattle.rt_task.specs.declared.Parts.{Parts}
use Rattle.rt_task.specs.declared.PluginKind.{PluginKind}
use Rattle.rt_task.specs.declared.PluginKind.TheVariants as plugins
use Rattle.rt_task.specs.declared.Protocol.{Protocol}
use Rattle.rt_task.specs.declared.Protocol.TheVariants.{Fmlp, Omlp, Pcp, Mpcp, Srp}
use Rattle.rt_task.specs.declared.ResvKind.TheVariants.{Polling, Sporadic}
use Rattle.rt_task.specs.declared.bad_set.Part.TheVariants as parts
use Rattle.rt_task.specs.declared.bad_set.SetKind.TheVariants as kinds
use Rattle.rt_task.specs.Draft.{draft_of}
use Rattle.rt_task.specs.RuleWords.{stands_under}
use Rattle.rt_task.specs.SharingRules.{resv_fits, stands_apart}
use Rattle.rt_model.specs.worked.Samples.{cluster_with, sem_under, resv_no, reservation, slot, table, periodic, sporadic, early, using}
use Rattle.rt_model.specs.worked.Samples.{client_of}
use Rattle.rt_model.specs.worked.Samples.{in_cluster, step_of, arrive}
use Rattle.rt_laws.specs.worked.EdgeCases.{rules_computed}
use Rattle.rt_laws.specs.worked.RuleCases.{refusals, valid, refused, called, sem_called, resv_called, set_of, with_steps, with_second}
use Rattle.rt_laws.specs.worked.RuleCases.{with_second_resv}

-- ---- the protocols of each plugin

abbrev pub under : Protocol → List Bool
under p = map (stands_under p) (plugins.GsnEdf ∷ plugins.CEdf ∷ plugins.PsnEdf ∷ plugins.PFp ∷ plugins.PRes ∷ [])

pub plugins-of-fmlp : under Fmlp ≡ true ∷ true ∷ true ∷ true ∷ false ∷ []
unfolding rules_computed
plugins-of-fmlp = refl

pub plugins-of-omlp : under Omlp ≡ true ∷ true ∷ false ∷ false ∷ false ∷ []
unfolding rules_computed
plugins-of-omlp = refl

pub plugins-of-pcp : under Pcp ≡ false ∷ false ∷ false ∷ true ∷ false ∷ []
unfolding rules_computed
plugins-of-pcp = refl

pub plugins-of-mpcp : under Mpcp ≡ false ∷ false ∷ false ∷ true ∷ false ∷ []
unfolding rules_computed
plugins-of-mpcp = refl

pub plugins-of-srp : under Srp ≡ false ∷ false ∷ true ∷ false ∷ false ∷ []
unfolding rules_computed
plugins-of-srp = refl

-- a semaphore under another plugin is refused, though no task uses it
pub protocols-under-p-fp :
    refusals (λ p. set_of plugins.PFp (cluster_with 1 0 ∷ []) (sem_called 115 (sem_under Fmlp) ∷ sem_called 116 (sem_under p) ∷ []) [] [])
    (Fmlp ∷ Omlp ∷ Pcp ∷ Mpcp ∷ Srp ∷ [])
    ≡ valid ∷ refused kinds.Sharing parts.Sem 1 ∷ valid ∷ valid ∷ refused kinds.Sharing parts.Sem 1 ∷ []
unfolding rules_computed
protocols-under-p-fp = refl

-- ---- which tasks share a semaphore: those of one cluster, or of one group

-- a semaphore whose users are in cluster 0 and in another, of the three clusters; task 3 uses none
abbrev pub shared_from : PluginKind → Protocol → ℕ → Parts
shared_from plugin protocol other =
    set_of plugin (cluster_with 1 0 ∷ cluster_with 1 0 ∷ cluster_with 1 1 ∷ []) (sem_called 115 (sem_under protocol) ∷ []) [] (
    called 97 (using (1 ∷ []) (periodic 1 1 10 10)) ∷
    called 98 (using (1 ∷ []) (in_cluster other (periodic 2 1 10 10))) ∷
    called 99 (in_cluster 2 (periodic 3 1 10 10)) ∷
    [])

pub fmlp-under-c-edf :
    refusals (shared_from plugins.CEdf Fmlp) (0 ∷ 1 ∷ 2 ∷ [])
    ≡ valid ∷ refused kinds.Sharing parts.Sem 0 ∷ refused kinds.Sharing parts.Sem 0 ∷ []
unfolding rules_computed
fmlp-under-c-edf = refl

pub omlp-under-c-edf :
    refusals (shared_from plugins.CEdf Omlp) (0 ∷ 1 ∷ 2 ∷ [])
    ≡ valid ∷ refused kinds.Sharing parts.Sem 0 ∷ refused kinds.Sharing parts.Sem 0 ∷ []
unfolding rules_computed
omlp-under-c-edf = refl

pub pcp-under-p-fp :
    refusals (shared_from plugins.PFp Pcp) (0 ∷ 1 ∷ 2 ∷ [])
    ≡ valid ∷ refused kinds.Sharing parts.Sem 0 ∷ refused kinds.Sharing parts.Sem 0 ∷ []
unfolding rules_computed
pcp-under-p-fp = refl

pub fmlp-under-psn-edf :
    refusals (shared_from plugins.PsnEdf Fmlp) (0 ∷ 1 ∷ 2 ∷ []) ≡ valid ∷ valid ∷ refused kinds.Sharing parts.Sem 0 ∷ []
unfolding rules_computed
fmlp-under-psn-edf = refl

pub fmlp-under-p-fp :
    refusals (shared_from plugins.PFp Fmlp) (0 ∷ 1 ∷ 2 ∷ []) ≡ valid ∷ valid ∷ refused kinds.Sharing parts.Sem 0 ∷ []
unfolding rules_computed
fmlp-under-p-fp = refl

pub mpcp-under-p-fp :
    refusals (shared_from plugins.PFp Mpcp) (0 ∷ 1 ∷ 2 ∷ []) ≡ valid ∷ valid ∷ refused kinds.Sharing parts.Sem 0 ∷ []
unfolding rules_computed
mpcp-under-p-fp = refl

-- SRP and FMLP are not used in one cluster; tasks of cluster 0 use the FMLP semaphore
pub srp-beside-fmlp :
    map (stands_apart (draft_of (shared_from plugins.PsnEdf Fmlp 0)) Srp) (Some 0 ∷ Some 1 ∷ None ∷ []) ≡ false ∷ true ∷ true ∷ []
unfolding rules_computed
srp-beside-fmlp = refl

-- ---- reservations stand under P-RES alone, and there each task has one of its cluster

pub reservation-under :
    refusals (λ plugin. set_of plugin (cluster_with 1 0 ∷ []) [] (resv_called 114 (reservation Polling 1 10 1) ∷ []) [])
    (plugins.GsnEdf ∷ plugins.CEdf ∷ plugins.PsnEdf ∷ plugins.PFp ∷ plugins.PRes ∷ [])
    ≡ refused kinds.Sharing parts.Resv 0
    ∷ refused kinds.Sharing parts.Resv 0
    ∷ refused kinds.Sharing parts.Resv 0
    ∷ refused kinds.Sharing parts.Resv 0
    ∷ valid
    ∷ []
unfolding rules_computed
reservation-under = refl

pub clients-of-a-cluster :
    refusals (λ t. set_of plugins.PRes (cluster_with 1 0 ∷ cluster_with 1 0 ∷ []) []
    (resv_called 114 (reservation Polling 1 10 1)
    ∷ resv_called 115 (record (reservation Polling 1 10 1) { cluster = record { 0 = 1 } })
    ∷ []) (called 97 (client_of 1 (periodic 1 1 10 10)) ∷ called 98 t ∷ []))
    (client_of 1 (periodic 2 1 10 10)
    ∷ client_of 2 (periodic 2 1 10 10)
    ∷ in_cluster 1 (client_of 2 (periodic 2 1 10 10))
    ∷ periodic 2 1 10 10
    ∷ [])
    ≡ valid ∷ refused kinds.Sharing parts.Task 1 ∷ valid ∷ refused kinds.Sharing parts.Task 1 ∷ []
unfolding rules_computed
clients-of-a-cluster = refl

-- under another plugin no task has one
pub client-under-another :
    map (resv_fits (draft_of (with_second (periodic 2 1 10 10))) false 0) (None ∷ Some (resv_no 1) ∷ []) ≡ true ∷ false ∷ []
unfolding rules_computed
client-under-another = refl

-- ---- tables beside other reservations

pub beside-a-table :
    refusals (with_second_resv (table 10 1 (slot 2 4 ∷ slot 6 8 ∷ [])))
    (table 10 1 (slot 0 2 ∷ slot 4 6 ∷ slot 8 10 ∷ [])
    ∷ table 10 1 (slot 3 4 ∷ [])
    ∷ table 10 1 (slot 0 3 ∷ [])
    ∷ table 10 1 (slot 5 9 ∷ [])
    ∷ table 10 1 (slot 0 1 ∷ slot 7 8 ∷ [])
    ∷ table 20 1 (slot 0 2 ∷ [])
    ∷ reservation Polling 1 10 1
    ∷ reservation Sporadic 1 10 1
    ∷ record (table 20 1 (slot 3 4 ∷ [])) { cluster = record { 0 = 0 } }
    ∷ [])
    ≡ valid
    ∷ refused kinds.Sharing parts.Resv 1
    ∷ refused kinds.Sharing parts.Resv 1
    ∷ refused kinds.Sharing parts.Resv 1
    ∷ refused kinds.Sharing parts.Resv 1
    ∷ refused kinds.Sharing parts.Resv 1
    ∷ refused kinds.Sharing parts.Resv 1
    ∷ refused kinds.Sharing parts.Resv 1
    ∷ refused kinds.Sharing parts.Resv 1
    ∷ []
unfolding rules_computed
beside-a-table = refl

-- a table behind another kind, and both in clusters of their own
pub behind-a-polling :
    refusals (λ n. set_of plugins.PRes (cluster_with 1 0 ∷ cluster_with 1 0 ∷ []) []
    (resv_called 114 (reservation Polling 1 10 1)
    ∷ resv_called 115 (record (table 20 1 (slot 3 4 ∷ [])) { cluster = record { 0 = n } })
    ∷ []) []) (0 ∷ 1 ∷ [])
    ≡ refused kinds.Sharing parts.Resv 1 ∷ valid ∷ []
unfolding rules_computed
behind-a-polling = refl

-- ---- only a periodic task is released early

pub early-tasks :
    refusals with_second (early (periodic 2 1 10 10) ∷ early (sporadic 2 1 10 10) ∷ sporadic 2 1 10 10 ∷ [])
    ≡ valid ∷ refused kinds.Sharing parts.Task 1 ∷ valid ∷ []
unfolding rules_computed
early-tasks = refl

-- ---- a job arrives at a processor of its task's group

-- clusters of 2, 1 and 3 processors, the last in a group of its own; a task in each of the last two
abbrev pub arriving : ℕ → ℕ → Parts
arriving q t =
    with_steps (step_of 2 0 (arrive 1) ∷ step_of q 0 (arrive t) ∷ [])
    (set_of plugins.CEdf (cluster_with 2 0 ∷ cluster_with 1 0 ∷ cluster_with 3 1 ∷ []) [] [] (
    called 97 (in_cluster 1 (sporadic 1 1 10 10)) ∷
    called 98 (in_cluster 2 (sporadic 2 1 10 10)) ∷
    []))

pub arrivals-in-group-0 :
    refusals (λ q. arriving q 1) (0 ∷ 1 ∷ 2 ∷ 3 ∷ 5 ∷ [])
    ≡ valid ∷ valid ∷ valid ∷ refused kinds.Sharing parts.Step 1 ∷ refused kinds.Sharing parts.Step 1 ∷ []
unfolding rules_computed
arrivals-in-group-0 = refl

pub arrivals-in-group-1 :
    refusals (λ q. arriving q 2) (0 ∷ 2 ∷ 3 ∷ 5 ∷ [])
    ≡ refused kinds.Sharing parts.Step 1 ∷ refused kinds.Sharing parts.Step 1 ∷ valid ∷ valid ∷ []
unfolding rules_computed
arrivals-in-group-1 = refl
