-- Words for worked sets at the limits of the rules: each table lists what is refused of a row of sets, one for each of some values.
use Rattle.std.specs.Prelude.{ℕ, List, [], ◌∷◌, map, Option, None, Some}
use Rattle.rt_task.specs.declared.Cluster.{Cluster}
use Rattle.rt_task.specs.declared.Drive.TheVariants.{Steps, Horizon}
use Rattle.rt_task.specs.declared.Parts.{Parts}
use Rattle.rt_task.specs.declared.PluginKind.{PluginKind}
use Rattle.rt_task.specs.declared.PluginKind.TheVariants as plugins
use Rattle.rt_task.specs.declared.Resv.{Resv}
use Rattle.rt_task.specs.declared.Sem.{Sem}
use Rattle.rt_task.specs.declared.Step.{Step}
use Rattle.rt_task.specs.declared.Task.{Task}
use Rattle.rt_task.specs.declared.bad_set.BadSet.{BadSet}
use Rattle.rt_task.specs.declared.bad_set.Part.{Part}
use Rattle.rt_task.specs.declared.bad_set.SetKind.{SetKind}
use Rattle.rt_task.specs.Refusals.{bad}
use Rattle.rt_task.specs.Validity.{refusal_of}
use Rattle.rt_model.specs.worked.Samples.{group_of, cluster_with, periodic, client_of}

-- what is refused of the set for each value
abbrev pub refusals : {A : Type 0} → (A → Parts) → List A → List (Option BadSet)
refusals set values = map (λ x. refusal_of (set x)) values

abbrev pub valid : Option BadSet
valid = None

abbrev pub refused : SetKind → Part → ℕ → Option BadSet
refused kind part index = Some (bad kind part index)

-- a name of one letter
abbrev pub called : ℕ → Task → Task
called letter t = record t { name = letter ∷ [] }

abbrev pub sem_called : ℕ → Sem → Sem
sem_called letter s = record s { name = letter ∷ [] }

abbrev pub resv_called : ℕ → Resv → Resv
resv_called letter r = record r { name = letter ∷ [] }

-- a set without steps
abbrev pub set_of : PluginKind → List Cluster → List Sem → List Resv → List Task → Parts
set_of plugin clusters sems resvs tasks = (group_of plugin clusters sems resvs tasks).setup

abbrev pub with_horizon : ℕ → Parts → Parts
with_horizon h p = record p { drive = Horizon h }

abbrev pub with_steps : List Step → Parts → Parts
with_steps steps p = record p { drive = Steps steps }

-- a set under GSN-EDF whose second task is this one, named b
abbrev pub with_second : Task → Parts
with_second t =
    set_of plugins.GsnEdf (cluster_with 1 0 ∷ []) [] [] (called 97 (periodic 1 1 10 10) ∷ called 98 t ∷ [])

-- a set under P-RES whose second reservation, named s, is this one
abbrev pub with_second_resv : Resv → Resv → Parts
with_second_resv first second =
    set_of plugins.PRes (cluster_with 1 0 ∷ []) [] (resv_called 114 first ∷ resv_called 115 second ∷ []) (
    called 97 (client_of 1 (periodic 1 1 10 10)) ∷
    [])

-- a set of these clusters, with one task
abbrev pub in_clusters : PluginKind → List Cluster → Parts
in_clusters plugin clusters = set_of plugin clusters [] [] (called 97 (periodic 1 1 10 10) ∷ [])
