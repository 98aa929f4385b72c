-- The canonical text of a set: the compact text of its JSON value, with no blanks.
use Rattle.std.specs.Prelude.{ℕ, List, codes}
use Rattle.rt_task.specs.declared.Drive.{Drive}
use Rattle.rt_task.specs.declared.Drive.TheVariants.{Steps, Horizon}
use Rattle.rt_task.specs.declared.Parts.{Parts}
use Rattle.serde_json.specs.Data.{Data, string, object, Members, no_members, member}
use Rattle.serde_json.specs.Written.{compact_text}
use Rattle.set_canonical.specs.Words.{plugin_word}
use Rattle.set_canonical.specs.Values.{natural_data, array_data, sem_names, resv_names, task_names, cluster_data, sem_data, resv_data}
use Rattle.set_canonical.specs.Values.{step_data, task_data}

-- of `horizon` and `steps` the one that is given
abbrev pub shown_horizon : Drive → Members → Members
shown_horizon (Steps s) rest = rest
shown_horizon (Horizon h) rest = member (codes "horizon") (natural_data h) rest

-- over the names of the semaphores and the tasks
abbrev pub shown_steps : List (List ℕ) → List (List ℕ) → Drive → Members → Members
shown_steps sems tasks (Steps ss) rest = member (codes "steps") (array_data (step_data sems tasks) ss) rest
shown_steps sems tasks (Horizon h) rest = rest

-- the value of a set: every member, in rising order of names
unfoldable pub set_data : Parts → Data
set_data p = object (
    member (codes "clusters") (array_data cluster_data p.clusters) (
    shown_horizon p.drive (
    member (codes "plugin") (string (plugin_word p.plugin)) (
    member (codes "resvs") (array_data resv_data p.resvs) (
    member (codes "sems") (array_data sem_data p.sems) (
    shown_steps (sem_names p.sems) (task_names p.tasks) p.drive (
    member (codes "tasks") (array_data (task_data (sem_names p.sems) (resv_names p.resvs)) p.tasks) no_members)))))))

unfoldable pub canonical : Parts → List ℕ
canonical p = compact_text (set_data p)
