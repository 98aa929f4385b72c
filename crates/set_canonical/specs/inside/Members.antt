-- The texts of members of a set, as they are written one after another.
use Rattle.std.specs.Prelude.{ℕ, List, [], ◌++◌, Bool, codes, decimal, if◌then◌else◌}
use Rattle.rt_task.specs.declared.Drive.{Drive}
use Rattle.rt_task.specs.declared.Drive.TheVariants.{Steps, Horizon}
use Rattle.rt_task.specs.declared.Parts.{Parts}
use Rattle.rt_task.specs.declared.Resv.{Resv}
use Rattle.rt_task.specs.declared.ResvKind.{ResvKind}
use Rattle.rt_task.specs.declared.ResvKind.TheVariants.{Table}
use Rattle.rt_task.specs.declared.Slot.{Slot}
use Rattle.rt_task.specs.declared.Sem.{Sem}
use Rattle.rt_task.specs.declared.Task.{Task}
use Rattle.json.specs.Print.{quoted}
use Rattle.serde_json.specs.Written.{compact_text}
use Rattle.set_canonical.specs.Values.{array_data, sem_names, resv_names, task_names, cluster_data, sem_data, slot_data, resv_data}
use Rattle.set_canonical.specs.Values.{step_data, task_data}
use Rattle.set_canonical.specs.Words.{plugin_word}

abbrev pub early_text : Bool → List ℕ
early_text early = if early then codes ",\"early\":true" else []

abbrev pub slots_text : ResvKind → List Slot → List ℕ
slots_text Table slots = codes ",\"slots\":" ++ compact_text (array_data slot_data slots)
slots_text _ slots = []

abbrev pub horizon_text : Drive → List ℕ
horizon_text (Steps ss) = []
horizon_text (Horizon h) = codes ",\"horizon\":" ++ decimal h

abbrev pub steps_text : List (List ℕ) → List (List ℕ) → Drive → List ℕ
steps_text sems tasks (Steps ss) = codes ",\"steps\":" ++ compact_text (array_data (step_data sems tasks) ss)
steps_text sems tasks (Horizon h) = []

unfoldable pub setting_text : Parts → List ℕ
setting_text p =
    codes "{\"clusters\":" ++ (compact_text (array_data cluster_data p.clusters) ++ (horizon_text p.drive
    ++ (codes ",\"plugin\":" ++ quoted (plugin_word p.plugin))))

unfoldable pub elements_text : List Sem → List Resv → List Task → Drive → List ℕ
elements_text sems resvs tasks drive =
    codes ",\"resvs\":" ++ (compact_text (array_data resv_data resvs)
    ++ (codes ",\"sems\":" ++ (compact_text (array_data sem_data sems)
    ++ (steps_text (sem_names sems) (task_names tasks) drive
    ++ (codes ",\"tasks\":" ++ compact_text (array_data (task_data (sem_names sems) (resv_names resvs)) tasks))))))
