-- The key of a task's job under each plugin: by the priority of the task under P-FP, by that of its reservation under P-RES, and else
-- by deadline.
use Rattle.std.specs.Prelude.{ℕ, ◌-◌, List, slice_index_or}
use Rattle.rt_rules.specs.declared.Key.{Key}
use Rattle.rt_task.specs.declared.PluginKind.{PluginKind}
use Rattle.rt_task.specs.declared.PluginKind.TheVariants.{PFp, PRes}
use Rattle.rt_task.specs.declared.Resv.{Resv}
use Rattle.rt_task.specs.declared.Task.{Task}
use Rattle.rt_model.specs.Group.{no_resv}
use Rattle.plugins.specs.DeadlineKeys.{deadline_key}
use Rattle.plugins.specs.PriorityKeys.{priority_key}
use Rattle.plugins.specs.ReservationKeys.{reservation_key, resv_number}

-- the priority of the task's reservation
abbrev pub resv_prio : List Resv → Task → ℕ
resv_prio resvs t = (slice_index_or resvs (resv_number t.resv - 1) no_resv).prio

abbrev pub key_under : PluginKind → Task → ℕ → ℕ → Key
key_under PFp t release prio = priority_key t
key_under PRes t release prio = reservation_key t prio
key_under _ t release prio = deadline_key t release
