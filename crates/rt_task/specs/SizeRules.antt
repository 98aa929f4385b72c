-- The limits of a set.
use Rattle.std.specs.Prelude.{◌*◌, Bool, ◌&&◌, nat_le, List, length}
use Rattle.rt_base.specs.declared.TheConstants.{MOST_CLUSTERS, MOST_CPUS, MOST_OPERATIONS, MOST_RESVS, MOST_SEMS, MOST_STEPS, MOST_TASKS}
use Rattle.rt_base.specs.declared.TheConstants.{MOST_TURN_STEPS}
use Rattle.rt_task.specs.declared.draft.Draft.{Draft}
use Rattle.rt_task.specs.declared.draft.DraftDrive.{DraftDrive}
use Rattle.rt_task.specs.declared.draft.DraftDrive.TheVariants.{Steps, Horizon}
use Rattle.rt_task.specs.declared.draft.DraftTask.{DraftTask}
use Rattle.rt_task.specs.Lookups.{cpus}
use Rattle.rt_task.specs.RuleWords.{body_len}

module _ (d : Draft) where
  abbrev pub horizon_fits : DraftDrive → Bool
  horizon_fits (Steps s) = nat_le (length s) MOST_STEPS
  horizon_fits (Horizon h) = nat_le (h * cpus d * MOST_TURN_STEPS) MOST_STEPS

  unfoldable pub whole_size : Bool
  whole_size =
      nat_le (length d.clusters) MOST_CLUSTERS
      && (nat_le (cpus d) MOST_CPUS
      && (nat_le (length d.tasks) MOST_TASKS
      && (nat_le (length d.sems) MOST_SEMS && (nat_le (length d.resvs) MOST_RESVS && horizon_fits d.drive))))

  unfoldable pub task_size : List DraftTask → DraftTask → Bool
  task_size earlier p = nat_le (body_len p.pieces) MOST_OPERATIONS
