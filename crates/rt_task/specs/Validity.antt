-- The rules of a set as a table, each row a kind, a part of the set and a test; and valid sets.
use Rattle.std.specs.Prelude.{Bool, not, ◌&&◌, ◌||◌, List, [], ◌∷◌, Option, None, ◌≡◌}
use Rattle.rt_task.specs.declared.bad_set.BadSet.{BadSet}
use Rattle.rt_task.specs.declared.Parts.{Parts}
use Rattle.rt_task.specs.declared.draft.Draft.{Draft}
use Rattle.rt_task.specs.declared.draft.DraftResv.{DraftResv}
use Rattle.rt_task.specs.declared.draft.DraftTask.{DraftTask}
use Rattle.rt_task.specs.Draft.{draft_of, steps_of}
use Rattle.rt_task.specs.NameRules.{sem_name, resv_name, task_name, step_name}
use Rattle.rt_task.specs.RangeRules.{whole_range, cluster_range, resv_range, task_range, step_range}
use Rattle.rt_task.specs.Refusals.{first, whole, each}
use Rattle.rt_task.specs.RuleWords.{is_empty, is_periodic, has_horizon}
use Rattle.rt_task.specs.SharingRules.{sem_sharing, resv_sharing, task_sharing, step_sharing}
use Rattle.rt_task.specs.SizeRules.{whole_size, task_size}
use Rattle.rt_task.specs.SlotRules.{may_have}
use Rattle.rt_task.specs.declared.bad_set.SetKind.TheVariants as kinds
use Rattle.rt_task.specs.declared.bad_set.Part.TheVariants as parts

module _ (d : Draft) where
  unfoldable pub resv_shape : List DraftResv → DraftResv → Bool
  resv_shape earlier r = may_have r.kind r.slots

  -- in a set with a horizon each task is periodic and has a body
  unfoldable pub task_shape : List DraftTask → DraftTask → Bool
  task_shape earlier p = not (has_horizon d.drive) || (is_periodic p.kind && not (is_empty p.pieces))

  -- the table, in the order in which the rules are tried; of the rules on forms the two that are not met by being a draft
  abbrev pub shape_rows : List (Option BadSet)
  shape_rows =
      each kinds.Shape parts.Resv resv_shape d.resvs
      ∷ each kinds.Shape parts.Task task_shape d.tasks
      ∷ []

  abbrev pub range_rows : List (Option BadSet)
  range_rows =
      whole kinds.Range (whole_range d)
      ∷ each kinds.Range parts.Cluster (cluster_range d) d.clusters
      ∷ each kinds.Range parts.Resv (resv_range d) d.resvs
      ∷ each kinds.Range parts.Task (task_range d) d.tasks
      ∷ each kinds.Range parts.Step (step_range d) (steps_of d.drive)
      ∷ []

  abbrev pub name_rows : List (Option BadSet)
  name_rows =
      each kinds.Name parts.Sem (sem_name d) d.sems
      ∷ each kinds.Name parts.Resv (resv_name d) d.resvs
      ∷ each kinds.Name parts.Task (task_name d) d.tasks
      ∷ each kinds.Name parts.Step (step_name d) (steps_of d.drive)
      ∷ []

  abbrev pub sharing_rows : List (Option BadSet)
  sharing_rows =
      each kinds.Sharing parts.Sem (sem_sharing d) d.sems
      ∷ each kinds.Sharing parts.Resv (resv_sharing d) d.resvs
      ∷ each kinds.Sharing parts.Task (task_sharing d) d.tasks
      ∷ each kinds.Sharing parts.Step (step_sharing d) (steps_of d.drive)
      ∷ []

  abbrev pub size_rows : List (Option BadSet)
  size_rows =
      whole kinds.Size (whole_size d)
      ∷ each kinds.Size parts.Task (task_size d) d.tasks
      ∷ []

  unfoldable pub refusal : Option BadSet
  refusal = first (first range_rows ∷ first name_rows ∷ first sharing_rows ∷ first size_rows ∷ [])

  unfoldable pub whole_refusal : Option BadSet
  whole_refusal = first (first shape_rows ∷ refusal ∷ [])

-- the first rule that parts break
unfoldable pub refusal_of : Parts → Option BadSet
refusal_of p = whole_refusal (draft_of p)

-- a set that breaks no rule
abbrev pub IsValid : Parts → Type 0
IsValid p = refusal_of p ≡ None
