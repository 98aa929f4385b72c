-- The same reading as code does it, element after element.
use Rattle.std.specs.Prelude.{map, Result, Ok}
use Rattle.rt_task.specs.declared.draft.DraftDrive.{DraftDrive}
use Rattle.rt_task.specs.declared.draft.DraftDrive.TheVariants.{Steps, Horizon}
use Rattle.rt_task.specs.declared.bad_set.BadSet.{BadSet}
use Rattle.rt_task.specs.declared.bad_set.SetKind.TheVariants as kinds
use Rattle.rt_task.specs.declared.bad_set.Part.TheVariants as parts
use Rattle.serde_json.specs.Data.{Data}
use Rattle.rt_task.specs.declared.draft.Draft.{Draft}
use Rattle.rt_task.specs.Refusals.{bad}
use Rattle.set_read.specs.Document.{Names, Whole, Play, steps, horizon, whole_of, names_of, has_horizon, tasks_from, cluster_form}
use Rattle.set_read.specs.Document.{semaphore_form, reservation_form, step_form}
use Rattle.set_read.specs.inside.Elements.{elements_from}
use Rattle.set_read.specs.Sets.{◌>>=◌, or_refused}

unfoldable pub drive_read : Names → Play → Result DraftDrive BadSet
drive_read names (steps xs) = elements_from parts.Step 0 (map (λ x. step_form names x) xs) >>= λ found. Ok (Steps found)
drive_read names (horizon h) = Ok (Horizon h)

unfoldable pub whole_read : Whole → Result Draft BadSet
whole_read whole = do
  clusters ← elements_from parts.Cluster 0 (map (λ x. cluster_form x) whole.clusters)
  sems ← elements_from parts.Sem 0 (map (λ x. semaphore_form x) whole.sems)
  resvs ← elements_from parts.Resv 0 (map (λ x. reservation_form x) whole.resvs)
  tasks ← elements_from parts.Task 0 (tasks_from (names_of whole) (has_horizon whole.play) 1 whole.tasks)
  drive ← drive_read (names_of whole) whole.play
  Ok (record { plugin = whole.plugin; clusters = clusters; sems = sems; resvs = resvs; tasks = tasks; drive = drive })

unfoldable pub draft_read : Data → Result Draft BadSet
draft_read value = or_refused (bad kinds.Shape parts.Whole 0) (whole_of value) >>= whole_read
