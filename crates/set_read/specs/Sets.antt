-- The setup that a document stands for, or its first refusal.
use Rattle.std.specs.Prelude.{ℕ, Bool, List, Option, None, Some, Result, Ok, Err, filter_map, is_some, map, if◌then◌else◌}
use Rattle.std.specs.Str.{is_utf8}
use Rattle.rt_task.specs.declared.Parts.{Parts}
use Rattle.rt_task.specs.declared.draft.DraftDrive.{DraftDrive}
use Rattle.rt_task.specs.declared.draft.DraftDrive.TheVariants.{Steps, Horizon}
use Rattle.rt_task.specs.declared.bad_set.BadSet.{BadSet}
use Rattle.rt_task.specs.declared.bad_set.SetKind.TheVariants as kinds
use Rattle.rt_task.specs.declared.bad_set.Part.{Part}
use Rattle.rt_task.specs.declared.bad_set.Part.TheVariants as parts
use Rattle.serde_json.specs.Data.{Data}
use Rattle.serde_json.specs.Read.{read}
use Rattle.rt_task.specs.declared.draft.Draft.{Draft}
use Rattle.rt_task.specs.Refusals.{bad, each}
use Rattle.rt_task.specs.Answers.{accepted}
use Rattle.rt_task.specs.Validity.{refusal}
use Rattle.set_read.specs.Document.{Names, Play, steps, horizon, whole_of, names_of, has_horizon, tasks_from, cluster_form}
use Rattle.set_read.specs.Document.{semaphore_form, reservation_form, step_form}

infixl 10 ◌>>=◌
abbrev pub ◌>>=◌ : {A B : Type 0} → Result A BadSet → (A → Result B BadSet) → Result B BadSet
(Ok x) >>= f = f x
(Err e) >>= f = Err e

-- what there is, or else a refusal
abbrev pub or_refused : {A : Type 0} → BadSet → Option A → Result A BadSet
or_refused b None = Err b
or_refused b (Some x) = Ok x

-- refused, or else a value
abbrev pub unless : {A : Type 0} → Option BadSet → A → Result A BadSet
unless None x = Ok x
unless (Some b) x = Err b

-- the value that the bytes are
unfoldable pub value_of : List ℕ → Option Data
value_of bytes = if is_utf8 bytes then read bytes else None

abbrev pub same : {A : Type 0} → A → A
same x = x

abbrev pub has_form : {A : Type 0} → List (Option A) → Option A → Bool
has_form earlier x = is_some x

-- the elements of an array, or the first that has not its form
unfoldable pub elements : {A : Type 0} → Part → List (Option A) → Result (List A) BadSet
elements part xs = unless (each kinds.Shape part has_form xs) (filter_map same xs)

unfoldable pub drive_of : Names → Play → Result DraftDrive BadSet
drive_of names (steps xs) = elements parts.Step (map (step_form names) xs) >>= λ found. Ok (Steps found)
drive_of names (horizon h) = Ok (Horizon h)

-- the set that a value says, before its rules are tried, or the first fault of form
unfoldable pub draft_of_value : Data → Result Draft BadSet
draft_of_value value = do
  whole ← or_refused (bad kinds.Shape parts.Whole 0) (whole_of value)
  clusters ← elements parts.Cluster (map cluster_form whole.clusters)
  sems ← elements parts.Sem (map semaphore_form whole.sems)
  resvs ← elements parts.Resv (map reservation_form whole.resvs)
  tasks ← elements parts.Task (tasks_from (names_of whole) (has_horizon whole.play) 1 whole.tasks)
  drive ← drive_of (names_of whole) whole.play
  Ok (record { plugin = whole.plugin; clusters = clusters; sems = sems; resvs = resvs; tasks = tasks; drive = drive })

unfoldable pub draft_in_bytes : List ℕ → Result Draft BadSet
draft_in_bytes bytes = do
  value ← or_refused (bad kinds.NotJson parts.Whole 0) (value_of bytes)
  draft_of_value value

unfoldable pub set : List ℕ → Result Parts BadSet
set bytes = do
  draft ← draft_in_bytes bytes
  accepted draft (refusal draft)
