-- The draft of a document whose steps or tasks are read apart.
use Rattle.std.proofs.Common.{◌≡◌, ℕ, ◌+◌, List, [], ◌∷◌, Option, Some, None, Result, Ok, map, true, false, refl, ap, ap₂, sym, ◌∙◌}
use Rattle.rt_task.specs.declared.PluginKind.{PluginKind}
use Rattle.rt_task.specs.declared.Sem.{Sem}
use Rattle.rt_task.specs.declared.bad_set.BadSet.{BadSet}
use Rattle.rt_task.specs.declared.bad_set.SetKind.TheVariants as kinds
use Rattle.rt_task.specs.declared.bad_set.Part.{Part}
use Rattle.rt_task.specs.declared.bad_set.Part.TheVariants as parts
use Rattle.rt_task.specs.declared.draft.Draft.{Draft}
use Rattle.rt_task.specs.declared.draft.DraftCluster.{DraftCluster}
use Rattle.rt_task.specs.declared.draft.DraftDrive.{DraftDrive}
use Rattle.rt_task.specs.declared.draft.DraftDrive.TheVariants.{Steps, Horizon}
use Rattle.rt_task.specs.declared.draft.DraftResv.{DraftResv}
use Rattle.rt_task.specs.declared.draft.DraftStep.{DraftStep}
use Rattle.rt_task.specs.declared.draft.DraftTask.{DraftTask}
use Rattle.rt_task.specs.Refusals.{bad}
use Rattle.json.specs.Token.{Token}
use Rattle.serde_json.specs.Data.{Data, array, object, Items, no_items, Members, put}
use Rattle.set_read.specs.Document.{Names, Whole, steps, horizon, whole_of, name_in, names_of, shaped, tasks_from, task_form, piece_form}
use Rattle.set_read.specs.Document.{cluster_form, semaphore_form, reservation_form, step_form}
use Rattle.set_read.specs.inside.Elements.{elements_from, with_front}
use Rattle.set_read.specs.Forms as forms
use Rattle.set_read.specs.Forms.{every, listed}
use Rattle.set_read.specs.Sets.{◌>>=◌, or_refused}
use Rattle.set_read.specs.inside.Stepwise.{drive_read, whole_read, draft_read}
use Rattle.set_read.specs.inside.Tokens.{Completes, SaysDraft, task_read, tasks_read, with_steps, with_tasks}

-- ---- elements

with_first : {A : Type 0} (part : Part) (n : ℕ) (o : Option A) (r : Option (List A)) (rest : List (Option A)) (xs : List A)
    → forms.◌>>=◌ o (λ x. forms.◌>>=◌ r (λ ys. Some (x ∷ ys))) ≡ Some xs
    → ((ys : List A) → r ≡ Some ys → elements_from part (n + 1) rest ≡ Ok ys) → elements_from part n (o ∷ rest) ≡ Ok xs
with_first part n None r rest xs e more = absurd cc
with_first part n (Some x) None rest xs e more = absurd cc
with_first part n (Some x) (Some ys) rest xs e more = let same : x ∷ ys ≡ xs = cc in ap (with_front (x ∷ [])) (more ys refl) ∙ ap Ok same

-- where each has its form, none is refused
every_found : {A : Type 0} (form : Data → Option A) (part : Part) (n : ℕ) (ds : List Data) (xs : List A) → every form ds ≡ Some xs
    → elements_from part n (map (λ x. form x) ds) ≡ Ok xs
every_found form part n [] xs e = let same : [] ≡ xs = cc in ap Ok same
every_found form part n (d ∷ ds) xs e =
    with_first part n (form d) (every form ds) (map (λ x. form x) ds) xs e (every_found form part (n + 1) ds)

-- ---- the draft

abbrev draft_by : PluginKind → Result (List DraftCluster) BadSet → Result (List Sem) BadSet → Result (List DraftResv) BadSet
    → Result (List DraftTask) BadSet → Result DraftDrive BadSet → Result Draft BadSet
draft_by plugin clusters sems resvs tasks drive = do
  clusters ← clusters
  sems ← sems
  resvs ← resvs
  tasks ← tasks
  drive ← drive
  Ok (record { plugin = plugin; clusters = clusters; sems = sems; resvs = resvs; tasks = tasks; drive = drive })

-- where the elements before them are good, other tasks and another drive make another draft
redrafted : (plugin : PluginKind) (clusters : Result (List DraftCluster) BadSet) (sems : Result (List Sem) BadSet) (resvs : Result (List DraftResv) BadSet)
    (tasks : Result (List DraftTask) BadSet) (was now : DraftDrive) (d : Draft)
    → draft_by plugin clusters sems resvs tasks (Ok was) ≡ Ok d
    → (draft_by plugin clusters sems resvs tasks (Ok now) ≡ Ok (record d { drive = now }))
    × ((found : List DraftTask) → draft_by plugin clusters sems resvs (Ok found) (Ok was) ≡ Ok (record d { tasks = found }))
redrafted plugin (Ok c) (Ok s) (Ok r) (Ok t) was now d e =
    let same : record { plugin = plugin; clusters = c; sems = s; resvs = r; tasks = t; drive = was } ≡ d = cc in
    (ap (λ (v : Draft). Ok (record v { drive = now })) same, λ found. ap (λ (v : Draft). Ok (record v { tasks = found })) same)
redrafted plugin c s r t was now d e = absurd cc

pub whole_read-steps : (w : Whole) (ds : List Data) (found : List DraftStep) (d : Draft) → w.play ≡ steps [] → whole_read w ≡ Ok d
    → every (step_form (names_of w)) ds ≡ Some found → whole_read (with_steps w ds) ≡ Ok (record d { drive = Steps found })
unfolding whole_read drive_read
whole_read-steps w ds found d none e said =
    let clusters = elements_from parts.Cluster 0 (map (λ x. cluster_form x) w.clusters) in
    let sems = elements_from parts.Sem 0 (map (λ x. semaphore_form x) w.sems) in
    let resvs = elements_from parts.Resv 0 (map (λ x. reservation_form x) w.resvs) in
    let tasks = elements_from parts.Task 0 (tasks_from (names_of w) false 1 w.tasks) in
    let read : draft_by w.plugin clusters sems resvs tasks (Ok (Steps [])) ≡ Ok d =
    sym (λ i. whole_read (record w { play = none i })) ∙ e in
    ap (λ found. draft_by w.plugin clusters sems resvs tasks (found >>= λ found. Ok (Steps found)))
    (every_found (step_form (names_of w)) parts.Step 0 ds found said)
    ∙ (redrafted w.plugin clusters sems resvs tasks (Steps []) (Steps found) d read).0

-- ---- tasks

tasks_found : (names : Names) (k n : ℕ) (ds : List Data) (found : List DraftTask) → tasks_read names n ds ≡ Some found
    → elements_from parts.Task k (tasks_from names true n ds) ≡ Ok found
tasks_found names k n [] found e = let same : [] ≡ found = cc in ap Ok same
tasks_found names k n (d ∷ ds) found e =
    with_first parts.Task k (task_read names n d) (tasks_read names (n + 1) ds) (tasks_from names true (n + 1) ds) found e
    (tasks_found names (k + 1) (n + 1) ds)

-- a task names no other
task_alone : (names : Names) (others : List (List ℕ)) (n : ℕ) (d : Data)
    → task_form (record names { tasks = others }) n d ≡ task_form names n d
unfolding task_form piece_form
task_alone names others n d = refl

tasks_alone : (names : Names) (others : List (List ℕ)) (n : ℕ) (ds : List Data)
    → tasks_from (record names { tasks = others }) true n ds ≡ tasks_from names true n ds
tasks_alone names others n [] = refl
tasks_alone names others n (d ∷ ds) = ap₂ (λ o os. shaped true o ∷ os) (task_alone names others n d) (tasks_alone names others (n + 1) ds)

pub whole_read-tasks : (w : Whole) (h : ℕ) (ds : List Data) (found : List DraftTask) (d : Draft) → w.play ≡ horizon h → w.tasks ≡ []
    → whole_read w ≡ Ok d
    → tasks_read (names_of w) 1 ds ≡ Some found → whole_read (with_tasks w ds) ≡ Ok (record d { tasks = found })
unfolding whole_read drive_read
whole_read-tasks w h ds found d runs none e said =
    let clusters = elements_from parts.Cluster 0 (map (λ x. cluster_form x) w.clusters) in
    let sems = elements_from parts.Sem 0 (map (λ x. semaphore_form x) w.sems) in
    let resvs = elements_from parts.Resv 0 (map (λ x. reservation_form x) w.resvs) in
    let drive = Ok (Horizon h) in
    let read : draft_by w.plugin clusters sems resvs (Ok []) drive ≡ Ok d =
    sym (λ i. whole_read (record w { tasks = none i; play = runs i })) ∙ e in
    let tasks =
    ap (elements_from parts.Task 0) (tasks_alone (names_of w) (map name_in ds) 1 ds) ∙ tasks_found (names_of w) 0 1 ds found said in
    (λ i. whole_read (record w { tasks = ds; play = runs i }))
    ∙ ap (λ ts. draft_by w.plugin clusters sems resvs ts drive) tasks
    ∙ (redrafted w.plugin clusters sems resvs (Ok []) (Horizon h) (Horizon h) d read).1 found

-- ---- a value

-- the items put at their key say the draft with these items
pub completed : (key : List ℕ) (has_none : Type 0) (whole_with : List Data → Whole) (value : Data) (ts : List Token) (w : Whole) (d : Draft)
    → ((ds : Items) (ms : Members) → whole_of (object (put key (array no_items) ms)) ≡ Some w
    → (whole_of (object (put key (array ds) ms)) ≡ Some (whole_with (listed ds))) × has_none)
    → whole_of value ≡ Some w → SaysDraft has_none whole_with ts d → Completes key value ts d
unfolding draft_read
completed key has_none whole_with value ts w d moved whole (ds, rest, said, closed, draft) = (
  ds,
  rest,
  said,
  closed,
  λ ms is.
      (let exchanged = moved ds ms (ap whole_of (sym is) ∙ whole) in
      ap (λ o. or_refused (bad kinds.Shape parts.Whole 0) o >>= whole_read) exchanged.0 ∙ draft exchanged.1),
)
