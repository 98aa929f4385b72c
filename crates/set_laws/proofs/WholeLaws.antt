-- The value of a setup reads as that setup's draft.
use Rattle.std.proofs.Common.{◌≡◌, ℕ, ◌+◌, List, [], ◌∷◌, Bool, true, false, not, ◌&&◌, ◌||◌, map, Option, Some, None, Ok, refl, ap, ap₂, sym, ◌∙◌}
use Rattle.rt_base.specs.declared.SemNo.{SemNo}
use Rattle.rt_base.specs.declared.ResvNo.{ResvNo}
use Rattle.rt_task.specs.declared.Task.{Task}
use Rattle.rt_task.specs.declared.Step.{Step}
use Rattle.rt_task.specs.declared.Sem.{Sem}
use Rattle.rt_task.specs.declared.Drive.{Drive}
use Rattle.rt_task.specs.declared.Drive.TheVariants.{Steps, Horizon}
use Rattle.rt_task.specs.declared.Parts.{Parts}
use Rattle.rt_task.specs.declared.bad_set.Part.{Part}
use Rattle.rt_task.specs.declared.bad_set.Part.TheVariants as parts
use Rattle.serde_json.specs.Data.{Data, string}
use Rattle.serde_json.specs.View.{items_of}
use Rattle.rt_task.specs.declared.draft.DraftTask.{DraftTask}
use Rattle.set_read.specs.Forms as forms
use Rattle.rt_task.specs.RuleWords.{is_empty, is_periodic}
use Rattle.rt_task.specs.RuleWords as words
use Rattle.rt_task.specs.declared.Resv.{Resv}
use Rattle.rt_task.specs.declared.ResvKind.{ResvKind}
use Rattle.rt_task.specs.declared.ResvKind.TheVariants.{Polling, Sporadic, Table}
use Rattle.set_read.specs.Document.{Names, Whole, Play, steps, horizon, position_from, sem_form, step_form, piece_form, task_form, whole_of, names_of, name_in, has_horizon, tasks_from, cluster_form, semaphore_form, reservation_form}
use Rattle.set_read.specs.Sets.{elements, drive_of, draft_of_value}
use Rattle.rt_task.specs.Draft.{runs, draft_of, parts_of, draft_cluster, draft_resv, draft_task, draft_step, draft_drive, cluster_of, resv_of, step_of, task_of}
use Rattle.rt_task.specs.Draft as draft
use Rattle.set_canonical.specs.Values.{cluster_data, sem_data, resv_data, step_data, piece_data, task_data, name_at, sem_names, resv_names, task_names, array_data}
use Rattle.set_canonical.specs.Canonical.{set_data}
use Rattle.set_laws.proofs.BackLaws.{KnowsSem, KnowsOps, KnowsAct, AllAgain, list_of-array_data, pieces-again, sem_no-again, kind-again, plugin-again, elements-again, clusters-again, sems-again, resvs-again, step-again, operations-runs, none-fail, all-kept, AllSeen, map-same, AllMayHave}

abbrev pub KnowsUses : Names → List SemNo → Type 0
KnowsUses names [] = Unit {0}
KnowsUses names (s ∷ ss) = KnowsSem names s × KnowsUses names ss

abbrev pub KnowsResv : Names → Option ResvNo → Type 0
KnowsResv names None = Unit {0}
KnowsResv names (Some r) = position_from 1 names.resvs (name_at names.resvs r.0) ≡ r.0

pub record KnowsTask (names : Names) (t : Task) : Type 0 where
  pub uses : KnowsUses names t.uses
  pub resv : KnowsResv names t.resv
  pub body : KnowsOps names t.body

uses-again : (names : Names) (ss : List SemNo) → KnowsUses names ss → AllAgain (sem_form names) (λ (s : SemNo). string (name_at names.sems s.0)) ss
uses-again names [] k = tt
uses-again names (s ∷ ss) k = (sem_no-again names s k.0, uses-again names ss k.1)

-- the task with its body in runs
abbrev pub canonical_plan : Task → DraftTask
canonical_plan t = draft_task t (runs t.body)

pub task-again : (names : Names) (t : Task) → KnowsTask names t → task_form names t.number.0 (task_data names.sems names.resvs t) ≡ Some (canonical_plan t)
unfolding task_form task_data
task-again names t k = by_early t.early t.resv k.resv
  where
    uses : forms.list_of (sem_form names) (array_data (λ (s : SemNo). string (name_at names.sems s.0)) t.uses) ≡ Some t.uses
    uses = list_of-array_data (sem_form names) (λ (s : SemNo). string (name_at names.sems s.0)) t.uses (uses-again names t.uses k.uses)

    body : forms.list_of (piece_form names) (array_data (piece_data names.sems) (runs t.body)) ≡ Some (runs t.body)
    body = list_of-array_data (piece_form names) (piece_data names.sems) (runs t.body) (pieces-again names t.body k.body)

    by_early : (e : Bool) (r : Option ResvNo) → KnowsResv names r → task_form names t.number.0 (task_data names.sems names.resvs (record t { early = e; resv = r })) ≡ Some (canonical_plan (record t { early = e; resv = r }))
    by_early true None k = rw (kind-again t.kind, uses, body) refl
    by_early false None k = rw (kind-again t.kind, uses, body) refl
    by_early true (Some r) k = rw (kind-again t.kind, uses, body, k) refl
    by_early false (Some r) k = rw (kind-again t.kind, uses, body, k) refl

-- ---- all tasks

-- the tasks are known, numbered from n, and in a set with a horizon periodic with a body
abbrev pub AreRead : Names → Bool → ℕ → List Task → Type 0
AreRead names needs n [] = Unit {0}
AreRead names needs n (t ∷ ts) = (t.number.0 ≡ n) × KnowsTask names t × ((not needs || (is_periodic t.kind && not (is_empty (runs t.body)))) ≡ true) × AreRead names needs (n + 1) ts

tasks-again : (names : Names) (needs : Bool) (n : ℕ) (ts : List Task) → AreRead names needs n ts → tasks_from names needs n (forms.listed (items_of (map (task_data names.sems names.resvs) ts))) ≡ map Some (map canonical_plan ts)
tasks-again names needs n [] h = refl
tasks-again names needs n (t ∷ ts) h =
    let read : task_form names n (task_data names.sems names.resvs t) ≡ Some (canonical_plan t) = ap (λ m. task_form names m (task_data names.sems names.resvs t)) (sym h.0) ∙ task-again names t h.1 in
    rw (read, h.2) (ap (λ xs. Some (canonical_plan t) ∷ xs) (tasks-again names needs (n + 1) ts h.3))

none-fails : {A : Type 0} (part : Part) (xs : List A) → elements part (map Some xs) ≡ Ok xs
unfolding elements
none-fails part xs = rw (none-fail [] xs, all-kept xs) refl

-- ---- the whole

-- the names of a set's elements
abbrev pub names_in : Parts → Names
names_in p = record { sems = sem_names p.sems; resvs = resv_names p.resvs; tasks = task_names p.tasks }

abbrev play_data : Names → Drive → Play
play_data names (Steps ss) = steps (forms.listed (items_of (map (step_data names.sems names.tasks) ss)))
play_data names (Horizon h) = horizon h

abbrev whole_data : Parts → Whole
whole_data p = record {
  plugin = p.plugin;
  clusters = forms.listed (items_of (map cluster_data p.clusters));
  sems = forms.listed (items_of (map sem_data p.sems));
  resvs = forms.listed (items_of (map resv_data p.resvs));
  tasks = forms.listed (items_of (map (task_data (sem_names p.sems) (resv_names p.resvs)) p.tasks));
  play = play_data (names_in p) p.drive;
}

whole-again : (p : Parts) → whole_of (set_data p) ≡ Some (whole_data p)
unfolding whole_of set_data
whole-again p = by_drive p.drive
  where
    by_drive : (d : Drive) → whole_of (set_data (record p { drive = d })) ≡ Some (whole_data (record p { drive = d }))
    by_drive (Steps ss) = rw (plugin-again p.plugin) refl
    by_drive (Horizon h) = rw (plugin-again p.plugin) refl

-- the names that the elements give themselves
names-again : {A : Type 0} (f : A → Data) (name : A → List ℕ) (xs : List A) → ((x : A) → name_in (f x) ≡ name x) → map name_in (forms.listed (items_of (map f xs))) ≡ map name xs
names-again f name [] h = refl
names-again f name (x ∷ xs) h = ap₂ (λ (y : List ℕ) (ys : List (List ℕ)). y ∷ ys) (h x) (names-again f name xs h)

sem_name-again : (s : Sem) → name_in (sem_data s) ≡ s.name
unfolding sem_data
sem_name-again s = refl

resv_name-again : (r : Resv) → name_in (resv_data r) ≡ r.name
unfolding resv_data
resv_name-again r = by_kind r.kind
  where
    by_kind : (k : ResvKind) → name_in (resv_data (record r { kind = k })) ≡ r.name
    by_kind Polling = refl
    by_kind Sporadic = refl
    by_kind Table = refl

task_name-again : (sems resvs : List (List ℕ)) (t : Task) → name_in (task_data sems resvs t) ≡ t.name
unfolding task_data
task_name-again sems resvs t = by_early t.early
  where
    by_early : (e : Bool) → name_in (task_data sems resvs (record t { early = e })) ≡ t.name
    by_early true = refl
    by_early false = refl

names_of-again : (p : Parts) → names_of (whole_data p) ≡ names_in p
names_of-again p =
    rw (
      names-again sem_data (λ (s : Sem). s.name) p.sems sem_name-again,
      names-again resv_data (λ (r : Resv). r.name) p.resvs resv_name-again,
      names-again (task_data (sem_names p.sems) (resv_names p.resvs)) (λ (t : Task). t.name) p.tasks (task_name-again (sem_names p.sems) (resv_names p.resvs)),
    )
    refl

abbrev pub KnowsActs : Names → List Step → Type 0
KnowsActs names [] = Unit {0}
KnowsActs names (s ∷ ss) = KnowsAct names s.act × KnowsActs names ss

abbrev pub KnowsDrive : Names → Drive → Type 0
KnowsDrive names (Steps ss) = KnowsActs names ss
KnowsDrive names (Horizon h) = Unit {0}

steps-again : (names : Names) (ss : List Step) → KnowsActs names ss → AllSeen (step_form names) (step_data names.sems names.tasks) draft_step ss
steps-again names [] k = tt
steps-again names (s ∷ ss) k = (step-again names s k.0, steps-again names ss k.1)

drive-again : (names : Names) (d : Drive) → KnowsDrive names d → drive_of names (play_data names d) ≡ Ok (draft_drive d)
unfolding drive_of
drive-again names (Steps ss) k = rw (elements-again parts.Step (step_form names) (step_data names.sems names.tasks) draft_step ss (steps-again names ss k)) refl
drive-again names (Horizon h) k = refl

horizon-again : (names : Names) (d : Drive) → has_horizon (play_data names d) ≡ words.has_horizon (draft_drive d)
horizon-again names (Steps ss) = refl
horizon-again names (Horizon h) = refl

-- what a setup's value needs to be read back
pub record IsReadable (p : Parts) : Type 0 where
  pub resvs : AllMayHave p.resvs
  pub tasks : AreRead (names_in p) (words.has_horizon (draft_drive p.drive)) 1 p.tasks
  pub drive : KnowsDrive (names_in p) p.drive

pub draft-again : (p : Parts) → IsReadable p → draft_of_value (set_data p) ≡ Ok (draft_of p)
unfolding draft_of_value
draft-again p h =
    rw (
      whole-again p,
      elements-again parts.Cluster cluster_form cluster_data draft_cluster p.clusters (clusters-again p.clusters),
      elements-again parts.Sem semaphore_form sem_data (λ (s : Sem). s) p.sems (sems-again p.sems),
      map-same p.sems,
      elements-again parts.Resv reservation_form resv_data draft_resv p.resvs (resvs-again p.resvs h.resvs),
      names_of-again p,
      horizon-again (names_in p) p.drive,
      tasks-again (names_in p) (words.has_horizon (draft_drive p.drive)) 1 p.tasks h.tasks,
      none-fails parts.Task (map canonical_plan p.tasks),
      drive-again (names_in p) p.drive h.drive,
    )
    refl

-- the draft stands for the setup
tasks_back : (ts : List Task) → map task_of (map canonical_plan ts) ≡ ts
tasks_back [] = refl
tasks_back (t ∷ ts) = ap₂ (λ (x : Task) (xs : List Task). x ∷ xs) (ap (λ b. record t { body = b }) (operations-runs t.body)) (tasks_back ts)

map_back : {A B : Type 0} (f : A → B) (g : B → A) (xs : List A) → ((x : A) → g (f x) ≡ x) → map g (map f xs) ≡ xs
map_back f g [] h = refl
map_back f g (x ∷ xs) h = ap₂ (λ y ys. y ∷ ys) (h x) (map_back f g xs h)

drive_back : (d : Drive) → draft.drive_of (draft_drive d) ≡ d
drive_back (Steps ss) = ap Steps (map_back draft_step step_of ss (λ s. refl))
drive_back (Horizon h) = refl

pub parts-again : (p : Parts) → parts_of (draft_of p) ≡ p
parts-again p =
    rw (map_back draft_cluster cluster_of p.clusters (λ c. refl), map_back draft_resv resv_of p.resvs (λ r. refl), tasks_back p.tasks, drive_back p.drive) refl
