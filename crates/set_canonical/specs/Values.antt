-- The elements of a set as JSON values: every member, in rising order of names.
use Rattle.std.specs.Prelude.{ℕ, ◌-◌, ◌==◌, Bool, true, List, [], ◌∷◌, map, Option, None, Some, unwrap_or, codes, slice_get, if◌then◌else◌}
use Rattle.rt_base.specs.declared.SemNo.{SemNo}
use Rattle.rt_base.specs.declared.ResvNo.{ResvNo}
use Rattle.rt_task.specs.declared.Op.{Op}
use Rattle.rt_task.specs.declared.Op.TheVariants as ops
use Rattle.rt_task.specs.declared.Act.{Act}
use Rattle.rt_task.specs.declared.Act.TheVariants as acts
use Rattle.rt_task.specs.declared.Task.{Task}
use Rattle.rt_task.specs.declared.Cluster.{Cluster}
use Rattle.rt_task.specs.declared.Sem.{Sem}
use Rattle.rt_task.specs.declared.Resv.{Resv}
use Rattle.rt_task.specs.declared.ResvKind.{ResvKind}
use Rattle.rt_task.specs.declared.ResvKind.TheVariants.{Table}
use Rattle.rt_task.specs.declared.Slot.{Slot}
use Rattle.rt_task.specs.declared.Step.{Step}
use Rattle.rt_task.specs.declared.draft.Piece.{Piece}
use Rattle.rt_task.specs.declared.draft.Piece.TheVariants.{Works, Once}
use Rattle.rt_task.specs.Draft.{runs}
use Rattle.serde_json.specs.Data.{Data, null, boolean, number, unsigned, string, array, object, Members, no_members, member}
use Rattle.serde_json.specs.View.{items_of}
use Rattle.set_canonical.specs.Words.{protocol_word, resv_kind_word, kind_word}

abbrev pub natural_data : ℕ → Data
natural_data n = number (unsigned n)

abbrev pub array_data : {A : Type 0} → (A → Data) → List A → Data
array_data f xs = array (items_of (map f xs))

abbrev pub tuple_data : List Data → Data
tuple_data ds = array (items_of ds)

-- ---- names

abbrev pub sem_names : List Sem → List (List ℕ)
sem_names ss = map (λ (s : Sem). s.name) ss

abbrev pub resv_names : List Resv → List (List ℕ)
resv_names rs = map (λ (r : Resv). r.name) rs

abbrev pub task_names : List Task → List (List ℕ)
task_names ts = map (λ (t : Task). t.name) ts

-- the name of the element with this number, from 1; a number that stands for no element has the empty name
abbrev pub name_at : List (List ℕ) → ℕ → List ℕ
name_at names n = if n == 0 then [] else unwrap_or (slice_get names (n - 1)) []

-- ---- elements

unfoldable pub cluster_data : Cluster → Data
cluster_data c = object (
    member (codes "cpus") (natural_data c.cpus) (
    member (codes "group") (natural_data c.group.0) no_members))

unfoldable pub sem_data : Sem → Data
sem_data s = object (
    member (codes "name") (string s.name) (
    member (codes "protocol") (string (protocol_word s.protocol)) no_members))

unfoldable pub slot_data : Slot → Data
slot_data s = tuple_data (natural_data s.from ∷ natural_data s.to ∷ [])

-- shown only of a table
abbrev pub shown_slots : ResvKind → List Slot → Members → Members
shown_slots Table slots rest = member (codes "slots") (array_data slot_data slots) rest
shown_slots _ slots rest = rest

unfoldable pub resv_data : Resv → Data
resv_data r = object (
    member (codes "budget") (natural_data r.budget) (
    member (codes "cluster") (natural_data r.cluster.0) (
    member (codes "kind") (string (resv_kind_word r.kind)) (
    member (codes "name") (string r.name) (
    member (codes "period") (natural_data r.period) (
    member (codes "prio") (natural_data r.prio) (
    shown_slots r.kind r.slots no_members)))))))

-- the word of an operation and its argument, over the names of the semaphores
abbrev pub op_items : List (List ℕ) → Op → List Data
op_items sems ops.Work = string (codes "work") ∷ []
op_items sems (ops.Lock s) = string (codes "lock") ∷ string (name_at sems s.0) ∷ []
op_items sems (ops.Unlock s) = string (codes "unlock") ∷ string (name_at sems s.0) ∷ []
op_items sems (ops.Sleep n) = string (codes "sleep") ∷ natural_data n ∷ []
op_items sems ops.NpOn = string (codes "npon") ∷ []
op_items sems ops.NpOff = string (codes "npoff") ∷ []
op_items sems ops.End = string (codes "end") ∷ []

-- the word of an act and its argument, over the names of the semaphores and the tasks
abbrev pub act_items : List (List ℕ) → List (List ℕ) → Act → List Data
act_items sems tasks acts.Tick = string (codes "tick") ∷ []
act_items sems tasks acts.Irq = string (codes "irq") ∷ []
act_items sems tasks (acts.Arrive t) = string (codes "arrive") ∷ string (name_at tasks t.0) ∷ []
act_items sems tasks (acts.Do op) = op_items sems op

unfoldable pub step_data : List (List ℕ) → List (List ℕ) → Step → Data
step_data sems tasks s = tuple_data (natural_data s.cpu.0 ∷ natural_data s.tick.0 ∷ act_items sems tasks s.act)

-- a run of Work, or another operation
unfoldable pub piece_data : List (List ℕ) → Piece → Data
piece_data sems (Works n) = tuple_data (string (codes "work") ∷ natural_data n ∷ [])
piece_data sems (Once op) = tuple_data (op_items sems op)

abbrev pub resv_or_null : List (List ℕ) → Option ResvNo → Data
resv_or_null resvs None = null
resv_or_null resvs (Some r) = string (name_at resvs r.0)

-- the names of semaphores
abbrev pub uses_data : List (List ℕ) → List SemNo → Data
uses_data sems uses = array_data (λ (s : SemNo). string (name_at sems s.0)) uses

-- shown only where it is true
abbrev pub shown_early : Bool → Members → Members
shown_early early rest = if early then member (codes "early") (boolean true) rest else rest

-- over the names of the semaphores and the reservations
unfoldable pub task_data : List (List ℕ) → List (List ℕ) → Task → Data
task_data sems resvs t = object (
    member (codes "body") (array_data (piece_data sems) (runs t.body)) (
    member (codes "cluster") (natural_data t.cluster.0) (
    member (codes "cost") (natural_data t.cost) (
    member (codes "deadline") (natural_data t.rel_deadline) (
    shown_early t.early (
    member (codes "enforce") (boolean t.enforce) (
    member (codes "kind") (string (kind_word t.kind)) (
    member (codes "name") (string t.name) (
    member (codes "period") (natural_data t.period) (
    member (codes "phase") (natural_data t.phase) (
    member (codes "prio") (natural_data t.prio) (
    member (codes "resv") (resv_or_null resvs t.resv) (
    member (codes "uses") (uses_data sems t.uses) no_members)))))))))))))
