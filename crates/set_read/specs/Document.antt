-- What a document says: the members, their forms and their defaults.
use Rattle.std.specs.Prelude.{ℕ, ◌+◌, Bool, true, false, not, ◌&&◌, ◌||◌, List, [], ◌∷◌, Option, None, Some, option_map, codes, bytes_eq}
use Rattle.std.specs.Prelude.{if◌then◌else◌, map, unwrap_or}
use Rattle.rt_base.specs.declared.TaskNo.{TaskNo}
use Rattle.rt_base.specs.declared.SemNo.{SemNo}
use Rattle.rt_base.specs.declared.ResvNo.{ResvNo}
use Rattle.rt_base.specs.declared.TheConstants.{MOST_PRIO}
use Rattle.rt_task.specs.declared.Op.{Op}
use Rattle.rt_task.specs.declared.Op.TheVariants as ops
use Rattle.rt_task.specs.declared.Act.{Act}
use Rattle.rt_task.specs.declared.Act.TheVariants as acts
use Rattle.rt_task.specs.declared.draft.DraftCluster.{DraftCluster}
use Rattle.rt_task.specs.declared.Sem.{Sem}
use Rattle.rt_task.specs.declared.Slot.{Slot}
use Rattle.rt_task.specs.declared.draft.DraftResv.{DraftResv}
use Rattle.rt_task.specs.declared.draft.DraftStep.{DraftStep}
use Rattle.rt_task.specs.declared.Kind.{Kind}
use Rattle.rt_task.specs.declared.Kind.TheVariants as task_kinds
use Rattle.rt_task.specs.declared.ResvKind.{ResvKind}
use Rattle.rt_task.specs.declared.ResvKind.TheVariants as resv_kinds
use Rattle.rt_task.specs.declared.Protocol.{Protocol}
use Rattle.rt_task.specs.declared.Protocol.TheVariants.{Fmlp, Omlp, Pcp, Mpcp, Srp}
use Rattle.rt_task.specs.declared.PluginKind.{PluginKind}
use Rattle.rt_task.specs.declared.PluginKind.TheVariants.{GsnEdf, CEdf, PsnEdf, PFp, PRes}
use Rattle.serde_json.specs.Data.{Data}
use Rattle.serde_json.specs.Find.{get}
use Rattle.rt_task.specs.declared.draft.Piece.{Piece}
use Rattle.rt_task.specs.declared.draft.DraftTask.{DraftTask}
use Rattle.rt_task.specs.declared.draft.Piece.TheVariants.{Works, Once}
use Rattle.set_read.specs.Forms.{◌>>=◌, object_of, natural, text, truth, one_of, word_in, or_null, items, list_of, required, optional}
use Rattle.rt_task.specs.RuleWords.{is_empty, is_periodic}

-- ---- the words

abbrev pub plugins : List (List ℕ × PluginKind)
plugins = (codes "GSN-EDF", GsnEdf) ∷ (codes "C-EDF", CEdf) ∷ (codes "PSN-EDF", PsnEdf) ∷ (codes "P-FP", PFp) ∷ (codes "P-RES", PRes) ∷ []

abbrev pub protocols : List (List ℕ × Protocol)
protocols = (codes "FMLP", Fmlp) ∷ (codes "OMLP", Omlp) ∷ (codes "PCP", Pcp) ∷ (codes "MPCP", Mpcp) ∷ (codes "SRP", Srp) ∷ []

abbrev pub reservation_kinds : List (List ℕ × ResvKind)
reservation_kinds = (codes "polling", resv_kinds.Polling) ∷ (codes "sporadic", resv_kinds.Sporadic) ∷ (codes "table", resv_kinds.Table) ∷ []

abbrev pub release_kinds : List (List ℕ × Kind)
release_kinds = (codes "periodic", task_kinds.Periodic) ∷ (codes "sporadic", task_kinds.Sporadic) ∷ []

-- ---- names stand for positions, and an unknown one for 0

pub record Names : Type 0 where
  pub sems : List (List ℕ)
  pub resvs : List (List ℕ)
  pub tasks : List (List ℕ)

abbrev pub position_from : ℕ → List (List ℕ) → List ℕ → ℕ
position_from n [] w = 0
position_from n (x ∷ xs) w = if bytes_eq x w then n else position_from (n + 1) xs w

abbrev pub sem_form : Names → Data → Option SemNo
sem_form names d = option_map (λ w. record { 0 = position_from 1 names.sems w }) (text d)

abbrev pub resv_form : Names → Data → Option ResvNo
resv_form names d = option_map (λ w. record { 0 = position_from 1 names.resvs w }) (text d)

abbrev pub task_number : Names → Data → Option TaskNo
task_number names d = option_map (λ w. record { 0 = position_from 1 names.tasks w }) (text d)

-- ---- acts and operations

-- the operations that need nothing, by their word
abbrev pub bare_ops : List (List ℕ × Op)
bare_ops = (codes "npon", ops.NpOn) ∷ (codes "npoff", ops.NpOff) ∷ (codes "end", ops.End) ∷ []

abbrev pub bare_acts : List (List ℕ × Act)
bare_acts =
    (codes "tick", acts.Tick) ∷ (codes "irq", acts.Irq) ∷ (codes "work", acts.Do ops.Work)
    ∷ (codes "npon", acts.Do ops.NpOn) ∷ (codes "npoff", acts.Do ops.NpOff) ∷ (codes "end", acts.Do ops.End) ∷ []

-- an operation with its one argument
abbrev pub op_with : Names → List ℕ → Data → Option Op
op_with names w x =
    if bytes_eq w (codes "lock") then option_map ops.Lock (sem_form names x)
    else (if bytes_eq w (codes "unlock") then option_map ops.Unlock (sem_form names x)
    else (if bytes_eq w (codes "sleep") then option_map ops.Sleep (natural x) else None))

abbrev pub act_with : Names → List ℕ → Data → Option Act
act_with names w x =
    if bytes_eq w (codes "arrive") then option_map acts.Arrive (task_number names x) else option_map acts.Do (op_with names w x)

abbrev pub piece_with : Names → List ℕ → Data → Option Piece
piece_with names w x =
    if bytes_eq w (codes "work") then option_map Works (natural x) else option_map Once (op_with names w x)

abbrev pub act_form : Names → List ℕ → List Data → Option Act
act_form names w [] = word_in bare_acts w
act_form names w (x ∷ []) = act_with names w x
act_form names w _ = None

abbrev pub piece_items : Names → List Data → Option Piece
piece_items names (w ∷ []) = option_map Once (one_of bare_ops w)
piece_items names (w ∷ x ∷ []) = text w >>= λ word. piece_with names word x
piece_items names _ = None

unfoldable pub piece_form : Names → Data → Option Piece
piece_form names d = items d >>= piece_items names

abbrev pub step_items : Names → List Data → Option DraftStep
step_items names (q ∷ t ∷ w ∷ args) = do
  cpu ← natural q
  tick ← natural t
  word ← text w
  act ← act_form names word args
  Some (record { cpu = cpu; tick = tick; act = act })
step_items names _ = None

unfoldable pub step_form : Names → Data → Option DraftStep
step_form names d = items d >>= step_items names

-- ---- the elements

unfoldable pub cluster_form : Data → Option DraftCluster
cluster_form d = do
  _ ← object_of (codes "cpus" ∷ codes "group" ∷ []) d
  cpus ← required natural (codes "cpus") d
  group ← optional natural 0 (codes "group") d
  Some (record { cpus = cpus; group = group })

unfoldable pub semaphore_form : Data → Option Sem
semaphore_form d = do
  _ ← object_of (codes "name" ∷ codes "protocol" ∷ []) d
  name ← required text (codes "name") d
  protocol ← required (one_of protocols) (codes "protocol") d
  Some (record { name = name; protocol = protocol })

abbrev pub slot_items : List Data → Option Slot
slot_items (a ∷ b ∷ []) = do
  from ← natural a
  to ← natural b
  Some (record { from = from; to = to })
slot_items _ = None

unfoldable pub slot_form : Data → Option Slot
slot_form d = items d >>= slot_items

abbrev pub no_form : Data → Option (List Slot)
no_form d = None

-- the slots stand exactly where the kind is a table
abbrev pub slots_form : ResvKind → Data → Option (List Slot)
slots_form resv_kinds.Table d = required (list_of slot_form) (codes "slots") d
slots_form _ d = optional no_form [] (codes "slots") d

abbrev pub reservation_members : List (List ℕ)
reservation_members =
    codes "name" ∷ codes "cluster" ∷ codes "kind" ∷ codes "budget" ∷ codes "period" ∷ codes "prio" ∷ codes "slots" ∷ []

unfoldable pub reservation_form : Data → Option DraftResv
reservation_form d = do
  _ ← object_of reservation_members d
  name ← required text (codes "name") d
  cluster ← optional natural 0 (codes "cluster") d
  kind ← required (one_of reservation_kinds) (codes "kind") d
  budget ← required natural (codes "budget") d
  period ← required natural (codes "period") d
  prio ← optional natural MOST_PRIO (codes "prio") d
  slots ← slots_form kind d
  Some (record { name = name; cluster = cluster; kind = kind; budget = budget; period = period; prio = prio; slots = slots })

abbrev pub task_members : List (List ℕ)
task_members =
    codes "name" ∷ codes "cluster" ∷ codes "cost" ∷ codes "period" ∷ codes "deadline" ∷ codes "phase" ∷ codes "kind"
    ∷ codes "prio" ∷ codes "enforce" ∷ codes "uses" ∷ codes "resv" ∷ codes "body" ∷ codes "early" ∷ []

-- the n-th task
unfoldable pub task_form : Names → ℕ → Data → Option DraftTask
task_form names n d = do
  _ ← object_of task_members d
  name ← required text (codes "name") d
  cluster ← optional natural 0 (codes "cluster") d
  cost ← required natural (codes "cost") d
  period ← required natural (codes "period") d
  deadline ← optional natural period (codes "deadline") d
  phase ← optional natural 0 (codes "phase") d
  kind ← optional (one_of release_kinds) task_kinds.Periodic (codes "kind") d
  prio ← optional natural MOST_PRIO (codes "prio") d
  enforce ← optional truth false (codes "enforce") d
  uses ← optional (list_of (sem_form names)) [] (codes "uses") d
  resv ← optional (or_null (resv_form names)) None (codes "resv") d
  body ← optional (list_of (piece_form names)) [] (codes "body") d
  early ← optional truth false (codes "early") d
  Some (record {
    number = record { 0 = n };
    name = name;
    cluster = cluster;
    cost = cost;
    period = period;
    rel_deadline = deadline;
    phase = phase;
    kind = kind;
    prio = prio;
    enforce = enforce;
    uses = uses;
    resv = resv;
    pieces = body;
    early = early;
  })

-- ---- the document as a whole

-- what a document runs by: steps, or a horizon
pub data Play : Type 0 where
  steps : List Data → Play
  horizon : ℕ → Play

-- a document whose elements are not read yet
pub record Whole : Type 0 where
  pub plugin : PluginKind
  pub clusters : List Data
  pub sems : List Data
  pub resvs : List Data
  pub tasks : List Data
  pub play : Play

-- exactly one of the two stands
abbrev pub play_of : Option Data → Option Data → Option Play
play_of (Some s) None = option_map steps (items s)
play_of None (Some h) = option_map horizon (natural h)
play_of _ _ = None

abbrev pub whole_members : List (List ℕ)
whole_members = codes "plugin" ∷ codes "clusters" ∷ codes "sems" ∷ codes "resvs" ∷ codes "tasks" ∷ codes "steps" ∷ codes "horizon" ∷ []

unfoldable pub whole_of : Data → Option Whole
whole_of d = do
  _ ← object_of whole_members d
  plugin ← required (one_of plugins) (codes "plugin") d
  clusters ← required items (codes "clusters") d
  sems ← optional items [] (codes "sems") d
  resvs ← optional items [] (codes "resvs") d
  tasks ← optional items [] (codes "tasks") d
  play ← play_of (get (codes "steps") d) (get (codes "horizon") d)
  Some (record { plugin = plugin; clusters = clusters; sems = sems; resvs = resvs; tasks = tasks; play = play })

-- the name that an element gives itself
abbrev pub name_in : Data → List ℕ
name_in d = unwrap_or (required text (codes "name") d) []

abbrev pub names_of : Whole → Names
names_of w = record { sems = map name_in w.sems; resvs = map name_in w.resvs; tasks = map name_in w.tasks }

abbrev pub has_horizon : Play → Bool
has_horizon (steps xs) = false
has_horizon (horizon h) = true

-- in a set with a horizon a task is periodic and has a body
abbrev pub shaped : Bool → Option DraftTask → Option DraftTask
shaped needs None = None
shaped needs (Some p) = if not needs || (is_periodic p.kind && not (is_empty p.pieces)) then Some p else None

-- the tasks, each with its number
abbrev pub tasks_from : Names → Bool → ℕ → List Data → List (Option DraftTask)
tasks_from names needs n [] = []
tasks_from names needs n (d ∷ ds) = shaped needs (task_form names n d) ∷ tasks_from names needs (n + 1) ds
