-- The forms read back what the canonical text has.
use Rattle.std.proofs.Common.{◌≡◌, ℕ, ◌+◌, List, [], ◌∷◌, ◌++◌, Bool, true, false, cond, map, Option, Some, None, Ok, refl, ap, ◌∙◌, add-one}
use Rattle.std.specs.Prelude.{filter_map, flat_map, nat_lt}
use Rattle.rt_base.specs.declared.SemNo.{SemNo}
use Rattle.rt_base.specs.declared.TheConstants.{MOST_OPERATIONS}
use Rattle.rt_task.specs.declared.Op.{Op}
use Rattle.rt_task.specs.declared.Op.TheVariants as ops
use Rattle.rt_task.specs.declared.Act.{Act}
use Rattle.rt_task.specs.declared.Act.TheVariants as acts
use Rattle.rt_task.specs.declared.Cluster.{Cluster}
use Rattle.rt_task.specs.declared.Sem.{Sem}
use Rattle.rt_task.specs.declared.Resv.{Resv}
use Rattle.rt_task.specs.declared.Step.{Step}
use Rattle.rt_task.specs.declared.Kind.{Kind}
use Rattle.rt_task.specs.declared.Kind.TheVariants as task_kinds
use Rattle.rt_task.specs.declared.ResvKind.{ResvKind}
use Rattle.rt_task.specs.declared.ResvKind.TheVariants as resv_kinds
use Rattle.rt_task.specs.declared.Protocol.{Protocol}
use Rattle.rt_task.specs.declared.Protocol.TheVariants.{Fmlp, Omlp, Pcp, Mpcp, Srp}
use Rattle.rt_task.specs.declared.PluginKind.{PluginKind}
use Rattle.rt_task.specs.declared.PluginKind.TheVariants.{GsnEdf, CEdf, PsnEdf, PFp, PRes}
use Rattle.rt_task.specs.declared.bad_set.Part.{Part}
use Rattle.serde_json.specs.Data.{Data, string}
use Rattle.serde_json.specs.View.{items_of}
use Rattle.rt_task.specs.declared.draft.Piece.{Piece}
use Rattle.rt_task.specs.declared.draft.Piece.TheVariants.{Works, Once}
use Rattle.rt_task.specs.Refusals.{first_failing}
use Rattle.rt_task.specs.SlotRules.{may_have}
use Rattle.rt_task.specs.declared.Slot.{Slot}
use Rattle.set_read.specs.Forms as forms
use Rattle.set_read.specs.Document.{Names, plugins, protocols, reservation_kinds, release_kinds, position_from, sem_form, cluster_form, semaphore_form, slot_form, reservation_form, step_form, piece_form}
use Rattle.set_read.specs.Sets.{elements, has_form, same}
use Rattle.rt_task.specs.Draft.{operations, runs, one_more_work, draft_cluster, draft_resv, draft_step}
use Rattle.set_canonical.specs.Words.{plugin_word, protocol_word, resv_kind_word, kind_word}
use Rattle.set_canonical.specs.Values.{cluster_data, sem_data, slot_data, resv_data, step_data, piece_data, name_at, array_data}

-- ---- words

protocol-again : (x : Protocol) → forms.word_in protocols (protocol_word x) ≡ Some x
protocol-again Fmlp = refl
protocol-again Omlp = refl
protocol-again Pcp = refl
protocol-again Mpcp = refl
protocol-again Srp = refl

pub plugin-again : (x : PluginKind) → forms.word_in plugins (plugin_word x) ≡ Some x
plugin-again GsnEdf = refl
plugin-again CEdf = refl
plugin-again PsnEdf = refl
plugin-again PFp = refl
plugin-again PRes = refl

resv_kind-again : (x : ResvKind) → forms.word_in reservation_kinds (resv_kind_word x) ≡ Some x
resv_kind-again resv_kinds.Polling = refl
resv_kind-again resv_kinds.Sporadic = refl
resv_kind-again resv_kinds.Table = refl

pub kind-again : (x : Kind) → forms.word_in release_kinds (kind_word x) ≡ Some x
kind-again task_kinds.Periodic = refl
kind-again task_kinds.Sporadic = refl

-- ---- elements

pub cluster-again : (c : Cluster) → cluster_form (cluster_data c) ≡ Some (draft_cluster c)
unfolding cluster_form cluster_data
cluster-again c = refl

pub sem-again : (s : Sem) → semaphore_form (sem_data s) ≡ Some s
unfolding semaphore_form sem_data
sem-again s = rw (protocol-again s.protocol) refl

-- ---- names

-- the numbers of the setup are those that its names have
pub record KnowsSem (names : Names) (s : SemNo) : Type 0 where
  pub known : position_from 1 names.sems (name_at names.sems s.0) ≡ s.0

abbrev pub KnowsOp : Names → Op → Type 0
KnowsOp names (ops.Lock s) = KnowsSem names s
KnowsOp names (ops.Unlock s) = KnowsSem names s
KnowsOp names _ = Unit {0}

abbrev pub KnowsAct : Names → Act → Type 0
KnowsAct names (acts.Arrive t) = position_from 1 names.tasks (name_at names.tasks t.0) ≡ t.0
KnowsAct names (acts.Do op) = KnowsOp names op
KnowsAct names _ = Unit {0}

pub sem_no-again : (names : Names) (s : SemNo) → KnowsSem names s → sem_form names (string (name_at names.sems s.0)) ≡ Some s
sem_no-again names s k = rw k.known refl

pub step-again : (names : Names) (s : Step) → KnowsAct names s.act → step_form names (step_data names.sems names.tasks s) ≡ Some (draft_step s)
unfolding step_form step_data
step-again names s k = by_act s.act k
  where
    again : Act → Type 0
    again a = step_form names (step_data names.sems names.tasks (record s { act = a })) ≡ Some (draft_step (record s { act = a }))

    by_act : (a : Act) → KnowsAct names a → again a
    by_act acts.Tick k = refl
    by_act acts.Irq k = refl
    by_act (acts.Arrive t) k = rw k refl
    by_act (acts.Do ops.Work) k = refl
    by_act (acts.Do (ops.Lock s)) k = rw k.known refl
    by_act (acts.Do (ops.Unlock s)) k = rw k.known refl
    by_act (acts.Do (ops.Sleep n)) k = refl
    by_act (acts.Do ops.NpOn) k = refl
    by_act (acts.Do ops.NpOff) k = refl
    by_act (acts.Do ops.End) k = refl

-- ---- lists

-- each element is read back
abbrev pub AllAgain : {A : Type 0} → (Data → Option A) → (A → Data) → List A → Type 0
AllAgain form f [] = Unit {0}
AllAgain form f (x ∷ xs) = (form (f x) ≡ Some x) × AllAgain form f xs

every-again : {A : Type 0} (form : Data → Option A) (f : A → Data) (xs : List A) → AllAgain form f xs → forms.every form (forms.listed (items_of (map f xs))) ≡ Some xs
every-again form f [] h = refl
every-again form f (x ∷ xs) h = rw (h.0, every-again form f xs h.1) refl

pub list_of-array_data : {A : Type 0} (form : Data → Option A) (f : A → Data) (xs : List A) → AllAgain form f xs → forms.list_of form (array_data f xs) ≡ Some xs
list_of-array_data form f xs h = every-again form f xs h

-- each element is read as what g makes of it
abbrev pub AllSeen : {A B : Type 0} → (Data → Option B) → (A → Data) → (A → B) → List A → Type 0
AllSeen form f g [] = Unit {0}
AllSeen form f g (x ∷ xs) = (form (f x) ≡ Some (g x)) × AllSeen form f g xs

pub forms-again : {A B : Type 0} (form : Data → Option B) (f : A → Data) (g : A → B) (xs : List A) → AllSeen form f g xs → map form (forms.listed (items_of (map f xs))) ≡ map Some (map g xs)
forms-again form f g [] h = refl
forms-again form f g (x ∷ xs) h = rw h.0 (ap (λ ys. Some (g x) ∷ ys) (forms-again form f g xs h.1))

pub none-fail : {A : Type 0} (earlier : List (Option A)) (xs : List A) → first_failing has_form earlier (map Some xs) ≡ None
none-fail earlier [] = refl
none-fail earlier (x ∷ xs) = none-fail (earlier ++ Some x ∷ []) xs

pub all-kept : {A : Type 0} (xs : List A) → filter_map same (map Some xs) ≡ xs
all-kept [] = refl
all-kept (x ∷ xs) = ap (λ ys. x ∷ ys) (all-kept xs)

pub elements-again : {A B : Type 0} (part : Part) (form : Data → Option B) (f : A → Data) (g : A → B) (xs : List A) → AllSeen form f g xs → elements part (map form (forms.listed (items_of (map f xs)))) ≡ Ok (map g xs)
unfolding elements
elements-again part form f g xs h = rw (forms-again form f g xs h, none-fail [] (map g xs), all-kept (map g xs)) refl

all_by : {A B : Type 0} (form : Data → Option B) (f : A → Data) (g : A → B) (xs : List A) → ((x : A) → form (f x) ≡ Some (g x)) → AllSeen form f g xs
all_by form f g [] h = tt
all_by form f g (x ∷ xs) h = (h x, all_by form f g xs h)

pub clusters-again : (cs : List Cluster) → AllSeen cluster_form cluster_data draft_cluster cs
clusters-again cs = all_by cluster_form cluster_data draft_cluster cs cluster-again

pub sems-again : (ss : List Sem) → AllSeen semaphore_form sem_data (λ (s : Sem). s) ss
sems-again ss = all_by semaphore_form sem_data (λ (s : Sem). s) ss sem-again

slot-again : (s : Slot) → slot_form (slot_data s) ≡ Some s
unfolding slot_form slot_data
slot-again s = refl

slots-again : (ss : List Slot) → AllAgain slot_form slot_data ss
slots-again [] = tt
slots-again (s ∷ ss) = (slot-again s, slots-again ss)

-- only a table has slots to be read back
resv_by_kind-again : (r : Resv) (k : ResvKind) (ss : List Slot) → may_have k ss ≡ true → reservation_form (resv_data (record r { kind = k; slots = ss })) ≡ Some (draft_resv (record r { kind = k; slots = ss }))
unfolding reservation_form resv_data
resv_by_kind-again r resv_kinds.Polling [] h = refl
resv_by_kind-again r resv_kinds.Polling (s ∷ ss) h = cc
resv_by_kind-again r resv_kinds.Sporadic [] h = refl
resv_by_kind-again r resv_kinds.Sporadic (s ∷ ss) h = cc
resv_by_kind-again r resv_kinds.Table ss h = rw (every-again slot_form slot_data ss (slots-again ss)) refl

pub resv-again : (r : Resv) → may_have r.kind r.slots ≡ true → reservation_form (resv_data r) ≡ Some (draft_resv r)
resv-again r h = resv_by_kind-again r r.kind r.slots h

abbrev pub AllMayHave : List Resv → Type 0
AllMayHave [] = Unit {0}
AllMayHave (r ∷ rs) = (may_have r.kind r.slots ≡ true) × AllMayHave rs

pub resvs-again : (rs : List Resv) → AllMayHave rs → AllSeen reservation_form resv_data draft_resv rs
resvs-again [] h = tt
resvs-again (r ∷ rs) h = (resv-again r h.0, resvs-again rs h.1)

pub map-same : {A : Type 0} (xs : List A) → map (λ x. x) xs ≡ xs
map-same [] = refl
map-same (x ∷ xs) = ap (λ ys. x ∷ ys) (map-same xs)

-- ---- bodies

abbrev pub KnowsOps : Names → List Op → Type 0
KnowsOps names [] = Unit {0}
KnowsOps names (op ∷ rest) = KnowsOp names op × KnowsOps names rest

works-again : (names : Names) (n : ℕ) → piece_form names (piece_data names.sems (Works n)) ≡ Some (Works n)
unfolding piece_form piece_data
works-again names n = refl

one_more-again : (names : Names) (xs : List Piece) → AllAgain (piece_form names) (piece_data names.sems) xs → AllAgain (piece_form names) (piece_data names.sems) (one_more_work xs)
one_more-again names [] h = (works-again names 1, tt)
one_more-again names (Works n ∷ rest) h = by_room (nat_lt n MOST_OPERATIONS)
  where
    by_room : (b : Bool) → AllAgain (piece_form names) (piece_data names.sems) (cond b (Works (n + 1) ∷ rest) (Works 1 ∷ Works n ∷ rest))
    by_room true = (works-again names (n + 1), h.1)
    by_room false = (works-again names 1, h)
one_more-again names (Once op ∷ rest) h = (works-again names 1, h)

pub pieces-again : (names : Names) (body : List Op) → KnowsOps names body → AllAgain (piece_form names) (piece_data names.sems) (runs body)
unfolding runs piece_form piece_data
pieces-again names [] k = tt
pieces-again names (ops.Work ∷ rest) k = one_more-again names (runs rest) (pieces-again names rest k.1)
pieces-again names (ops.Lock s ∷ rest) k = (rw k.0.known refl, pieces-again names rest k.1)
pieces-again names (ops.Unlock s ∷ rest) k = (rw k.0.known refl, pieces-again names rest k.1)
pieces-again names (ops.Sleep n ∷ rest) k = (refl, pieces-again names rest k.1)
pieces-again names (ops.NpOn ∷ rest) k = (refl, pieces-again names rest k.1)
pieces-again names (ops.NpOff ∷ rest) k = (refl, pieces-again names rest k.1)
pieces-again names (ops.End ∷ rest) k = (refl, pieces-again names rest k.1)

-- the body comes back out of its runs
operations-one_more : (xs : List Piece) → flat_map operations (one_more_work xs) ≡ ops.Work ∷ flat_map operations xs
operations-one_more [] = refl
operations-one_more (Works n ∷ rest) = by_room (nat_lt n MOST_OPERATIONS)
  where
    by_room : (b : Bool) → flat_map operations (cond b (Works (n + 1) ∷ rest) (Works 1 ∷ Works n ∷ rest)) ≡ ops.Work ∷ flat_map operations (Works n ∷ rest)
    by_room true = rw add-one refl
    by_room false = refl
operations-one_more (Once op ∷ rest) = refl

pub operations-runs : (body : List Op) → flat_map operations (runs body) ≡ body
unfolding runs
operations-runs [] = refl
operations-runs (ops.Work ∷ rest) = operations-one_more (runs rest) ∙ ap (λ xs. ops.Work ∷ xs) (operations-runs rest)
operations-runs (ops.Lock s ∷ rest) = ap (λ xs. ops.Lock s ∷ xs) (operations-runs rest)
operations-runs (ops.Unlock s ∷ rest) = ap (λ xs. ops.Unlock s ∷ xs) (operations-runs rest)
operations-runs (ops.Sleep n ∷ rest) = ap (λ xs. ops.Sleep n ∷ xs) (operations-runs rest)
operations-runs (ops.NpOn ∷ rest) = ap (λ xs. ops.NpOn ∷ xs) (operations-runs rest)
operations-runs (ops.NpOff ∷ rest) = ap (λ xs. ops.NpOff ∷ xs) (operations-runs rest)
operations-runs (ops.End ∷ rest) = ap (λ xs. ops.End ∷ xs) (operations-runs rest)
