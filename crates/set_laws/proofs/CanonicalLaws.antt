-- The canonical text of a setup reads as that setup.
use Rattle.std.proofs.Common.{◌≡◌, ℕ, ◌≤◌, List, [], ◌∷◌, Bool, true, false, map, Option, Some, None, Result, Ok, Err, ◌↔◌, refl, ap, sym, subst, ◌∙◌, arith}
use Rattle.std.proofs.lemmas.Str.{is_utf8-from_IsUtf8}
use Rattle.rt_base.specs.declared.SemNo.{SemNo}
use Rattle.rt_base.specs.declared.ResvNo.{ResvNo}
use Rattle.rt_task.specs.declared.Op.{Op}
use Rattle.rt_task.specs.declared.Op.TheVariants as ops
use Rattle.rt_task.specs.declared.Act.{Act}
use Rattle.rt_task.specs.declared.Act.TheVariants as acts
use Rattle.rt_task.specs.declared.Resv.{Resv}
use Rattle.rt_task.specs.declared.ResvKind.{ResvKind}
use Rattle.rt_task.specs.declared.ResvKind.TheVariants.{Polling, Sporadic, Table}
use Rattle.rt_task.specs.declared.Slot.{Slot}
use Rattle.rt_task.specs.declared.Task.{Task}
use Rattle.rt_task.specs.declared.Step.{Step}
use Rattle.rt_task.specs.declared.Drive.{Drive}
use Rattle.rt_task.specs.declared.Drive.TheVariants.{Steps, Horizon}
use Rattle.rt_task.specs.declared.Parts.{Parts}
use Rattle.rt_task.specs.declared.draft.Piece.{Piece}
use Rattle.rt_task.specs.declared.draft.Piece.TheVariants.{Works, Once}
use Rattle.rt_task.specs.declared.bad_set.BadSet.{BadSet}
use Rattle.rt_task.specs.declared.draft.Draft.{Draft}
use Rattle.rt_task.specs.Answers.{accepted}
use Rattle.rt_task.specs.Draft.{runs, draft_of, parts_of}
use Rattle.rt_task.specs.Validity.{refusal, whole_refusal, refusal_of, IsValid}
use Rattle.set_rules.proofs.AcceptLaws.{valid_parts_of}
use Rattle.serde_json.specs.Data.{Data, string, depth, items_depth}
use Rattle.serde_json.specs.Read.{max_depth}
use Rattle.serde_json.specs.View.{items_of}
use Rattle.set_canonical.specs.Canonical.{canonical, set_data}
use Rattle.set_canonical.specs.Values.{cluster_data, sem_data, slot_data, resv_data, task_data, step_data, piece_data, op_items, act_items, name_at, sem_names, resv_names, task_names}
use Rattle.set_read.specs.Sets.{◌>>=◌, set, value_of, draft_in_bytes}
use Rattle.set_read.proofs.ShapeLaws.{set-read}
use Rattle.set_laws.proofs.CompactLaws.{IsStored, IsUtf8-compact_text, read-compact_text}
use Rattle.set_laws.proofs.KnownLaws.{has_fresh, is_readable}
use Rattle.set_laws.proofs.Passing.{rows}
use Rattle.set_laws.proofs.StoredLaws.{is_stored}
use Rattle.set_laws.proofs.WholeLaws.{IsReadable, draft-again, parts-again}

-- ---- the value nests at most five deep

items_depth-by : {A : Type 0} (f : A → Data) (k : ℕ) (xs : List A) → ((x : A) → depth (f x) ≤ k) → items_depth (items_of (map f xs)) ≤ k
items_depth-by f k [] h = omega arith
items_depth-by f k (x ∷ xs) h = let here = h x in let rest = items_depth-by f k xs h in omega arith

op_items-depth : (sems : List (List ℕ)) (op : Op) → items_depth (items_of (op_items sems op)) ≤ 0
op_items-depth sems ops.Work = omega arith
op_items-depth sems (ops.Lock s) = omega arith
op_items-depth sems (ops.Unlock s) = omega arith
op_items-depth sems (ops.Sleep n) = omega arith
op_items-depth sems ops.NpOn = omega arith
op_items-depth sems ops.NpOff = omega arith
op_items-depth sems ops.End = omega arith

act_items-depth : (sems tasks : List (List ℕ)) (a : Act) → items_depth (items_of (act_items sems tasks a)) ≤ 0
act_items-depth sems tasks acts.Tick = omega arith
act_items-depth sems tasks acts.Irq = omega arith
act_items-depth sems tasks (acts.Arrive t) = omega arith
act_items-depth sems tasks (acts.Do op) = op_items-depth sems op

piece_data-depth : (sems : List (List ℕ)) (x : Piece) → depth (piece_data sems x) ≤ 1
unfolding piece_data
piece_data-depth sems (Works n) = omega arith
piece_data-depth sems (Once op) = let h = op_items-depth sems op in omega arith

step_data-depth : (sems tasks : List (List ℕ)) (s : Step) → depth (step_data sems tasks s) ≤ 1
unfolding step_data
step_data-depth sems tasks s = let h = act_items-depth sems tasks s.act in omega arith

task_data-depth : (sems resvs : List (List ℕ)) (t : Task) → depth (task_data sems resvs t) ≤ 3
unfolding task_data
task_data-depth sems resvs t = by_early t.early t.resv
  where
    body : items_depth (items_of (map (piece_data sems) (runs t.body))) ≤ 1
    body = items_depth-by (piece_data sems) 1 (runs t.body) (piece_data-depth sems)

    uses : items_depth (items_of (map (λ (s : SemNo). string (name_at sems s.0)) t.uses)) ≤ 0
    uses = items_depth-by (λ (s : SemNo). string (name_at sems s.0)) 0 t.uses (λ s. omega arith)

    by_early : (e : Bool) (r : Option ResvNo) → depth (task_data sems resvs (record t { early = e; resv = r })) ≤ 3
    by_early true None = omega (arith, body, uses)
    by_early false None = omega (arith, body, uses)
    by_early true (Some r) = omega (arith, body, uses)
    by_early false (Some r) = omega (arith, body, uses)

slot_data-depth : (s : Slot) → depth (slot_data s) ≤ 1
unfolding slot_data
slot_data-depth s = omega arith

resv_data-depth : (r : Resv) → depth (resv_data r) ≤ 3
unfolding resv_data
resv_data-depth r = by_kind r.kind
  where
    slots : items_depth (items_of (map slot_data r.slots)) ≤ 1
    slots = items_depth-by slot_data 1 r.slots slot_data-depth

    by_kind : (k : ResvKind) → depth (resv_data (record r { kind = k })) ≤ 3
    by_kind Polling = omega arith
    by_kind Sporadic = omega arith
    by_kind Table = omega (arith, slots)

set_data-depth : (p : Parts) → depth (set_data p) ≤ 5
unfolding set_data cluster_data sem_data
set_data-depth p = by_drive p.drive
  where
    clusters : items_depth (items_of (map cluster_data p.clusters)) ≤ 1
    clusters = items_depth-by cluster_data 1 p.clusters (λ c. omega arith)

    sems : items_depth (items_of (map sem_data p.sems)) ≤ 1
    sems = items_depth-by sem_data 1 p.sems (λ c. omega arith)

    resvs : items_depth (items_of (map resv_data p.resvs)) ≤ 3
    resvs = items_depth-by resv_data 3 p.resvs resv_data-depth

    tasks : items_depth (items_of (map (task_data (sem_names p.sems) (resv_names p.resvs)) p.tasks)) ≤ 3
    tasks = items_depth-by (task_data (sem_names p.sems) (resv_names p.resvs)) 3 p.tasks (task_data-depth (sem_names p.sems) (resv_names p.resvs))

    steps : (ss : List Step) → items_depth (items_of (map (step_data (sem_names p.sems) (task_names p.tasks)) ss)) ≤ 1
    steps ss = items_depth-by (step_data (sem_names p.sems) (task_names p.tasks)) 1 ss (step_data-depth (sem_names p.sems) (task_names p.tasks))

    by_drive : (d : Drive) → depth (set_data (record p { drive = d })) ≤ 5
    by_drive (Steps ss) = omega (arith, clusters, sems, resvs, tasks, steps ss)
    by_drive (Horizon h) = omega (arith, clusters, sems, resvs, tasks)

-- ---- the law

set-canonical : (p : Parts) → IsReadable p → IsStored (set_data p) → refusal (draft_of p) ≡ None → set (canonical p) ≡ Ok p
unfolding set canonical value_of draft_in_bytes
set-canonical p readable stored valid =
    let shallow : depth (set_data p) ≤ max_depth = let h = set_data-depth p in omega arith in
    rw (is_utf8-from_IsUtf8 _ (IsUtf8-compact_text (set_data p) stored), read-compact_text (set_data p) stored shallow, draft-again p readable, valid) (ap Ok (parts-again p))

pub set-of-canonical : (p : Parts) → IsValid p → set (canonical p) ≡ Ok p
unfolding refusal_of
set-of-canonical p valid =
    let h = rows (draft_of p) valid in
    let fresh = has_fresh p h in
    set-canonical p (is_readable p fresh h) (is_stored p h) h.unrefused

-- ---- documents

-- what a document says is a valid set
set-valid : (bytes : List ℕ) (p : Parts) → set bytes ≡ Ok p → IsValid p
unfolding set
set-valid bytes p h = by_draft (draft_in_bytes bytes) refl
  where
    by_refusal : (d : Draft) (o : Option BadSet) → whole_refusal d ≡ o → accepted d o ≡ Ok p → IsValid p
    by_refusal d None k e = let same_parts : parts_of d ≡ p = cc in subst IsValid same_parts (valid_parts_of d k)
    by_refusal d (Some b) k e = absurd cc

    by_draft : (r : Result Draft BadSet) → draft_in_bytes bytes ≡ r → IsValid p
    by_draft (Ok d) e = by_refusal d (whole_refusal d) refl (sym (set-read bytes d e) ∙ h)
    by_draft (Err b) e =
        let stopped : set bytes ≡ Err b = ap (λ (r : Result Draft BadSet). r >>= λ draft. accepted draft (refusal draft)) e in
        absurd (let f = sym stopped ∙ h in cc)

pub document-canonical : (bytes : List ℕ) (p : Parts) → set bytes ≡ Ok p → set (canonical p) ≡ Ok p
document-canonical bytes p h = set-of-canonical p (set-valid bytes p h)

-- one text says one set
one_set : (bytes : List ℕ) (p q : Parts) → set bytes ≡ Ok p → set bytes ≡ Ok q → p ≡ q
one_set bytes p q h k = cc

pub canonical-kept : (p q : Parts) → IsValid p → set (canonical p) ≡ Ok q → canonical q ≡ canonical p
canonical-kept p q valid h = ap canonical (one_set (canonical p) q p h (set-of-canonical p valid))

pub canonical-apart : (a b : List ℕ) (p q : Parts) → set a ≡ Ok p → set b ≡ Ok q → (canonical p ≡ canonical q) ↔ (p ≡ q)
canonical-apart a b p q h k = (
  λ same. one_set (canonical p) p q (document-canonical a p h) (ap set same ∙ document-canonical b q k),
  λ same. ap canonical same,
)
