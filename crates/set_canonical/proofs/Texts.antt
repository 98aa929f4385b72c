-- The compact texts of a set's parts, as they are written.
use Rattle.std.proofs.Common.{◌≡◌, ℕ, suc, ◌+◌, ◌<◌, ◌≤◌, List, [], ◌∷◌, ◌++◌, length, drop, get_or, subst, arith, Bool, true, false, codes, decimal, refl, ap, sym, ◌∙◌, append_assoc, append-nil}
use Rattle.std.proofs.Math.Seq.{drop-cons}
use Rattle.std.proofs.lemmas.List.{drop_all}
use Rattle.rt_task.specs.declared.Cluster.{Cluster}
use Rattle.rt_task.specs.declared.Drive.{Drive}
use Rattle.rt_task.specs.declared.Drive.TheVariants.{Steps, Horizon}
use Rattle.rt_task.specs.declared.Parts.{Parts}
use Rattle.rt_task.specs.declared.Resv.{Resv}
use Rattle.rt_task.specs.declared.ResvKind.{ResvKind}
use Rattle.rt_task.specs.declared.ResvKind.TheVariants.{Polling, Sporadic, Table}
use Rattle.rt_task.specs.declared.Slot.{Slot}
use Rattle.rt_task.specs.declared.Sem.{Sem}
use Rattle.rt_task.specs.declared.Step.{Step}
use Rattle.rt_task.specs.declared.Task.{Task}
use Rattle.rt_task.specs.Draft.{runs}
use Rattle.json.specs.Print.{escape, escape_byte, quoted}
use Rattle.serde_json.specs.Data.{boolean}
use Rattle.serde_json.specs.View.{items_of}
use Rattle.serde_json.specs.Written.{compact_text, items_text}
use Rattle.set_canonical.specs.Canonical.{set_data}
use Rattle.set_canonical.specs.inside.Members.{early_text, slots_text, horizon_text, steps_text, setting_text, elements_text}
use Rattle.set_canonical.specs.Values.{array_data, sem_names, resv_names, task_names, cluster_data, sem_data, slot_data, resv_data, step_data, act_items, piece_data, resv_or_null, uses_data, task_data}
use Rattle.set_canonical.specs.Words.{plugin_word, protocol_word, resv_kind_word, kind_word}

pub cluster_text : (c : Cluster) → compact_text (cluster_data c) ≡ codes "{\"cpus\":" ++ (decimal c.cpus ++ (codes ",\"group\":" ++ (decimal c.group.0 ++ codes "}")))
unfolding cluster_data escape_byte
cluster_text c = refl

pub sem_text : (s : Sem) → compact_text (sem_data s) ≡ codes "{\"name\":" ++ (quoted s.name ++ (codes ",\"protocol\":" ++ (quoted (protocol_word s.protocol) ++ codes "}")))
unfolding sem_data escape_byte
sem_text s = refl

abbrev resv_parts : Resv → List ℕ
resv_parts r = codes "{\"budget\":" ++ (decimal r.budget ++ (codes ",\"cluster\":" ++ (decimal r.cluster.0 ++ (codes ",\"kind\":" ++ (quoted (resv_kind_word r.kind) ++ (codes ",\"name\":" ++ (quoted r.name ++ (codes ",\"period\":" ++ (decimal r.period ++ (codes ",\"prio\":" ++ (decimal r.prio ++ (slots_text r.kind r.slots ++ codes "}"))))))))))))

pub resv_text : (r : Resv) → compact_text (resv_data r) ≡ codes "{\"budget\":" ++ (decimal r.budget ++ (codes ",\"cluster\":" ++ (decimal r.cluster.0 ++ (codes ",\"kind\":" ++ (quoted (resv_kind_word r.kind) ++ (codes ",\"name\":" ++ (quoted r.name ++ (codes ",\"period\":" ++ (decimal r.period ++ (codes ",\"prio\":" ++ (decimal r.prio ++ (slots_text r.kind r.slots ++ codes "}"))))))))))))
unfolding resv_data escape_byte
resv_text r = by_kind r.kind
  where
    by_kind : (k : ResvKind) → compact_text (resv_data (record r { kind = k })) ≡ resv_parts (record r { kind = k })
    by_kind Polling = simp append_assoc
    by_kind Sporadic = simp append_assoc
    by_kind Table = simp append_assoc

joined : (o a b c d e f g h i j k l m z : List ℕ) → (((((((o ++ (a ++ b)) ++ (c ++ d)) ++ (e ++ f)) ++ (g ++ h)) ++ (i ++ j)) ++ (k ++ l)) ++ m) ++ z ≡ o ++ (a ++ (b ++ (c ++ (d ++ (e ++ (f ++ (g ++ (h ++ (i ++ (j ++ (k ++ (l ++ (m ++ z)))))))))))))
joined o a b c d e f g h i j k l m z = simp append_assoc

-- a reservation, written member by member
pub resv_put : (r : Resv) (o o1 o2 o3 o4 o5 o6 o7 o8 : List ℕ)
    → o1 ≡ o ++ (codes "{\"budget\":" ++ decimal r.budget)
    → o2 ≡ o1 ++ (codes ",\"cluster\":" ++ decimal r.cluster.0)
    → o3 ≡ o2 ++ (codes ",\"kind\":" ++ quoted (resv_kind_word r.kind))
    → o4 ≡ o3 ++ (codes ",\"name\":" ++ quoted r.name)
    → o5 ≡ o4 ++ (codes ",\"period\":" ++ decimal r.period)
    → o6 ≡ o5 ++ (codes ",\"prio\":" ++ decimal r.prio)
    → o7 ≡ o6 ++ slots_text r.kind r.slots
    → o8 ≡ o7 ++ codes "}"
    → o8 ≡ o ++ compact_text (resv_data r)
resv_put r o o1 o2 o3 o4 o5 o6 o7 o8 e1 e2 e3 e4 e5 e6 e7 e8 =
    e8
    ∙ ap (λ (x : List ℕ). x ++ codes "}") (
    e7 ∙ ap (λ (x : List ℕ). x ++ slots_text r.kind r.slots) (
    e6 ∙ ap (λ (x : List ℕ). x ++ (codes ",\"prio\":" ++ decimal r.prio)) (
    e5 ∙ ap (λ (x : List ℕ). x ++ (codes ",\"period\":" ++ decimal r.period)) (
    e4 ∙ ap (λ (x : List ℕ). x ++ (codes ",\"name\":" ++ quoted r.name)) (
    e3 ∙ ap (λ (x : List ℕ). x ++ (codes ",\"kind\":" ++ quoted (resv_kind_word r.kind))) (
    e2 ∙ ap (λ (x : List ℕ). x ++ (codes ",\"cluster\":" ++ decimal r.cluster.0)) e1))))))
    ∙ joined
    o
    (codes "{\"budget\":")
    (decimal r.budget)
    (codes ",\"cluster\":")
    (decimal r.cluster.0)
    (codes ",\"kind\":")
    (quoted (resv_kind_word r.kind))
    (codes ",\"name\":")
    (quoted r.name)
    (codes ",\"period\":")
    (decimal r.period)
    (codes ",\"prio\":")
    (decimal r.prio)
    (slots_text r.kind r.slots)
    (codes "}")
    ∙ ap (λ (x : List ℕ). o ++ x) (sym (resv_text r))

pub slot_text : (s : Slot) → compact_text (slot_data s) ≡ codes "[" ++ (decimal s.from ++ (codes "," ++ (decimal s.to ++ codes "]")))
unfolding slot_data
slot_text s = refl

pub step_text : (sems tasks : List (List ℕ)) (s : Step) → compact_text (step_data sems tasks s) ≡ codes "[" ++ (decimal s.cpu.0 ++ (codes "," ++ (decimal s.tick.0 ++ items_text true (items_of (act_items sems tasks s.act)))))
unfolding step_data
step_text sems tasks s = refl

-- an empty text adds nothing
pub append_nothing : (xs : List ℕ) → xs ++ [] ≡ xs
append_nothing xs = append-nil xs

-- ---- tasks

abbrev pub task_parts : List (List ℕ) → List (List ℕ) → Task → List ℕ
task_parts sems resvs t =
    codes "{\"body\":" ++ (compact_text (array_data (piece_data sems) (runs t.body))
    ++ ((codes ",\"cluster\":" ++ (decimal t.cluster.0 ++ (codes ",\"cost\":" ++ (decimal t.cost ++ (codes ",\"deadline\":" ++ decimal t.rel_deadline)))))
    ++ (early_text t.early
    ++ ((codes ",\"enforce\":" ++ (compact_text (boolean t.enforce) ++ (codes ",\"kind\":" ++ (quoted (kind_word t.kind) ++ (codes ",\"name\":" ++ quoted t.name)))))
    ++ ((codes ",\"period\":" ++ (decimal t.period ++ (codes ",\"phase\":" ++ (decimal t.phase ++ (codes ",\"prio\":" ++ decimal t.prio)))))
    ++ ((codes ",\"resv\":" ++ compact_text (resv_or_null resvs t.resv))
    ++ ((codes ",\"uses\":" ++ compact_text (uses_data sems t.uses)) ++ codes "}")))))))

pub task_text : (sems resvs : List (List ℕ)) (t : Task) → compact_text (task_data sems resvs t) ≡ task_parts sems resvs t
unfolding task_data escape_byte
task_text sems resvs t = by_early t.early
  where
    by_early : (e : Bool) → compact_text (task_data sems resvs (record t { early = e })) ≡ task_parts sems resvs (record t { early = e })
    by_early true = simp append_assoc
    by_early false = simp append_assoc

-- ---- the whole

abbrev set_parts : Parts → List ℕ
set_parts p =
    codes "{\"clusters\":" ++ (compact_text (array_data cluster_data p.clusters)
    ++ (horizon_text p.drive
    ++ (codes ",\"plugin\":" ++ (quoted (plugin_word p.plugin)
    ++ (codes ",\"resvs\":" ++ (compact_text (array_data resv_data p.resvs)
    ++ (codes ",\"sems\":" ++ (compact_text (array_data sem_data p.sems)
    ++ (steps_text (sem_names p.sems) (task_names p.tasks) p.drive
    ++ (codes ",\"tasks\":" ++ (compact_text (array_data (task_data (sem_names p.sems) (resv_names p.resvs)) p.tasks) ++ codes "}")))))))))))

regroup : (a b c d e f g h i j k l z : List ℕ) → a ++ (b ++ (c ++ (d ++ (e ++ (f ++ (g ++ (h ++ (i ++ (j ++ (k ++ (l ++ z))))))))))) ≡ (a ++ (b ++ (c ++ (d ++ e)))) ++ ((f ++ (g ++ (h ++ (i ++ (j ++ (k ++ l)))))) ++ z)
regroup a b c d e f g h i j k l z = simp append_assoc

pub set_text : (p : Parts) → compact_text (set_data p) ≡ setting_text p ++ (elements_text p.sems p.resvs p.tasks p.drive ++ codes "}")
unfolding set_data setting_text elements_text escape_byte
set_text p =
    by_drive p.drive
    ∙ regroup
    (codes "{\"clusters\":")
    (compact_text (array_data cluster_data p.clusters))
    (horizon_text p.drive)
    (codes ",\"plugin\":")
    (quoted (plugin_word p.plugin))
    (codes ",\"resvs\":")
    (compact_text (array_data resv_data p.resvs))
    (codes ",\"sems\":")
    (compact_text (array_data sem_data p.sems))
    (steps_text (sem_names p.sems) (task_names p.tasks) p.drive)
    (codes ",\"tasks\":")
    (compact_text (array_data (task_data (sem_names p.sems) (resv_names p.resvs)) p.tasks))
    (codes "}")
  where
    by_drive : (d : Drive) → compact_text (set_data (record p { drive = d })) ≡ set_parts (record p { drive = d })
    by_drive (Steps ss) = refl
    by_drive (Horizon h) = refl

-- ---- bytes that stand in a string as they are

pub plain_next : (text : List ℕ) (i d : ℕ) → i < length text → escape_byte (get_or text i d) ≡ get_or text i d ∷ [] → (escape (drop i text) ≡ drop i text → escape text ≡ text)
    → escape (drop (i + 1) text) ≡ drop (i + 1) text → escape text ≡ text
plain_next text i d low plain before rest =
    let next : i + 1 ≡ suc i = omega arith in
    let here : drop i text ≡ get_or text i d ∷ drop (suc i) text = drop-cons text i d low in
    let later : escape (drop (suc i) text) ≡ drop (suc i) text = subst (λ (n : ℕ). escape (drop n text) ≡ drop n text) next rest in
    before (ap escape here ∙ ap (λ (xs : List ℕ). xs ++ escape (drop (suc i) text)) plain ∙ ap (λ (xs : List ℕ). get_or text i d ∷ xs) later ∙ sym here)

pub plain_end : (text : List ℕ) (i : ℕ) → length text ≤ i → (escape (drop i text) ≡ drop i text → escape text ≡ text) → escape text ≡ text
plain_end text i past_all before = let none : drop i text ≡ [] = drop_all i text past_all in before (rw none refl)
