-- A rule is named for each refusal of a document that is a JSON value.
use Rattle.std.proofs.Common.{◌≡◌, ◌≢◌, ℕ, zero, suc, ◌+◌, List, [], ◌∷◌, Bool, true, false, map, Option, Some, None, Result, Ok, Err, refl, ap, sym, subst, ◌∙◌, ◌⊎◌, inl, inr, arith}
use Rattle.std.specs.Prelude.{filter_map, is_some, option_map, slice_get}
use Rattle.std.proofs.lemmas.Option.{slice_get-map}
use Rattle.rt_task.specs.declared.Parts.{Parts}
use Rattle.rt_task.specs.declared.bad_set.BadSet.{BadSet}
use Rattle.rt_task.specs.declared.bad_set.Part.{Part}
use Rattle.rt_task.specs.declared.bad_set.Part.TheVariants as parts
use Rattle.rt_task.specs.declared.bad_set.SetKind.{SetKind}
use Rattle.rt_task.specs.declared.bad_set.SetKind.TheVariants as kinds
use Rattle.rt_task.specs.declared.draft.Draft.{Draft}
use Rattle.rt_task.specs.declared.draft.DraftCluster.{DraftCluster}
use Rattle.rt_task.specs.declared.draft.DraftDrive.{DraftDrive}
use Rattle.rt_task.specs.declared.draft.DraftDrive.TheVariants as drives
use Rattle.rt_task.specs.declared.draft.DraftResv.{DraftResv}
use Rattle.rt_task.specs.declared.draft.DraftStep.{DraftStep}
use Rattle.rt_task.specs.declared.draft.DraftTask.{DraftTask}
use Rattle.rt_task.specs.declared.Sem.{Sem}
use Rattle.rt_task.specs.Answers.{accepted}
use Rattle.rt_task.specs.Refusals.{bad, each}
use Rattle.rt_task.specs.Validity.{refusal}
use Rattle.serde_json.specs.Data.{Data}
use Rattle.set_read.specs.Document.{Names, Play, Whole, steps, horizon, cluster_form, has_horizon, names_of, reservation_form, semaphore_form, shaped, step_form, task_form, tasks_from, whole_of}
use Rattle.set_read.specs.Sets.{◌>>=◌, draft_in_bytes, draft_of_value, drive_of, elements, has_form, or_refused, same, set, unless, value_of}
use Rattle.set_explain.specs.Broken.{alone, broken_rule, draft_tests, element_tests, form_tests, steps_in, tests_at, tests_by, tests_in, value_tests}
use Rattle.set_explain.specs.Laws.{RefusalsHaveRules}
use Rattle.set_explain.specs.Rules.{Test, all_hold, broken}
use Rattle.set_explain.specs.ShapeRules as shape
use Rattle.set_explain.proofs.BrokenLaws.{Fails, broken-named, each-named}
use Rattle.set_explain.proofs.DraftLaws.{draft-named}
use Rattle.set_explain.proofs.FormLaws.{cluster-formed, resv-formed, sem-formed, step-formed, task-formed, whole-formed}

-- a refusal of what comes first, or of what follows
bind-refused : {A B : Type 0} (r : Result A BadSet) (f : A → Result B BadSet) (b : BadSet) → (r >>= f) ≡ Err b
    → (r ≡ Err b) ⊎ ((x : A) × (r ≡ Ok x) × (f x ≡ Err b))
bind-refused (Ok x) f b h = inr (x, refl, h)
bind-refused {A} (Err c) f b h =
    let same : c ≡ b = cc in
    inl (ap (λ (x : BadSet). let r : Result A BadSet = Err x in r) same)

-- ---- elements

clash : true ≡ false → ⊥
clash h = cc

-- an element that has not its form breaks a test of it
unformed : (tests : List Test) {A : Type 0} (form : Option A) → (all_hold tests ≡ true → is_some form ≡ true) → is_some form ≡ false → is_some (broken tests) ≡ true
unformed tests form formed h = by_test (all_hold tests) refl
  where
    by_test : (b : Bool) → all_hold tests ≡ b → is_some (broken tests) ≡ true
    by_test false e = broken-named tests e
    by_test true e = absurd (clash (sym (formed e) ∙ h))

    clash : true ≡ false → ⊥
    clash h = absurd cc

mapped-named : {A : Type 0} (form : Data → Option A) (tests : Data → List Test) (ds : List Data) (i : ℕ) → ((d : Data) → all_hold (tests d) ≡ true → is_some (form d) ≡ true)
    → Fails has_form (map form ds) i → is_some (broken (tests_at (alone tests) ds i)) ≡ true
mapped-named form tests ds i formed f = by_element (slice_get ds i) (sym (slice_get-map form ds i) ∙ f.there)
  where
    by_element : (o : Option Data) → option_map form o ≡ Some f.x → is_some (broken (tests_by tests o)) ≡ true
    by_element None e = absurd cc
    by_element (Some d) e =
        let same_form : form d ≡ f.x = cc in
        unformed (tests d) (form d) (formed d) (ap is_some same_form ∙ f.fails)

task-at : (names : Names) (needs : Bool) (n : ℕ) (ds : List Data) (i m : ℕ) → m ≡ n + i
    → slice_get (tasks_from names needs n ds) i ≡ option_map (λ d. shaped needs (task_form names m d)) (slice_get ds i)
task-at names needs n [] i m e = refl
task-at names needs n (d ∷ ds) zero m e =
    let same : n ≡ m = omega (arith, e) in
    ap (λ k. Some (shaped needs (task_form names k d))) same
task-at names needs n (d ∷ ds) (suc i) m e = task-at names needs (n + 1) ds i m (omega (arith, e))

tasks-named : (names : Names) (needs : Bool) (ds : List Data) (i : ℕ) → Fails has_form (tasks_from names needs 1 ds) i → is_some (broken (tests_at (alone (shape.task_shape names needs)) ds i)) ≡ true
tasks-named names needs ds i f = by_element (slice_get ds i) (sym (task-at names needs 1 ds i (1 + i) refl) ∙ f.there)
  where
    by_element : (o : Option Data) → option_map (λ d. shaped needs (task_form names (1 + i) d)) o ≡ Some f.x
        → is_some (broken (tests_by (shape.task_shape names needs) o)) ≡ true
    by_element None e = absurd cc
    by_element (Some d) e =
        let same_form : shaped needs (task_form names (1 + i) d) ≡ f.x = cc in
        unformed (shape.task_shape names needs d) (shaped needs (task_form names (1 + i) d)) (task-formed names needs (1 + i) d) (ap is_some same_form ∙ f.fails)

unless-refused : {A : Type 0} (o : Option BadSet) (x : A) (b : BadSet) → unless o x ≡ Err b → o ≡ Some b
unless-refused None x b h = absurd cc
unless-refused (Some c) x b h = cc

elements-named : {A : Type 0} (d : Data) (part : Part) (xs : List (Option A)) (b : BadSet) → elements part xs ≡ Err b
    → ((i : ℕ) → Fails has_form xs i → is_some (broken (value_tests d kinds.Shape part i)) ≡ true)
    → is_some (broken (value_tests d b.kind b.place.part b.place.index)) ≡ true
unfolding elements
elements-named d part xs b h named =
    each-named kinds.Shape part has_form xs b (value_tests d) (unless-refused (each kinds.Shape part has_form xs) (filter_map same xs) b h) named

-- ---- documents

drive-named : (d : Data) (names : Names) (play : Play) (b : BadSet) → drive_of names play ≡ Err b
    → ((i : ℕ) → Fails has_form (map (step_form names) (steps_in play)) i → is_some (broken (value_tests d kinds.Shape parts.Step i)) ≡ true)
    → is_some (broken (value_tests d b.kind b.place.part b.place.index)) ≡ true
unfolding drive_of
drive-named d names (horizon n) b h named = absurd cc
drive-named d names (steps xs) b h named = by_bind (bind-refused (elements parts.Step (map (step_form names) xs)) (λ found. Ok (drives.Steps found)) b h)
  where
    by_bind : (elements parts.Step (map (step_form names) xs) ≡ Err b) ⊎ ((x : List DraftStep) × (elements parts.Step (map (step_form names) xs) ≡ Ok x) × (Ok (drives.Steps x) ≡ Err b))
        → is_some (broken (value_tests d b.kind b.place.part b.place.index)) ≡ true
    by_bind (inl k) = elements-named d parts.Step (map (step_form names) xs) b k named
    by_bind (inr (x, e, k)) = absurd cc

module _ (w : Whole) where
  abbrev pub after_tasks : List DraftCluster → List Sem → List DraftResv → List DraftTask → Result Draft BadSet
  after_tasks cs ss rs ts =
      drive_of (names_of w) w.play
      >>= λ drive. Ok (record { plugin = w.plugin; clusters = cs; sems = ss; resvs = rs; tasks = ts; drive = drive })

  abbrev pub after_resvs : List DraftCluster → List Sem → List DraftResv → Result Draft BadSet
  after_resvs cs ss rs = elements parts.Task (tasks_from (names_of w) (has_horizon w.play) 1 w.tasks) >>= λ ts. after_tasks cs ss rs ts

  abbrev pub after_sems : List DraftCluster → List Sem → Result Draft BadSet
  after_sems cs ss = elements parts.Resv (map reservation_form w.resvs) >>= λ rs. after_resvs cs ss rs

  abbrev pub after_clusters : List DraftCluster → Result Draft BadSet
  after_clusters cs = elements parts.Sem (map semaphore_form w.sems) >>= λ ss. after_sems cs ss

module _ (d : Data) (w : Whole) (b : BadSet) (e : whole_of d ≡ Some w) where
  abbrev Named : Type 0
  Named = is_some (broken (value_tests d b.kind b.place.part b.place.index)) ≡ true

  -- the tests of a form that are those of an element of the document
  of_element : (part : Part) (i : ℕ) → (not_whole : form_tests d part i ≡ tests_by (λ w. element_tests w part i) (whole_of d))
      → is_some (broken (element_tests w part i)) ≡ true → is_some (broken (value_tests d kinds.Shape part i)) ≡ true
  of_element part i not_whole h = rw not_whole (subst (λ o. is_some (broken (tests_by (λ w. element_tests w part i) o)) ≡ true) (sym e) h)

  drive_refused : (cs : List DraftCluster) (ss : List Sem) (rs : List DraftResv) (ts : List DraftTask) → after_tasks w cs ss rs ts ≡ Err b → Named
  drive_refused cs ss rs ts h = by_bind (bind-refused (drive_of (names_of w) w.play) (λ drive. Ok (record { plugin = w.plugin; clusters = cs; sems = ss; resvs = rs; tasks = ts; drive = drive })) b h)
    where
      by_bind : (drive_of (names_of w) w.play ≡ Err b)
          ⊎ ((x : DraftDrive) × (drive_of (names_of w) w.play ≡ Ok x) × (Ok (record { plugin = w.plugin; clusters = cs; sems = ss; resvs = rs; tasks = ts; drive = x }) ≡ (let r : Result Draft BadSet = Err b in r))) → Named
      by_bind (inl k) =
          drive-named d (names_of w) w.play b k
          (λ i f. of_element parts.Step i refl (mapped-named (step_form (names_of w)) (shape.step_shape (names_of w)) (steps_in w.play) i (step-formed (names_of w)) f))
      by_bind (inr (x, _, k)) = absurd cc

  tasks_refused : (cs : List DraftCluster) (ss : List Sem) (rs : List DraftResv) → after_resvs w cs ss rs ≡ Err b → Named
  tasks_refused cs ss rs h = by_bind (bind-refused (elements parts.Task (tasks_from (names_of w) (has_horizon w.play) 1 w.tasks)) (λ ts. after_tasks w cs ss rs ts) b h)
    where
      by_bind : (elements parts.Task (tasks_from (names_of w) (has_horizon w.play) 1 w.tasks) ≡ Err b)
          ⊎ ((x : List DraftTask) × (elements parts.Task (tasks_from (names_of w) (has_horizon w.play) 1 w.tasks) ≡ Ok x) × (after_tasks w cs ss rs x ≡ Err b)) → Named
      by_bind (inl k) =
          elements-named d parts.Task (tasks_from (names_of w) (has_horizon w.play) 1 w.tasks) b k
          (λ i f. of_element parts.Task i refl (tasks-named (names_of w) (has_horizon w.play) w.tasks i f))
      by_bind (inr (ts, _, k)) = drive_refused cs ss rs ts k

  resvs_refused : (cs : List DraftCluster) (ss : List Sem) → after_sems w cs ss ≡ Err b → Named
  resvs_refused cs ss h = by_bind (bind-refused (elements parts.Resv (map reservation_form w.resvs)) (λ rs. after_resvs w cs ss rs) b h)
    where
      by_bind : (elements parts.Resv (map reservation_form w.resvs) ≡ Err b)
          ⊎ ((x : List DraftResv) × (elements parts.Resv (map reservation_form w.resvs) ≡ Ok x) × (after_resvs w cs ss x ≡ Err b)) → Named
      by_bind (inl k) =
          elements-named d parts.Resv (map reservation_form w.resvs) b k
          (λ i f. of_element parts.Resv i refl (mapped-named reservation_form shape.resv_shape w.resvs i resv-formed f))
      by_bind (inr (rs, _, k)) = tasks_refused cs ss rs k

  sems_refused : (cs : List DraftCluster) → after_clusters w cs ≡ Err b → Named
  sems_refused cs h = by_bind (bind-refused (elements parts.Sem (map semaphore_form w.sems)) (λ ss. after_sems w cs ss) b h)
    where
      by_bind : (elements parts.Sem (map semaphore_form w.sems) ≡ Err b)
          ⊎ ((x : List Sem) × (elements parts.Sem (map semaphore_form w.sems) ≡ Ok x) × (after_sems w cs x ≡ Err b)) → Named
      by_bind (inl k) =
          elements-named d parts.Sem (map semaphore_form w.sems) b k
          (λ i f. of_element parts.Sem i refl (mapped-named semaphore_form shape.sem_shape w.sems i sem-formed f))
      by_bind (inr (ss, _, k)) = resvs_refused cs ss k

  pub elements_refused : (elements parts.Cluster (map cluster_form w.clusters) >>= λ cs. after_clusters w cs) ≡ Err b → Named
  elements_refused h = by_bind (bind-refused (elements parts.Cluster (map cluster_form w.clusters)) (λ cs. after_clusters w cs) b h)
    where
      by_bind : (elements parts.Cluster (map cluster_form w.clusters) ≡ Err b)
          ⊎ ((x : List DraftCluster) × (elements parts.Cluster (map cluster_form w.clusters) ≡ Ok x) × (after_clusters w x ≡ Err b)) → Named
      by_bind (inl k) =
          elements-named d parts.Cluster (map cluster_form w.clusters) b k
          (λ i f. of_element parts.Cluster i refl (mapped-named cluster_form shape.cluster_shape w.clusters i cluster-formed f))
      by_bind (inr (cs, _, k)) = sems_refused cs k

value-named : (d : Data) (b : BadSet) → draft_of_value d ≡ Err b → is_some (broken (value_tests d b.kind b.place.part b.place.index)) ≡ true
unfolding draft_of_value
value-named d b h = by_whole (whole_of d) refl h
  where
    by_whole : (o : Option Whole) → whole_of d ≡ o
        → (or_refused (bad kinds.Shape parts.Whole 0) o >>= λ w. elements parts.Cluster (map cluster_form w.clusters) >>= λ cs. after_clusters w cs) ≡ Err b
        → is_some (broken (value_tests d b.kind b.place.part b.place.index)) ≡ true
    by_whole None e h =
        let same : bad kinds.Shape parts.Whole 0 ≡ b = cc in
        subst (λ (c : BadSet). is_some (broken (value_tests d c.kind c.place.part c.place.index)) ≡ true) same
        (unformed (shape.whole_shape d) (whole_of d) (whole-formed d) (ap is_some e))
    by_whole (Some w) e h = elements_refused d w b e h

-- a rule of a draft is one of the document
drafted-named : (v : Data) (d : Draft) (k : SetKind) (part : Part) (i : ℕ) → draft_of_value v ≡ Ok d → is_some (broken (draft_tests d k part i)) ≡ true
    → is_some (broken (value_tests v k part i)) ≡ true
drafted-named v d kinds.NotJson part i e h = absurd cc
drafted-named v d kinds.Shape part i e h = absurd cc
drafted-named v d kinds.Range part i e h = rw e h
drafted-named v d kinds.Name part i e h = rw e h
drafted-named v d kinds.Sharing part i e h = rw e h
drafted-named v d kinds.Size part i e h = rw e h
drafted-named v d kinds.NotTrace part i e h = absurd cc
drafted-named v d kinds.NotSplit part i e h = absurd cc

accepted-refused : (d : Draft) (o : Option BadSet) (b : BadSet) → accepted d o ≡ Err b → o ≡ Some b
accepted-refused d None b h = absurd cc
accepted-refused d (Some c) b h = cc

pub set-named : RefusalsHaveRules
unfolding set draft_in_bytes broken_rule
set-named bytes b h json = by_value (value_of bytes) h
  where
    by_draft : (v : Data) → (draft_of_value v ≡ Err b) ⊎ ((d : Draft) × (draft_of_value v ≡ Ok d) × (accepted d (refusal d) ≡ Err b))
        → is_some (broken (value_tests v b.kind b.place.part b.place.index)) ≡ true
    by_draft v (inl k) = value-named v b k
    by_draft v (inr (d, e, k)) = drafted-named v d b.kind b.place.part b.place.index e (draft-named d b (accepted-refused d (refusal d) b k))

    by_value : (o : Option Data) → ((or_refused (bad kinds.NotJson parts.Whole 0) o >>= draft_of_value) >>= λ d. accepted d (refusal d)) ≡ Err b
        → is_some (broken (tests_by (λ d. value_tests d b.kind b.place.part b.place.index) o)) ≡ true
    by_value None h =
        let same : bad kinds.NotJson parts.Whole 0 ≡ b = cc in
        absurd (json (sym (ap (λ (c : BadSet). c.kind) same)))
    by_value (Some v) h = by_draft v (bind-refused (draft_of_value v) (λ d. accepted d (refusal d)) b h)
