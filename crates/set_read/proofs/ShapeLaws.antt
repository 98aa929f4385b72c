-- In a draft that was read, no reservation but a table has slots, and each task of a set with a horizon is periodic and has a body.
use Rattle.std.proofs.Common.{◌≡◌, ℕ, ◌+◌, List, [], ◌∷◌, ◌++◌, Bool, true, false, not, ◌&&◌, ◌||◌, cond, length, map, Option, Some, None, Result, Ok, Err, refl, ap, sym, subst, ◌∙◌}
use Rattle.std.specs.Prelude.{codes, filter_map, option_map}
use Rattle.rt_task.specs.declared.Sem.{Sem}
use Rattle.rt_task.specs.declared.bad_set.BadSet.{BadSet}
use Rattle.rt_task.specs.declared.bad_set.Part.TheVariants as parts
use Rattle.rt_task.specs.declared.bad_set.SetKind.TheVariants as kinds
use Rattle.rt_task.specs.declared.draft.Draft.{Draft}
use Rattle.rt_task.specs.declared.draft.DraftCluster.{DraftCluster}
use Rattle.rt_task.specs.declared.draft.DraftDrive.{DraftDrive}
use Rattle.rt_task.specs.declared.draft.DraftDrive.TheVariants.{Steps, Horizon}
use Rattle.rt_task.specs.declared.draft.DraftResv.{DraftResv}
use Rattle.rt_task.specs.declared.draft.DraftStep.{DraftStep}
use Rattle.rt_task.specs.declared.draft.DraftTask.{DraftTask}
use Rattle.rt_task.specs.declared.bad_set.SetStop.{SetStop}
use Rattle.rt_task.specs.declared.bad_set.SetStop.TheVariants as stops
use Rattle.rt_task.specs.Answers.{Stops, accepted}
use Rattle.rt_task.specs.Refusals.{bad, first, each, first_failing}
use Rattle.rt_task.specs.RuleWords.{is_empty, is_periodic}
use Rattle.rt_task.specs.RuleWords as words
use Rattle.rt_task.specs.SlotRules.{may_have}
use Rattle.rt_task.specs.Validity.{resv_shape, shape_rows, task_shape, refusal, whole_refusal}
use Rattle.rt_task.specs.declared.ResvKind.{ResvKind}
use Rattle.rt_task.specs.declared.ResvKind.TheVariants.{Polling, Sporadic, Table}
use Rattle.rt_task.specs.declared.Slot.{Slot}
use Rattle.rt_base.specs.declared.TheConstants.{MOST_PRIO}
use Rattle.serde_json.specs.Find.{get}
use Rattle.set_read.specs.Forms as forms
use Rattle.serde_json.specs.Data.{Data}
use Rattle.set_read.specs.Document.{Names, Play, steps, horizon, Whole, whole_of, names_of, has_horizon, shaped, tasks_from, task_form, cluster_form, semaphore_form, no_form, slots_form, reservation_kinds, reservation_members, reservation_form, step_form}
use Rattle.set_read.specs.Sets.{◌>>=◌, or_refused, unless, same, has_form, elements, drive_of, draft_of_value, value_of, draft_in_bytes, set}

bind-holds : {A B : Type 0} (r : Result A BadSet) (f : A → Result B BadSet) (P : B → Type 0) → ((x : A) → r ≡ Ok x → (y : B) → f x ≡ Ok y → P y) → (y : B) → (r >>= f) ≡ Ok y → P y
bind-holds (Ok x) f P h y e = h x refl y e
bind-holds (Err b) f P h y e = absurd cc

-- ---- tasks

shape : Bool → List DraftTask → DraftTask → Bool
shape needs earlier p = not needs || (is_periodic p.kind && not (is_empty p.pieces))

one_more : (needs : Bool) (o : Option DraftTask) (rest : List (Option DraftTask)) (earlier : List DraftTask) → ((e : List DraftTask) → first_failing (shape needs) e (filter_map same rest) ≡ None)
    → first_failing (shape needs) earlier (filter_map same (shaped needs o ∷ rest)) ≡ None
unfolding shape
one_more needs None rest earlier h = h earlier
one_more needs (Some p) rest earlier h = by_test (not needs || (is_periodic p.kind && not (is_empty p.pieces))) refl
  where
    by_test : (b : Bool) → (not needs || (is_periodic p.kind && not (is_empty p.pieces))) ≡ b → first_failing (shape needs) earlier (filter_map same (cond b (Some p) None ∷ rest)) ≡ None
    by_test true e = ap (λ b. cond b (first_failing (shape needs) (earlier ++ p ∷ []) (filter_map same rest)) (Some (length earlier))) e ∙ h (earlier ++ p ∷ [])
    by_test false e = h earlier

all_shaped : (names : Names) (needs : Bool) (n : ℕ) (ds : List Data) (earlier : List DraftTask) → first_failing (shape needs) earlier (filter_map same (tasks_from names needs n ds)) ≡ None
all_shaped names needs n [] earlier = refl
all_shaped names needs n (d ∷ ds) earlier = one_more needs (task_form names n d) (tasks_from names needs (n + 1) ds) earlier (λ e. all_shaped names needs (n + 1) ds e)

unless-Ok : {A : Type 0} (o : Option BadSet) (x y : A) → unless o x ≡ Ok y → x ≡ y
unless-Ok None x y e = cc
unless-Ok (Some b) x y e = absurd cc

tasks_shaped : (names : Names) (needs : Bool) (ds : List Data) (ts : List DraftTask) → elements parts.Task (tasks_from names needs 1 ds) ≡ Ok ts → first_failing (shape needs) [] ts ≡ None
unfolding elements
tasks_shaped names needs ds ts e =
    subst (λ (us : List DraftTask). first_failing (shape needs) [] us ≡ None)
    (unless-Ok (each kinds.Shape parts.Task has_form (tasks_from names needs 1 ds)) (filter_map same (tasks_from names needs 1 ds)) ts e)
    (all_shaped names needs 1 ds [])

-- ---- reservations

some-holds : {A B : Type 0} (o : Option A) (f : A → Option B) (P : B → Type 0) → ((x : A) → o ≡ Some x → (y : B) → f x ≡ Some y → P y) → (y : B) → forms.◌>>=◌ o f ≡ Some y → P y
some-holds (Some x) f P h y e = h x refl y e
some-holds None f P h y e = absurd cc

slots-fit : (k : ResvKind) (d : Data) (ss : List Slot) → slots_form k d ≡ Some ss → may_have k ss ≡ true
slots-fit Table d ss h = refl
slots-fit Polling d ss h = by_case (get (codes "slots") d) h
  where
    by_case : (o : Option Data) → forms.form_or no_form [] o ≡ Some ss → may_have Polling ss ≡ true
    by_case None e = let none : [] ≡ ss = cc in ap words.is_empty (sym none)
    by_case (Some x) e = absurd cc
slots-fit Sporadic d ss h = by_case (get (codes "slots") d) h
  where
    by_case : (o : Option Data) → forms.form_or no_form [] o ≡ Some ss → may_have Sporadic ss ≡ true
    by_case None e = let none : [] ≡ ss = cc in ap words.is_empty (sym none)
    by_case (Some x) e = absurd cc

abbrev MayHave : DraftResv → Type 0
MayHave r = may_have r.kind r.slots ≡ true

module _ (d : Data) where
  abbrev after_slots : List ℕ → ℕ → ResvKind → ℕ → ℕ → ℕ → List Slot → Option DraftResv
  after_slots name cluster kind budget period prio slots = Some (record { name = name; cluster = cluster; kind = kind; budget = budget; period = period; prio = prio; slots = slots })

  abbrev after_prio : List ℕ → ℕ → ResvKind → ℕ → ℕ → ℕ → Option DraftResv
  after_prio name cluster kind budget period prio = forms.◌>>=◌ (slots_form kind d) (after_slots name cluster kind budget period prio)

  abbrev after_period : List ℕ → ℕ → ResvKind → ℕ → ℕ → Option DraftResv
  after_period name cluster kind budget period = forms.◌>>=◌ (forms.optional forms.natural MOST_PRIO (codes "prio") d) (after_prio name cluster kind budget period)

  abbrev after_budget : List ℕ → ℕ → ResvKind → ℕ → Option DraftResv
  after_budget name cluster kind budget = forms.◌>>=◌ (forms.required forms.natural (codes "period") d) (after_period name cluster kind budget)

  abbrev after_kind : List ℕ → ℕ → ResvKind → Option DraftResv
  after_kind name cluster kind = forms.◌>>=◌ (forms.required forms.natural (codes "budget") d) (after_budget name cluster kind)

  abbrev after_cluster : List ℕ → ℕ → Option DraftResv
  after_cluster name cluster = forms.◌>>=◌ (forms.required (forms.one_of reservation_kinds) (codes "kind") d) (after_kind name cluster)

  abbrev after_name : List ℕ → Option DraftResv
  after_name name = forms.◌>>=◌ (forms.optional forms.natural 0 (codes "cluster") d) (after_cluster name)

  resv-fits : (r : DraftResv) → reservation_form d ≡ Some r → MayHave r
  unfolding reservation_form
  resv-fits =
      some-holds (forms.object_of reservation_members d) (λ _. forms.◌>>=◌ (forms.required forms.text (codes "name") d) after_name) MayHave (λ _ _.
      some-holds (forms.required forms.text (codes "name") d) after_name MayHave (λ name _.
      some-holds (forms.optional forms.natural 0 (codes "cluster") d) (after_cluster name) MayHave (λ cluster _.
      some-holds (forms.required (forms.one_of reservation_kinds) (codes "kind") d) (after_kind name cluster) MayHave (λ kind _.
      some-holds (forms.required forms.natural (codes "budget") d) (after_budget name cluster kind) MayHave (λ budget _.
      some-holds (forms.required forms.natural (codes "period") d) (after_period name cluster kind budget) MayHave (λ period _.
      some-holds (forms.optional forms.natural MOST_PRIO (codes "prio") d) (after_prio name cluster kind budget period) MayHave (λ prio _.
      some-holds (slots_form kind d) (after_slots name cluster kind budget period prio) MayHave (λ slots es y e.
      let read : DraftResv = record { name = name; cluster = cluster; kind = kind; budget = budget; period = period; prio = prio; slots = slots } in
      let same_resv : read ≡ y = cc in
      subst MayHave same_resv (slots-fit kind d slots es)))))))))

allowed : List DraftResv → DraftResv → Bool
allowed earlier r = may_have r.kind r.slots

one_resv_more : (o : Option DraftResv) (rest : List (Option DraftResv)) (earlier : List DraftResv) → ((r : DraftResv) → o ≡ Some r → MayHave r) → ((e : List DraftResv) → first_failing allowed e (filter_map same rest) ≡ None)
    → first_failing allowed earlier (filter_map same (o ∷ rest)) ≡ None
unfolding allowed
one_resv_more None rest earlier may h = h earlier
one_resv_more (Some r) rest earlier may h = ap (λ b. cond b (first_failing allowed (earlier ++ r ∷ []) (filter_map same rest)) (Some (length earlier))) (may r refl) ∙ h (earlier ++ r ∷ [])

all_allowed : (ds : List Data) (earlier : List DraftResv) → first_failing allowed earlier (filter_map same (map reservation_form ds)) ≡ None
all_allowed [] earlier = refl
all_allowed (d ∷ ds) earlier = one_resv_more (reservation_form d) (map reservation_form ds) earlier (resv-fits d) (λ e. all_allowed ds e)

resvs_shaped : (ds : List Data) (rs : List DraftResv) → elements parts.Resv (map reservation_form ds) ≡ Ok rs → first_failing allowed [] rs ≡ None
unfolding elements
resvs_shaped ds rs e =
    subst (λ (us : List DraftResv). first_failing allowed [] us ≡ None)
    (unless-Ok (each kinds.Shape parts.Resv has_form (map reservation_form ds)) (filter_map same (map reservation_form ds)) rs e)
    (all_allowed ds [])

-- ---- the drive

horizon_kept : (names : Names) (play : Play) (drive : DraftDrive) → drive_of names play ≡ Ok drive → words.has_horizon drive ≡ has_horizon play
unfolding drive_of
horizon_kept names (steps xs) drive e =
    bind-holds (elements parts.Step (map (step_form names) xs)) (λ (found : List DraftStep). Ok (Steps found)) (λ drive. words.has_horizon drive ≡ false)
    (λ found _ y k. let same_drive : Steps found ≡ y = cc in sym (ap words.has_horizon same_drive)) drive e
horizon_kept names (horizon h) drive e = let same_drive : Horizon h ≡ drive = cc in sym (ap words.has_horizon same_drive)

-- ---- the whole

abbrev IsShaped : Draft → Type 0
IsShaped d = first (shape_rows d) ≡ None

shaped_draft : (w : Whole) (cs : List DraftCluster) (ss : List Sem) (rs : List DraftResv) (ts : List DraftTask) (drive : DraftDrive)
    → elements parts.Resv (map reservation_form w.resvs) ≡ Ok rs → elements parts.Task (tasks_from (names_of w) (has_horizon w.play) 1 w.tasks) ≡ Ok ts → drive_of (names_of w) w.play ≡ Ok drive
    → IsShaped (record { plugin = w.plugin; clusters = cs; sems = ss; resvs = rs; tasks = ts; drive = drive })
unfolding resv_shape task_shape shape allowed
shaped_draft w cs ss rs ts drive er et ed =
    let tasks : each kinds.Shape parts.Task (shape (words.has_horizon drive)) ts ≡ None = ap (λ needs. each kinds.Shape parts.Task (shape needs) ts) (horizon_kept (names_of w) w.play drive ed)
    ∙ ap (option_map (bad kinds.Shape parts.Task)) (tasks_shaped (names_of w) (has_horizon w.play) w.tasks ts et) in
    let resvs : each kinds.Shape parts.Resv allowed rs ≡ None = ap (option_map (bad kinds.Shape parts.Resv)) (resvs_shaped w.resvs rs er) in
    ap (λ o. first (o ∷ each kinds.Shape parts.Task (shape (words.has_horizon drive)) ts ∷ [])) resvs ∙ ap (λ o. first (o ∷ [])) tasks

abbrev after_drive : Whole → List DraftCluster → List Sem → List DraftResv → List DraftTask → DraftDrive → Result Draft BadSet
after_drive w cs ss rs ts drive = Ok (record { plugin = w.plugin; clusters = cs; sems = ss; resvs = rs; tasks = ts; drive = drive })

abbrev after_tasks : Whole → List DraftCluster → List Sem → List DraftResv → List DraftTask → Result Draft BadSet
after_tasks w cs ss rs ts = drive_of (names_of w) w.play >>= after_drive w cs ss rs ts

abbrev after_resvs : Whole → List DraftCluster → List Sem → List DraftResv → Result Draft BadSet
after_resvs w cs ss rs = elements parts.Task (tasks_from (names_of w) (has_horizon w.play) 1 w.tasks) >>= after_tasks w cs ss rs

abbrev after_sems : Whole → List DraftCluster → List Sem → Result Draft BadSet
after_sems w cs ss = elements parts.Resv (map reservation_form w.resvs) >>= after_resvs w cs ss

abbrev after_clusters : Whole → List DraftCluster → Result Draft BadSet
after_clusters w cs = elements parts.Sem (map semaphore_form w.sems) >>= after_sems w cs

abbrev after_whole : Whole → Result Draft BadSet
after_whole w = elements parts.Cluster (map cluster_form w.clusters) >>= after_clusters w

value_shaped : (value : Data) (d : Draft) → draft_of_value value ≡ Ok d → IsShaped d
unfolding draft_of_value
value_shaped value =
    bind-holds (or_refused (bad kinds.Shape parts.Whole 0) (whole_of value)) after_whole IsShaped (λ w _.
    bind-holds (elements parts.Cluster (map cluster_form w.clusters)) (after_clusters w) IsShaped (λ cs _.
    bind-holds (elements parts.Sem (map semaphore_form w.sems)) (after_sems w cs) IsShaped (λ ss _.
    bind-holds (elements parts.Resv (map reservation_form w.resvs)) (after_resvs w cs ss) IsShaped (λ rs er.
    bind-holds (elements parts.Task (tasks_from (names_of w) (has_horizon w.play) 1 w.tasks)) (after_tasks w cs ss rs) IsShaped (λ ts et.
    bind-holds (drive_of (names_of w) w.play) (after_drive w cs ss rs ts) IsShaped (λ drive ed y e.
    let read : Draft = record { plugin = w.plugin; clusters = cs; sems = ss; resvs = rs; tasks = ts; drive = drive } in
    let same_draft : read ≡ y = cc in
    subst IsShaped same_draft (shaped_draft w cs ss rs ts drive er et ed)))))))

bytes_shaped : (bytes : List ℕ) (d : Draft) → draft_in_bytes bytes ≡ Ok d → IsShaped d
unfolding draft_in_bytes
bytes_shaped bytes =
    bind-holds (or_refused (bad kinds.NotJson parts.Whole 0) (value_of bytes)) draft_of_value IsShaped (λ value _. value_shaped value)

first_one : (o : Option BadSet) → first (o ∷ []) ≡ o
first_one None = refl
first_one (Some b) = refl

same_refusal : (d : Draft) → IsShaped d → whole_refusal d ≡ refusal d
unfolding whole_refusal
same_refusal d h = ap (λ row. first (row ∷ refusal d ∷ [])) h ∙ first_one (refusal d)

-- ---- sets

pub set-read : (bytes : List ℕ) (d : Draft) → draft_in_bytes bytes ≡ Ok d → set bytes ≡ accepted d (whole_refusal d)
unfolding set
set-read bytes d e =
    ap (λ (r : Result Draft BadSet). r >>= λ draft. accepted draft (refusal draft)) e
    ∙ ap (accepted d) (sym (same_refusal d (bytes_shaped bytes d e)))

pub set_stops : (bytes : List ℕ) (e : SetStop) → Stops e (draft_in_bytes bytes) → Stops e (set bytes)
unfolding set
set_stops bytes stops.NoMemory h = tt
set_stops bytes (stops.Bad b) h = ap (λ (r : Result Draft BadSet). r >>= λ draft. accepted draft (refusal draft)) h
