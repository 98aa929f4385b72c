-- The parts of a draft that no rule refuses are a valid set.
use Rattle.std.proofs.Common.{◌≡◌, ℕ, ◌+◌, ◌-◌, ◌==◌, List, [], ◌∷◌, ◌++◌, Bool, true, false, not, ◌&&◌, ◌||◌, cond, length, map, nat_lt, nat_le, Option, Some, None, refl, ap, ap₂, sym, ◌∙◌}
use Rattle.std.specs.Prelude.{option_map, unwrap_or, bytes_eq, filter, slice_get}
use Rattle.std.specs.List.{list_all, list_any}
use Rattle.std.proofs.lemmas.Bool.{and_parts}
use Rattle.std.proofs.lemmas.List.{length-map, map-append}
use Rattle.std.proofs.lemmas.Option.{slice_get-map}
use Rattle.rt_base.specs.declared.TheConstants.{MOST_CLUSTERS, MOST_CPUS, MOST_OPERATIONS, MOST_RESVS, MOST_SEMS, MOST_TASKS, TICK_END}
use Rattle.rt_task.specs.declared.Act.{Act}
use Rattle.rt_task.specs.declared.Act.TheVariants as acts
use Rattle.rt_task.specs.declared.Op.{Op}
use Rattle.rt_task.specs.declared.Op.TheVariants as ops
use Rattle.rt_base.specs.declared.ResvNo.{ResvNo}
use Rattle.rt_base.specs.declared.SemNo.{SemNo}
use Rattle.rt_task.specs.declared.Protocol.{Protocol}
use Rattle.rt_task.specs.declared.Protocol.TheVariants.{Fmlp, Omlp, Pcp, Mpcp, Srp}
use Rattle.rt_task.specs.declared.Sem.{Sem}
use Rattle.rt_task.specs.declared.bad_set.BadSet.{BadSet}
use Rattle.rt_task.specs.declared.bad_set.SetKind.{SetKind}
use Rattle.rt_task.specs.declared.bad_set.SetKind.TheVariants as kinds
use Rattle.rt_task.specs.declared.bad_set.Part.{Part}
use Rattle.rt_task.specs.declared.bad_set.Part.TheVariants as parts
use Rattle.rt_task.specs.declared.draft.Draft.{Draft}
use Rattle.rt_task.specs.declared.draft.DraftDrive.{DraftDrive}
use Rattle.rt_task.specs.declared.draft.DraftDrive.TheVariants.{Steps, Horizon}
use Rattle.rt_task.specs.declared.draft.DraftStep.{DraftStep}
use Rattle.rt_task.specs.declared.draft.DraftTask.{DraftTask}
use Rattle.rt_task.specs.declared.draft.Piece.{Piece}
use Rattle.rt_task.specs.Bodies.{goes_on}
use Rattle.rt_task.specs.Draft as draft
use Rattle.rt_task.specs.Draft.{runs, draft_of, parts_of, draft_cluster, draft_resv, draft_step, draft_task, draft_drive, cluster_of, resv_of, step_of, task_of, steps_of}
use Rattle.rt_task.specs.Lookups.{cpus, group_of, cluster_with, is_stacked_sem, is_fmlp_sem, cluster_of_task, cluster_of_resv}
use Rattle.rt_task.specs.NameRules.{sem_name, resv_name, task_name, step_name, act_is_known, op_is_known, piece_is_known, resv_is_known}
use Rattle.rt_task.specs.RangeRules.{whole_range, cluster_range, resv_range, task_range, step_range}
use Rattle.rt_task.specs.Refusals.{bad, first, whole, each, first_failing}
use Rattle.rt_task.specs.RuleWords.{is_empty, is_known, is_name, is_span, is_prio, is_periodic, is_p_res, has, has_horizon, no_repeat, all_same, first_of, stands_under, is_of_one_cluster, piece_in_range, sem_numbers}
use Rattle.rt_task.specs.SharingRules.{clusters_sharing, has_fmlp_users, stands_apart, sem_sharing, resv_sharing, resv_fits, task_sharing, act_is_in_group, step_sharing}
use Rattle.rt_task.specs.SizeRules.{horizon_fits, whole_size, task_size}
use Rattle.rt_task.specs.Validity.{task_shape, resv_shape, shape_rows, range_rows, name_rows, sharing_rows, size_rows, refusal, whole_refusal, refusal_of, IsValid}
use Rattle.set_rules.proofs.CutLaws.{recut, is_empty-recut, all-recut, all_in_range-recut, goes_on-recut, body_len-recut}

recut_task : DraftTask → DraftTask
recut_task p = record p { pieces = recut p.pieces }

recut_draft : Draft → Draft
recut_draft d = record d { tasks = map recut_task d.tasks }

-- ---- the draft of a draft's parts

map_map : {A B C : Type 0} (f : B → C) (g : A → B) (h : A → C) (xs : List A) → ((x : A) → f (g x) ≡ h x) → map f (map g xs) ≡ map h xs
map_map f g h [] e = refl
map_map f g h (x ∷ xs) e = ap₂ (λ y ys. y ∷ ys) (e x) (map_map f g h xs e)

map_same : {A : Type 0} (xs : List A) → map (λ (x : A). x) xs ≡ xs
map_same [] = refl
map_same (x ∷ xs) = ap (λ ys. x ∷ ys) (map_same xs)

back : {A B : Type 0} (f : B → A) (g : A → B) (xs : List A) → ((x : A) → f (g x) ≡ x) → map f (map g xs) ≡ xs
back f g xs e = map_map f g (λ x. x) xs e ∙ map_same xs

drive_back : (drive : DraftDrive) → draft_drive (draft.drive_of drive) ≡ drive
drive_back (Steps ss) = ap Steps (back draft_step step_of ss (λ s. refl))
drive_back (Horizon h) = refl

draft_of-parts_of : (d : Draft) → draft_of (parts_of d) ≡ recut_draft d
unfolding recut_draft recut_task
draft_of-parts_of d =
    rw (
      back draft_cluster cluster_of d.clusters (λ c. refl),
      back draft_resv resv_of d.resvs (λ r. refl),
      map_map (λ t. draft_task t (runs t.body)) task_of recut_task d.tasks (λ p. refl),
      drive_back d.drive,
    )
    refl

-- ---- rows

abbrev AllNone : List (Option BadSet) → Type 0
AllNone [] = Unit {0}
AllNone (a ∷ rest) = (a ≡ None) × AllNone rest

all_none : (rows : List (Option BadSet)) → first rows ≡ None → AllNone rows
all_none [] h = tt
all_none (None ∷ rest) h = (refl, all_none rest h)
all_none (Some b ∷ rest) h = absurd cc

first-none : (rows : List (Option BadSet)) → AllNone rows → first rows ≡ None
first-none [] h = refl
first-none (None ∷ rest) h = first-none rest h.1
first-none (Some b ∷ rest) h = absurd (let e = h.0 in cc)

each_parts : (kind : SetKind) (part : Part) (o : Option ℕ) → option_map (bad kind part) o ≡ None → o ≡ None
each_parts kind part None h = refl
each_parts kind part (Some n) h = absurd cc

passed : {A : Type 0} (rule : List A → A → Bool) (earlier : List A) (x : A) (xs : List A) → first_failing rule earlier (x ∷ xs) ≡ None → (rule earlier x ≡ true) × (first_failing rule (earlier ++ x ∷ []) xs ≡ None)
passed rule earlier x xs h = by_test (rule earlier x) refl
  where
    by_test : (b : Bool) → rule earlier x ≡ b → (rule earlier x ≡ true) × (first_failing rule (earlier ++ x ∷ []) xs ≡ None)
    by_test true e = (e, sym (ap (λ b. cond b (first_failing rule (earlier ++ x ∷ []) xs) (Some (length earlier))) e) ∙ h)
    by_test false e = absurd (let f = sym h ∙ ap (λ b. cond b (first_failing rule (earlier ++ x ∷ []) xs) (Some (length earlier))) e in cc)

-- a rule on what elements become, where two rules hold of the elements
mapped : {A B : Type 0} (f : A → B) (p q : List A → A → Bool) (r : List B → B → Bool) → ((e : List A) (x : A) → p e x ≡ true → q e x ≡ true → r (map f e) (f x) ≡ true)
    → (earlier xs : List A) → first_failing p earlier xs ≡ None → first_failing q earlier xs ≡ None → first_failing r (map f earlier) (map f xs) ≡ None
mapped f p q r step earlier [] hp hq = refl
mapped f p q r step earlier (x ∷ xs) hp hq =
    let pp = passed p earlier x xs hp in
    let qq = passed q earlier x xs hq in
    ap (λ b. cond b (first_failing r (map f earlier ++ f x ∷ []) (map f xs)) (Some (length (map f earlier)))) (step earlier x pp.0 qq.0)
    ∙ ap (λ e. first_failing r e (map f xs)) (sym (map-append f earlier (x ∷ [])))
    ∙ mapped f p q r step (earlier ++ x ∷ []) xs pp.1 qq.1

row_mapped : {A B : Type 0} (f : A → B) (p q : List A → A → Bool) (r : List B → B → Bool) (k l m : SetKind) (part : Part) (xs : List A) → ((e : List A) (x : A) → p e x ≡ true → q e x ≡ true → r (map f e) (f x) ≡ true)
    → each k part p xs ≡ None → each l part q xs ≡ None → each m part r (map f xs) ≡ None
row_mapped f p q r k l m part xs step hp hq =
    ap (option_map (bad m part)) (mapped f p q r step [] xs (each_parts k part (first_failing p [] xs) hp) (each_parts l part (first_failing q [] xs) hq))

alike : {A : Type 0} (r s : List A → A → Bool) → ((e : List A) (x : A) → r e x ≡ s e x) → (earlier xs : List A) → first_failing r earlier xs ≡ first_failing s earlier xs
alike r s same earlier [] = refl
alike r s same earlier (x ∷ xs) =
    ap₂ (λ b o. cond b o (Some (length earlier))) (same earlier x) (alike r s same (earlier ++ x ∷ []) xs)

row_alike : {A : Type 0} (r s : List A → A → Bool) (kind : SetKind) (part : Part) (xs : List A) → ((e : List A) (x : A) → r e x ≡ s e x) → each kind part s xs ≡ None → each kind part r xs ≡ None
row_alike r s kind part xs same h = ap (option_map (bad kind part)) (alike r s same [] xs) ∙ h

-- ---- the rules on a draft whose bodies are cut anew

last7 : (a b c x y z w : Bool) → (a && (b && (c && (x && (y && (z && w)))))) ≡ true → w ≡ true
last7 a b c x y z w h =
    let h1 = and_parts a (b && (c && (x && (y && (z && w))))) h in
    let h2 = and_parts b (c && (x && (y && (z && w)))) h1.1 in
    let h3 = and_parts c (x && (y && (z && w))) h2.1 in
    let h4 = and_parts x (y && (z && w)) h3.1 in
    let h5 = and_parts y (z && w) h4.1 in
    (and_parts z w h5.1).1

module _ (d : Draft) where
  in_range : (e : List DraftTask) (p : DraftTask) → task_range d e p ≡ true → list_all piece_in_range p.pieces ≡ true
  unfolding task_range
  in_range e p h = last7 (is_span p.cost) (is_span p.period) (is_span p.rel_deadline) (nat_lt p.phase TICK_END) (is_prio p.prio) (nat_lt p.cluster (length d.clusters)) (list_all piece_in_range p.pieces) h

  shape_again : (e : List DraftTask) (p : DraftTask) → task_range d e p ≡ true → task_shape d e p ≡ true → task_shape (recut_draft d) (map recut_task e) (recut_task p) ≡ true
  unfolding task_shape recut_draft recut_task
  shape_again e p r h = ap (λ b. not (has_horizon d.drive) || (is_periodic p.kind && not b)) (is_empty-recut p.pieces (in_range e p r)) ∙ h

  range_again : (e : List DraftTask) (p : DraftTask) → task_range d e p ≡ true → task_range d e p ≡ true → task_range (recut_draft d) (map recut_task e) (recut_task p) ≡ true
  unfolding task_range recut_draft recut_task
  range_again e p r h =
      ap (λ b. is_span p.cost && (is_span p.period && (is_span p.rel_deadline && (nat_lt p.phase TICK_END && (is_prio p.prio && (nat_lt p.cluster (length d.clusters) && b))))))
      (all_in_range-recut p.pieces (in_range e p r) ∙ sym (in_range e p r))
      ∙ h

  names_alike : (w : List ℕ) (e : List DraftTask) → list_any (λ (x : DraftTask). bytes_eq x.name w) (map recut_task e) ≡ list_any (λ (x : DraftTask). bytes_eq x.name w) e
  unfolding recut_task
  names_alike w [] = refl
  names_alike w (x ∷ e) = ap (λ b. bytes_eq x.name w || b) (names_alike w e)

  known_again : (ps : List Piece) → list_all (piece_is_known d) ps ≡ true → list_all (piece_is_known d) (recut ps) ≡ true
  known_again ps h = all-recut (piece_is_known d) refl (λ n lt k. refl) ps h

  name_again : (e : List DraftTask) (p : DraftTask) → task_name d e p ≡ true → task_name d e p ≡ true → task_name (recut_draft d) (map recut_task e) (recut_task p) ≡ true
  unfolding task_name recut_draft recut_task
  name_again e p g h =
      let known = last7 (p.number.0 == length e + 1) (is_name p.name) (not (list_any (λ (x : DraftTask). bytes_eq x.name p.name) e)) (list_all (is_known d.sems) (sem_numbers p)) (no_repeat (sem_numbers p)) (resv_is_known d p.resv) (list_all (piece_is_known d) p.pieces) h in
      ap (λ (n : ℕ). (p.number.0 == n + 1) && (is_name p.name && (not (list_any (λ (x : DraftTask). bytes_eq x.name p.name) (map recut_task e)) && (list_all (is_known d.sems) (sem_numbers p) && (no_repeat (sem_numbers p) && (resv_is_known d p.resv && list_all (piece_is_known d) (recut p.pieces)))))))
      (length-map e recut_task)
      ∙ ap₂ (λ (a b : Bool). (p.number.0 == length e + 1) && (is_name p.name && (not a && (list_all (is_known d.sems) (sem_numbers p) && (no_repeat (sem_numbers p) && (resv_is_known d p.resv && b))))))
      (names_alike p.name e) (known_again p.pieces known ∙ sym known)
      ∙ h

  step_name_again : (e : List DraftStep) (s : DraftStep) → step_name (recut_draft d) e s ≡ step_name d e s
  unfolding step_name recut_draft
  step_name_again e s = by_act s.act
    where
      by_op : (op : Op) → op_is_known (record d { tasks = map recut_task d.tasks }) op ≡ op_is_known d op
      by_op ops.Work = refl
      by_op (ops.Lock s) = refl
      by_op (ops.Unlock s) = refl
      by_op (ops.Sleep n) = refl
      by_op ops.NpOn = refl
      by_op ops.NpOff = refl
      by_op ops.End = refl

      by_act : (a : Act) → act_is_known (record d { tasks = map recut_task d.tasks }) a ≡ act_is_known d a
      by_act acts.Tick = refl
      by_act acts.Irq = refl
      by_act (acts.Arrive t) = ap (λ n. nat_le 1 t.0 && nat_le t.0 n) (length-map d.tasks recut_task)
      by_act (acts.Do op) = by_op op

  sharing_alike : (n : ℕ) (ts : List DraftTask) → map (λ (p : DraftTask). p.cluster) (filter (λ p. has n (sem_numbers p)) (map recut_task ts)) ≡ map (λ (p : DraftTask). p.cluster) (filter (λ p. has n (sem_numbers p)) ts)
  unfolding recut_task
  sharing_alike n [] = refl
  sharing_alike n (t ∷ ts) = by_test (has n (sem_numbers t)) refl (sharing_alike n ts)
    where
      by_test : (b : Bool) → has n (sem_numbers t) ≡ b
          → map (λ (p : DraftTask). p.cluster) (filter (λ p. has n (sem_numbers p)) (map recut_task ts)) ≡ map (λ (p : DraftTask). p.cluster) (filter (λ p. has n (sem_numbers p)) ts)
          → map (λ (p : DraftTask). p.cluster) (filter (λ p. has n (sem_numbers p)) (map recut_task (t ∷ ts))) ≡ map (λ (p : DraftTask). p.cluster) (filter (λ p. has n (sem_numbers p)) (t ∷ ts))
      by_test true e rest = rw e (ap (λ cs. t.cluster ∷ cs) rest)
      by_test false e rest = rw e rest

  fmlp_alike : (c : ℕ) (ts : List DraftTask) → list_any (λ (p : DraftTask). p.cluster == c && list_any (λ (s : SemNo). is_fmlp_sem d s.0) p.uses) (map recut_task ts) ≡ list_any (λ (p : DraftTask). p.cluster == c && list_any (λ (s : SemNo). is_fmlp_sem d s.0) p.uses) ts
  unfolding recut_task
  fmlp_alike c [] = refl
  fmlp_alike c (t ∷ ts) = ap (λ b. (t.cluster == c && list_any (λ (s : SemNo). is_fmlp_sem d s.0) t.uses) || b) (fmlp_alike c ts)

  apart_again : (p : Protocol) (o : Option ℕ) → stands_apart (recut_draft d) p o ≡ stands_apart d p o
  unfolding has_fmlp_users is_fmlp_sem recut_draft
  apart_again Srp (Some c) = ap not (fmlp_alike c d.tasks)
  apart_again Srp None = refl
  apart_again Fmlp o = refl
  apart_again Omlp o = refl
  apart_again Pcp o = refl
  apart_again Mpcp o = refl

  sem_again : (e : List Sem) (s : Sem) → sem_sharing (recut_draft d) e s ≡ sem_sharing d e s
  unfolding sem_sharing clusters_sharing group_of recut_draft
  sem_again e s =
      ap (λ cs. stands_under s.protocol d.plugin && (cond (is_of_one_cluster s.protocol d.plugin) (all_same cs) (all_same (map (group_of d) cs)) && stands_apart (recut_draft d) s.protocol (first_of cs))) (sharing_alike (length e + 1) d.tasks)
      ∙ ap (λ b. stands_under s.protocol d.plugin && (cond (is_of_one_cluster s.protocol d.plugin) (all_same (clusters_sharing d (length e + 1))) (all_same (map (group_of d) (clusters_sharing d (length e + 1)))) && b)) (apart_again s.protocol (first_of (clusters_sharing d (length e + 1))))

  fits_again : (r : Bool) (c : ℕ) (o : Option ResvNo) → resv_fits (recut_draft d) r c o ≡ resv_fits d r c o
  unfolding cluster_of_resv recut_draft
  fits_again true c None = refl
  fits_again true c (Some r) = refl
  fits_again false c None = refl
  fits_again false c (Some r) = refl

  task_again : (e : List DraftTask) (p : DraftTask) → task_range d e p ≡ true → task_sharing d e p ≡ true → task_sharing (recut_draft d) (map recut_task e) (recut_task p) ≡ true
  unfolding task_sharing is_stacked_sem recut_draft recut_task
  task_again e p r h =
      ap (λ b. b && ((is_empty (recut p.pieces) || goes_on (sem_numbers p) (is_stacked_sem d) (recut p.pieces) (Some (record { held = []; np = false }))) && (not p.early || is_periodic p.kind))) (fits_again (is_p_res d.plugin) p.cluster p.resv)
      ∙ ap₂ (λ (a b : Bool). resv_fits d (is_p_res d.plugin) p.cluster p.resv && ((a || b) && (not p.early || is_periodic p.kind)))
      (is_empty-recut p.pieces (in_range e p r)) (goes_on-recut (sem_numbers p) (is_stacked_sem d) p.pieces (Some (record { held = []; np = false })) (in_range e p r))
      ∙ h

  cluster_again : (t : ℕ) → cluster_of_task (recut_draft d) t ≡ cluster_of_task d t
  unfolding cluster_of_task recut_draft recut_task
  cluster_again t = ap (λ o. unwrap_or (option_map (λ (p : DraftTask). p.cluster) o) 0) (slice_get-map recut_task d.tasks (t - 1)) ∙ by_task (slice_get d.tasks (t - 1))
    where
      by_task : (o : Option DraftTask) → unwrap_or (option_map (λ (p : DraftTask). p.cluster) (option_map recut_task o)) 0 ≡ unwrap_or (option_map (λ (p : DraftTask). p.cluster) o) 0
      by_task None = refl
      by_task (Some p) = refl

  step_again : (e : List DraftStep) (s : DraftStep) → step_sharing (recut_draft d) e s ≡ step_sharing d e s
  unfolding step_sharing group_of cluster_with recut_draft
  step_again e s = by_act s.act
    where
      by_act : (a : Act) → act_is_in_group (recut_draft d) s.cpu a ≡ act_is_in_group d s.cpu a
      by_act acts.Tick = refl
      by_act acts.Irq = refl
      by_act (acts.Arrive t) = ap (λ c. group_of d c == group_of d (cluster_with d s.cpu)) (cluster_again t.0)
      by_act (acts.Do op) = refl

  size_again : whole_size (recut_draft d) ≡ whole_size d
  unfolding whole_size cpus recut_draft
  size_again = ap (λ n. nat_le (length d.clusters) MOST_CLUSTERS && (nat_le (cpus d) MOST_CPUS && (nat_le n MOST_TASKS && (nat_le (length d.sems) MOST_SEMS && (nat_le (length d.resvs) MOST_RESVS && horizon_fits d d.drive))))) (length-map d.tasks recut_task)

  task_size_again : (e : List DraftTask) (p : DraftTask) → task_size d e p ≡ true → task_size d e p ≡ true → task_size (recut_draft d) (map recut_task e) (recut_task p) ≡ true
  unfolding task_size recut_task
  task_size_again e p g h = ap (λ n. nat_le n MOST_OPERATIONS) (body_len-recut p.pieces) ∙ h

  -- ---- the table

  -- ---- the table

  shape_rows_again : each kinds.Range parts.Task (task_range d) d.tasks ≡ None → AllNone (shape_rows d) → first (shape_rows (recut_draft d)) ≡ None
  unfolding resv_shape recut_draft
  shape_rows_again range h =
      first-none (shape_rows (recut_draft d)) (
        h.0,
        (row_mapped recut_task (task_range d) (task_shape d) (task_shape (recut_draft d)) kinds.Range kinds.Shape kinds.Shape parts.Task d.tasks shape_again range h.1.0, tt),
      )

  range_rows_again : AllNone (range_rows d) → first (range_rows (recut_draft d)) ≡ None
  unfolding whole_range cluster_range resv_range step_range cpus recut_draft
  range_rows_again h =
      first-none (range_rows (recut_draft d)) (
        h.0,
        (
          h.1.0,
          (
            h.1.1.0,
            (
              row_mapped recut_task (task_range d) (task_range d) (task_range (recut_draft d)) kinds.Range kinds.Range kinds.Range parts.Task d.tasks range_again h.1.1.1.0 h.1.1.1.0,
              (h.1.1.1.1.0, tt),
            ),
          ),
        ),
      )

  name_rows_again : AllNone (name_rows d) → first (name_rows (recut_draft d)) ≡ None
  unfolding sem_name resv_name recut_draft
  name_rows_again h =
      first-none (name_rows (recut_draft d)) (
        h.0,
        (
          h.1.0,
          (
            row_mapped recut_task (task_name d) (task_name d) (task_name (recut_draft d)) kinds.Name kinds.Name kinds.Name parts.Task d.tasks name_again h.1.1.0 h.1.1.0,
            (row_alike (step_name (recut_draft d)) (step_name d) kinds.Name parts.Step (steps_of d.drive) step_name_again h.1.1.1.0, tt),
          ),
        ),
      )

  sharing_rows_again : each kinds.Range parts.Task (task_range d) d.tasks ≡ None → AllNone (sharing_rows d) → first (sharing_rows (recut_draft d)) ≡ None
  unfolding resv_sharing recut_draft
  sharing_rows_again range h =
      first-none (sharing_rows (recut_draft d)) (
        row_alike (sem_sharing (recut_draft d)) (sem_sharing d) kinds.Sharing parts.Sem d.sems sem_again h.0,
        (
          h.1.0,
          (
            row_mapped recut_task (task_range d) (task_sharing d) (task_sharing (recut_draft d)) kinds.Range kinds.Sharing kinds.Sharing parts.Task d.tasks task_again range h.1.1.0,
            (row_alike (step_sharing (recut_draft d)) (step_sharing d) kinds.Sharing parts.Step (steps_of d.drive) step_again h.1.1.1.0, tt),
          ),
        ),
      )

  size_rows_again : AllNone (size_rows d) → first (size_rows (recut_draft d)) ≡ None
  unfolding recut_draft
  size_rows_again h =
      first-none (size_rows (recut_draft d)) (
        ap (whole kinds.Size) size_again ∙ h.0,
        (row_mapped recut_task (task_size d) (task_size d) (task_size (recut_draft d)) kinds.Size kinds.Size kinds.Size parts.Task d.tasks task_size_again h.1.0 h.1.0, tt),
      )

  whole_refusal-recut : whole_refusal d ≡ None → whole_refusal (recut_draft d) ≡ None
  unfolding whole_refusal refusal recut_draft
  whole_refusal-recut h =
      let both = all_none (first (shape_rows d) ∷ refusal d ∷ []) h in
      let shapes = all_none (shape_rows d) both.0 in
      let kinds_kept = all_none (first (range_rows d) ∷ first (name_rows d) ∷ first (sharing_rows d) ∷ first (size_rows d) ∷ []) both.1.0 in
      let range = all_none (range_rows d) kinds_kept.0 in
      let later = first-none (first (range_rows (recut_draft d)) ∷ first (name_rows (recut_draft d)) ∷ first (sharing_rows (recut_draft d)) ∷ first (size_rows (recut_draft d)) ∷ []) (
        range_rows_again range,
        (
          name_rows_again (all_none (name_rows d) kinds_kept.1.0),
          (
            sharing_rows_again range.1.1.1.0 (all_none (sharing_rows d) kinds_kept.1.1.0),
            (
              size_rows_again (all_none (size_rows d) kinds_kept.1.1.1.0),
              tt,
            ),
          ),
        ),
      ) in
      first-none (first (shape_rows (recut_draft d)) ∷ refusal (recut_draft d) ∷ []) (
        shape_rows_again range.1.1.1.0 shapes,
        (later, tt),
      )

  -- what a draft that no rule refuses stands for is a valid set
  pub valid_parts_of : whole_refusal d ≡ None → IsValid (parts_of d)
  unfolding refusal_of
  valid_parts_of h = ap whole_refusal (draft_of-parts_of d) ∙ whole_refusal-recut h
