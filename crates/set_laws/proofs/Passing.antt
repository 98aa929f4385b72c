-- The rules of a valid set, row by row, and what passes them.
use Rattle.std.proofs.Common.{◌≡◌, ℕ, ◌≤◌, List, [], ◌∷◌, ◌++◌, Bool, true, false, not, cond, length, nat_le, Option, Some, None, refl, ap, sym, ◌∙◌}
use Rattle.std.specs.Prelude.{option_map}
use Rattle.std.proofs.lemmas.Bool.{and_parts, leb-true}
use Rattle.rt_task.specs.declared.bad_set.BadSet.{BadSet}
use Rattle.rt_task.specs.declared.bad_set.SetKind.{SetKind}
use Rattle.rt_task.specs.declared.bad_set.SetKind.TheVariants as kinds
use Rattle.rt_task.specs.declared.bad_set.Part.{Part}
use Rattle.rt_task.specs.declared.bad_set.Part.TheVariants as parts
use Rattle.rt_task.specs.declared.draft.Draft.{Draft}
use Rattle.rt_task.specs.Draft.{steps_of}
use Rattle.rt_task.specs.NameRules.{sem_name, resv_name, task_name, step_name}
use Rattle.rt_task.specs.RangeRules.{whole_range, cluster_range, resv_range, task_range, step_range}
use Rattle.rt_task.specs.Refusals.{bad, first, whole, each, first_failing}
use Rattle.rt_task.specs.RuleWords.{within}
use Rattle.rt_task.specs.SizeRules.{whole_size}
use Rattle.rt_task.specs.Validity.{resv_shape, task_shape, shape_rows, range_rows, name_rows, sharing_rows, size_rows, refusal, whole_refusal}

-- ---- rows

abbrev AllNone : List (Option BadSet) → Type 0
AllNone [] = Unit {0}
AllNone (a ∷ rest) = (a ≡ None) × AllNone rest

all_none : (rows : List (Option BadSet)) → first rows ≡ None → AllNone rows
all_none [] h = tt
all_none (None ∷ rest) h = (refl, all_none rest h)
all_none (Some b ∷ rest) h = absurd cc

each_passes : (kind : SetKind) (part : Part) (o : Option ℕ) → option_map (bad kind part) o ≡ None → o ≡ None
each_passes kind part None h = refl
each_passes kind part (Some n) h = absurd cc

whole_passes : (kind : SetKind) (holds : Bool) → whole kind holds ≡ None → holds ≡ true
whole_passes kind true h = refl
whole_passes kind false h = absurd cc

-- the rows that say what numbers and names are
pub record Rows (d : Draft) : Type 0 where
  pub resv_shapes : first_failing (resv_shape d) [] d.resvs ≡ None
  pub shapes : first_failing (task_shape d) [] d.tasks ≡ None
  pub whole_in_range : whole_range d ≡ true
  pub clusters_in_range : first_failing (cluster_range d) [] d.clusters ≡ None
  pub resvs_in_range : first_failing (resv_range d) [] d.resvs ≡ None
  pub tasks_in_range : first_failing (task_range d) [] d.tasks ≡ None
  pub steps_in_range : first_failing (step_range d) [] (steps_of d.drive) ≡ None
  pub sems_named : first_failing (sem_name d) [] d.sems ≡ None
  pub resvs_named : first_failing (resv_name d) [] d.resvs ≡ None
  pub tasks_named : first_failing (task_name d) [] d.tasks ≡ None
  pub steps_named : first_failing (step_name d) [] (steps_of d.drive) ≡ None
  pub size : whole_size d ≡ true
  pub unrefused : refusal d ≡ None

pub rows : (d : Draft) → whole_refusal d ≡ None → Rows d
unfolding whole_refusal refusal
rows d h =
    let both = all_none (first (shape_rows d) ∷ refusal d ∷ []) h in
    let shape = all_none (shape_rows d) both.0 in
    let kinds_none = all_none (first (range_rows d) ∷ first (name_rows d) ∷ first (sharing_rows d) ∷ first (size_rows d) ∷ []) both.1.0 in
    let range = all_none (range_rows d) kinds_none.0 in
    let name = all_none (name_rows d) kinds_none.1.0 in
    let size = all_none (size_rows d) kinds_none.1.1.1.0 in
    record {
      resv_shapes = each_passes kinds.Shape parts.Resv (first_failing (resv_shape d) [] d.resvs) shape.0;
      shapes = each_passes kinds.Shape parts.Task (first_failing (task_shape d) [] d.tasks) shape.1.0;
      whole_in_range = whole_passes kinds.Range (whole_range d) range.0;
      clusters_in_range = each_passes kinds.Range parts.Cluster (first_failing (cluster_range d) [] d.clusters) range.1.0;
      resvs_in_range = each_passes kinds.Range parts.Resv (first_failing (resv_range d) [] d.resvs) range.1.1.0;
      tasks_in_range = each_passes kinds.Range parts.Task (first_failing (task_range d) [] d.tasks) range.1.1.1.0;
      steps_in_range = each_passes kinds.Range parts.Step (first_failing (step_range d) [] (steps_of d.drive)) range.1.1.1.1.0;
      sems_named = each_passes kinds.Name parts.Sem (first_failing (sem_name d) [] d.sems) name.0;
      resvs_named = each_passes kinds.Name parts.Resv (first_failing (resv_name d) [] d.resvs) name.1.0;
      tasks_named = each_passes kinds.Name parts.Task (first_failing (task_name d) [] d.tasks) name.1.1.0;
      steps_named = each_passes kinds.Name parts.Step (first_failing (step_name d) [] (steps_of d.drive)) name.1.1.1.0;
      size = whole_passes kinds.Size (whole_size d) size.0;
      unrefused = both.1.0;
    }

-- ---- elements and tests

-- the first element passes, and so do the others
pub passed : {A : Type 0} (rule : List A → A → Bool) (earlier : List A) (x : A) (xs : List A) → first_failing rule earlier (x ∷ xs) ≡ None → (rule earlier x ≡ true) × (first_failing rule (earlier ++ x ∷ []) xs ≡ None)
passed rule earlier x xs h = by_test (rule earlier x) refl
  where
    by_test : (b : Bool) → rule earlier x ≡ b → (rule earlier x ≡ true) × (first_failing rule (earlier ++ x ∷ []) xs ≡ None)
    by_test true e = (e, sym (ap (λ b. cond b (first_failing rule (earlier ++ x ∷ []) xs) (Some (length earlier))) e) ∙ h)
    by_test false e = absurd (let f = sym h ∙ ap (λ b. cond b (first_failing rule (earlier ++ x ∷ []) xs) (Some (length earlier))) e in cc)

pub not_true : (b : Bool) → not b ≡ true → b ≡ false
not_true true h = absurd cc
not_true false h = refl

pub within_parts : (low high n : ℕ) → within low high n ≡ true → (low ≤ n) × (n ≤ high)
within_parts low high n h = let p = and_parts (nat_le low n) (nat_le n high) h in (leb-true low n p.0, leb-true n high p.1)
