-- A rule is named for each refusal of a set whose elements have their forms.
use Rattle.std.proofs.Common.{◌≡◌, ℕ, ◌+◌, length, List, [], ◌∷◌, Bool, true, false, Option, Some, None, refl, inl, inr}
use Rattle.std.specs.Prelude.{is_some}
use Rattle.rt_task.specs.declared.bad_set.BadSet.{BadSet}
use Rattle.rt_task.specs.declared.bad_set.Part.TheVariants as parts
use Rattle.rt_task.specs.declared.bad_set.SetKind.TheVariants as kinds
use Rattle.rt_task.specs.declared.draft.Draft.{Draft}
use Rattle.rt_task.specs.Draft.{steps_of}
use Rattle.rt_task.specs.NameRules as names
use Rattle.rt_task.specs.RangeRules as range
use Rattle.rt_task.specs.SharingRules as sharing
use Rattle.rt_task.specs.SizeRules as size
use Rattle.rt_task.specs.Refusals.{first}
use Rattle.rt_task.specs.Validity.{name_rows, range_rows, refusal, sharing_rows, size_rows}
use Rattle.set_explain.specs.Broken.{alone, draft_tests}
use Rattle.set_explain.specs.NameRules as name_tests
use Rattle.set_explain.specs.RangeRules as range_tests
use Rattle.set_explain.specs.SharingRules as sharing_tests
use Rattle.set_explain.specs.SizeRules as size_tests
use Rattle.set_explain.specs.Rules.{broken}
use Rattle.set_explain.proofs.BrokenLaws.{OneIs, broken-named, each-named, element-named, first-one, whole-named}

module _ (d : Draft) (b : BadSet) where
  abbrev Named : Type 0
  Named = is_some (broken (draft_tests d b.kind b.place.part b.place.index)) ≡ true

  range_named : OneIs b (range_rows d) → Named
  unfolding range.whole_range range.cluster_range range.resv_range range.task_range range.step_range
  range_named (inl h) = whole-named kinds.Range (range.whole_range d) b (draft_tests d) h (broken-named (range_tests.whole_range d))
  range_named (inr (inl h)) =
      each-named kinds.Range parts.Cluster (range.cluster_range d) d.clusters b (draft_tests d) h
      (λ i. element-named (range.cluster_range d) (range_tests.cluster_range d) d.clusters i (λ earlier x. refl))
  range_named (inr (inr (inl h))) =
      each-named kinds.Range parts.Resv (range.resv_range d) d.resvs b (draft_tests d) h
      (λ i. element-named (range.resv_range d) (alone (range_tests.resv_range d)) d.resvs i (λ earlier x. refl))
  range_named (inr (inr (inr (inl h)))) =
      each-named kinds.Range parts.Task (range.task_range d) d.tasks b (draft_tests d) h
      (λ i. element-named (range.task_range d) (alone (range_tests.task_range d)) d.tasks i (λ earlier x. refl))
  range_named (inr (inr (inr (inr (inl h))))) =
      each-named kinds.Range parts.Step (range.step_range d) (steps_of d.drive) b (draft_tests d) h
      (λ i. element-named (range.step_range d) (alone (range_tests.step_range d)) (steps_of d.drive) i (λ earlier x. refl))
  range_named (inr (inr (inr (inr (inr x))))) = elim x [ ]

  names_named : OneIs b (name_rows d) → Named
  unfolding names.sem_name names.resv_name names.task_name names.step_name
  names_named (inl h) =
      each-named kinds.Name parts.Sem (names.sem_name d) d.sems b (draft_tests d) h
      (λ i. element-named (names.sem_name d) name_tests.sem_name d.sems i (λ earlier x. refl))
  names_named (inr (inl h)) =
      each-named kinds.Name parts.Resv (names.resv_name d) d.resvs b (draft_tests d) h
      (λ i. element-named (names.resv_name d) name_tests.resv_name d.resvs i (λ earlier x. refl))
  names_named (inr (inr (inl h))) =
      each-named kinds.Name parts.Task (names.task_name d) d.tasks b (draft_tests d) h
      (λ i. element-named (names.task_name d) (name_tests.task_name d) d.tasks i (λ earlier x. refl))
  names_named (inr (inr (inr (inl h)))) =
      each-named kinds.Name parts.Step (names.step_name d) (steps_of d.drive) b (draft_tests d) h
      (λ i. element-named (names.step_name d) (alone (name_tests.step_name d)) (steps_of d.drive) i (λ earlier x. refl))
  names_named (inr (inr (inr (inr x)))) = elim x [ ]

  sharing_named : OneIs b (sharing_rows d) → Named
  unfolding sharing.sem_sharing sharing.resv_sharing sharing.task_sharing sharing.step_sharing
  sharing_named (inl h) =
      each-named kinds.Sharing parts.Sem (sharing.sem_sharing d) d.sems b (draft_tests d) h
      (λ i. element-named (sharing.sem_sharing d) (λ earlier s. sharing_tests.sem_sharing d (length earlier + 1) s) d.sems i (λ earlier x. refl))
  sharing_named (inr (inl h)) =
      each-named kinds.Sharing parts.Resv (sharing.resv_sharing d) d.resvs b (draft_tests d) h
      (λ i. element-named (sharing.resv_sharing d) (sharing_tests.resv_sharing d) d.resvs i (λ earlier x. refl))
  sharing_named (inr (inr (inl h))) =
      each-named kinds.Sharing parts.Task (sharing.task_sharing d) d.tasks b (draft_tests d) h
      (λ i. element-named (sharing.task_sharing d) (alone (sharing_tests.task_sharing d)) d.tasks i (λ earlier x. refl))
  sharing_named (inr (inr (inr (inl h)))) =
      each-named kinds.Sharing parts.Step (sharing.step_sharing d) (steps_of d.drive) b (draft_tests d) h
      (λ i. element-named (sharing.step_sharing d) (alone (sharing_tests.step_sharing d)) (steps_of d.drive) i (λ earlier x. refl))
  sharing_named (inr (inr (inr (inr x)))) = elim x [ ]

  sizes_named : OneIs b (size_rows d) → Named
  unfolding size.whole_size size.task_size
  sizes_named (inl h) = whole-named kinds.Size (size.whole_size d) b (draft_tests d) h (broken-named (size_tests.whole_size d))
  sizes_named (inr (inl h)) =
      each-named kinds.Size parts.Task (size.task_size d) d.tasks b (draft_tests d) h
      (λ i. element-named (size.task_size d) (alone size_tests.task_size) d.tasks i (λ earlier x. refl))
  sizes_named (inr (inr x)) = elim x [ ]

  kinds_named : OneIs b (first (range_rows d) ∷ first (name_rows d) ∷ first (sharing_rows d) ∷ first (size_rows d) ∷ []) → Named
  kinds_named (inl h) = range_named (first-one b (range_rows d) h)
  kinds_named (inr (inl h)) = names_named (first-one b (name_rows d) h)
  kinds_named (inr (inr (inl h))) = sharing_named (first-one b (sharing_rows d) h)
  kinds_named (inr (inr (inr (inl h)))) = sizes_named (first-one b (size_rows d) h)
  kinds_named (inr (inr (inr (inr x)))) = elim x [ ]

  pub draft-named : refusal d ≡ Some b → Named
  unfolding refusal
  draft-named h = kinds_named (first-one b (first (range_rows d) ∷ first (name_rows d) ∷ first (sharing_rows d) ∷ first (size_rows d) ∷ []) h)
