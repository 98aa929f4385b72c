-- The rule that a refused set breaks.
use Rattle.std.specs.Prelude.{ℕ, ◌+◌, List, [], ◌∷◌, length, take, map, Option, None, Some, Result, Ok, Err, slice_get}
use Rattle.rt_task.specs.declared.bad_set.BadSet.{BadSet}
use Rattle.rt_task.specs.declared.bad_set.Part.{Part}
use Rattle.rt_task.specs.declared.bad_set.Part.TheVariants as parts
use Rattle.rt_task.specs.declared.bad_set.SetKind.{SetKind}
use Rattle.rt_task.specs.declared.bad_set.SetKind.TheVariants as kinds
use Rattle.rt_task.specs.declared.draft.Draft.{Draft}
use Rattle.rt_task.specs.Draft.{steps_of}
use Rattle.serde_json.specs.Data.{Data}
use Rattle.set_read.specs.Document.{Play, Whole, steps, horizon, has_horizon, names_of, whole_of}
use Rattle.set_read.specs.Sets.{draft_of_value, value_of}
use Rattle.set_explain.specs.Rules.{Rule, Test, broken}
use Rattle.set_explain.specs.RangeRules as range
use Rattle.set_explain.specs.NameRules as names
use Rattle.set_explain.specs.SharingRules as sharing
use Rattle.set_explain.specs.SizeRules as size
use Rattle.set_explain.specs.ShapeRules as shape

-- the tests of the element at a place, which may look at the elements before it
abbrev pub tests_by : {A : Type 0} → (A → List Test) → Option A → List Test
tests_by tests None = []
tests_by tests (Some x) = tests x

abbrev pub tests_at : {A : Type 0} → (List A → A → List Test) → List A → ℕ → List Test
tests_at tests xs i = tests_by (tests (take i xs)) (slice_get xs i)

abbrev pub alone : {A : Type 0} → (A → List Test) → List A → A → List Test
alone tests earlier x = tests x

module _ (d : Draft) where
  abbrev pub range_tests : Part → ℕ → List Test
  range_tests parts.Whole i = range.whole_range d
  range_tests parts.Cluster i = tests_at (range.cluster_range d) d.clusters i
  range_tests parts.Resv i = tests_at (alone (range.resv_range d)) d.resvs i
  range_tests parts.Task i = tests_at (alone (range.task_range d)) d.tasks i
  range_tests parts.Step i = tests_at (alone (range.step_range d)) (steps_of d.drive) i
  range_tests _ i = []

  abbrev pub name_tests : Part → ℕ → List Test
  name_tests parts.Sem i = tests_at names.sem_name d.sems i
  name_tests parts.Resv i = tests_at names.resv_name d.resvs i
  name_tests parts.Task i = tests_at (names.task_name d) d.tasks i
  name_tests parts.Step i = tests_at (alone (names.step_name d)) (steps_of d.drive) i
  name_tests _ i = []

  abbrev pub sharing_tests : Part → ℕ → List Test
  sharing_tests parts.Sem i = tests_at (λ earlier s. sharing.sem_sharing d (length earlier + 1) s) d.sems i
  sharing_tests parts.Resv i = tests_at (sharing.resv_sharing d) d.resvs i
  sharing_tests parts.Task i = tests_at (alone (sharing.task_sharing d)) d.tasks i
  sharing_tests parts.Step i = tests_at (alone (sharing.step_sharing d)) (steps_of d.drive) i
  sharing_tests _ i = []

  abbrev pub size_tests : Part → ℕ → List Test
  size_tests parts.Whole i = size.whole_size d
  size_tests parts.Task i = tests_at (alone size.task_size) d.tasks i
  size_tests _ i = []

  abbrev pub draft_tests : SetKind → Part → ℕ → List Test
  draft_tests kinds.Range part i = range_tests part i
  draft_tests kinds.Name part i = name_tests part i
  draft_tests kinds.Sharing part i = sharing_tests part i
  draft_tests kinds.Size part i = size_tests part i
  draft_tests _ part i = []

abbrev pub steps_in : Play → List Data
steps_in (steps xs) = xs
steps_in (horizon h) = []

-- the tests of an element's form
abbrev pub element_tests : Whole → Part → ℕ → List Test
element_tests w parts.Cluster i = tests_at (alone shape.cluster_shape) w.clusters i
element_tests w parts.Sem i = tests_at (alone shape.sem_shape) w.sems i
element_tests w parts.Resv i = tests_at (alone shape.resv_shape) w.resvs i
element_tests w parts.Task i = tests_at (alone (shape.task_shape (names_of w) (has_horizon w.play))) w.tasks i
element_tests w parts.Step i = tests_at (alone (shape.step_shape (names_of w))) (steps_in w.play) i
element_tests w _ i = []

abbrev pub form_tests : Data → Part → ℕ → List Test
form_tests d parts.Whole i = shape.whole_shape d
form_tests d part i = tests_by (λ w. element_tests w part i) (whole_of d)

abbrev pub tests_in : Result Draft BadSet → SetKind → Part → ℕ → List Test
tests_in (Err b) kind part i = []
tests_in (Ok d) kind part i = draft_tests d kind part i

abbrev pub value_tests : Data → SetKind → Part → ℕ → List Test
value_tests d kinds.Shape part i = form_tests d part i
value_tests d kind part i = tests_in (draft_of_value d) kind part i

-- the rule that the set in these bytes breaks where it is refused so; none where the bytes are no JSON value
unfoldable pub broken_rule : List ℕ → BadSet → Option Rule
broken_rule bytes b = broken (tests_by (λ d. value_tests d b.kind b.place.part b.place.index) (value_of bytes))
