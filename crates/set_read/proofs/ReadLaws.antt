-- Reading element after element gives what the definition says.
use Rattle.std.proofs.Common.{◌≡◌, ℕ, ◌+◌, List, [], ◌∷◌, ◌++◌, Bool, true, false, length, Option, Some, None, Result, Ok, Err, map, refl, ap, sym, ◌∙◌, length-append}
use Rattle.std.specs.Prelude.{option_map, filter_map}
use Rattle.rt_task.specs.declared.bad_set.SetKind.TheVariants as kinds
use Rattle.rt_task.specs.declared.bad_set.Part.{Part}
use Rattle.rt_task.specs.declared.bad_set.Part.TheVariants as parts
use Rattle.std.specs.Str.{IsUtf8, is_utf8}
use Rattle.std.proofs.lemmas.Str.{is_utf8-from_IsUtf8, IsUtf8-from_is_utf8}
use Rattle.serde_json.specs.Read.{read}
use Rattle.serde_json.specs.Data.{Data}
use Rattle.rt_task.specs.declared.bad_set.BadSet.{BadSet}
use Rattle.rt_task.specs.declared.draft.Draft.{Draft}
use Rattle.rt_task.specs.Refusals.{bad, first_failing}
use Rattle.set_read.specs.Document.{Names, Whole, Play, steps, horizon, whole_of, names_of, has_horizon, tasks_from, cluster_form, semaphore_form, reservation_form}
use Rattle.set_read.specs.inside.Elements.{with_front, elements_from}
use Rattle.set_read.specs.inside.Stepwise.{drive_read, whole_read, draft_read}
use Rattle.set_read.specs.Sets.{◌>>=◌, or_refused, elements, has_form, same, unless, drive_of, draft_of_value, draft_in_bytes, value_of}

with_first : {A : Type 0} (x : A) (part : Part) (o : Option ℕ) (xs : List A) → with_front (x ∷ []) (unless (option_map (bad kinds.Shape part) o) xs) ≡ unless (option_map (bad kinds.Shape part) o) (x ∷ xs)
with_first x part None xs = refl
with_first x part (Some n) xs = refl

from_is : {A : Type 0} (part : Part) (earlier xs : List (Option A)) → elements_from part (length earlier) xs ≡ unless (option_map (bad kinds.Shape part) (first_failing has_form earlier xs)) (filter_map same xs)
from_is part earlier [] = refl
from_is part earlier (None ∷ xs) = refl
from_is part earlier (Some x ∷ xs) =
    let more = earlier ++ Some x ∷ [] in
    let count : length earlier + 1 ≡ length more = sym (length-append earlier (Some x ∷ [])) in
    ap (with_front (x ∷ [])) (ap (λ n. elements_from part n xs) count ∙ from_is part more xs) ∙ with_first x part (first_failing has_form more xs) (filter_map same xs)

pub elements-from : {A : Type 0} (part : Part) (xs : List (Option A)) → elements_from part 0 xs ≡ elements part xs
unfolding elements
elements-from part xs = from_is part [] xs

drive-read : (names : Names) (play : Play) → drive_read names play ≡ drive_of names play
unfolding drive_read drive_of
drive-read names (steps xs) = rw (elements-from parts.Step) refl
drive-read names (horizon h) = refl

abbrev whole_form : Whole → Result Draft BadSet
whole_form whole = do
  clusters ← elements parts.Cluster (map cluster_form whole.clusters)
  sems ← elements parts.Sem (map semaphore_form whole.sems)
  resvs ← elements parts.Resv (map reservation_form whole.resvs)
  tasks ← elements parts.Task (tasks_from (names_of whole) (has_horizon whole.play) 1 whole.tasks)
  drive ← drive_of (names_of whole) whole.play
  Ok (record { plugin = whole.plugin; clusters = clusters; sems = sems; resvs = resvs; tasks = tasks; drive = drive })

whole-read : (w : Whole) → whole_read w ≡ whole_form w
unfolding whole_read
whole-read w = simp (elements-from, drive-read)

pub draft-read : (d : Data) → draft_read d ≡ draft_of_value d
unfolding draft_read draft_of_value
draft-read d = by_whole (whole_of d)
  where
    by_whole : (o : Option Whole) → (or_refused (bad kinds.Shape parts.Whole 0) o >>= whole_read) ≡ (or_refused (bad kinds.Shape parts.Whole 0) o >>= whole_form)
    by_whole None = refl
    by_whole (Some w) = whole-read w

-- ---- from bytes

pub read_draft-read : (bytes : List ℕ) (d : Data) → IsUtf8 bytes → read bytes ≡ Some d → draft_in_bytes bytes ≡ draft_read d
unfolding draft_in_bytes value_of
read_draft-read bytes d utf8 e = rw (is_utf8-from_IsUtf8 bytes utf8, e) (sym (draft-read d))

pub read_draft-refused : (bytes : List ℕ) → (IsUtf8 bytes → read bytes ≡ None) → draft_in_bytes bytes ≡ Err (bad kinds.NotJson parts.Whole 0)
unfolding draft_in_bytes value_of
read_draft-refused bytes h = by_test (is_utf8 bytes) refl
  where
    by_test : (b : Bool) → is_utf8 bytes ≡ b → draft_in_bytes bytes ≡ Err (bad kinds.NotJson parts.Whole 0)
    by_test true e = rw (e, h (IsUtf8-from_is_utf8 bytes e)) refl
    by_test false e = rw e refl
