-- Rows of the table of rules that a valid set passes: that of sizes, that of clusters with the clusters before each, and that of
-- reservations and what they share.
use Rattle.std.proofs.Common.{Bool, List, [], false, length, refl, true, ℕ, ◌++◌, ◌∷◌, ◌≡◌}
use Rattle.std.specs.Prelude.{None, Option, Some, if◌then◌else◌, option_map}
use Rattle.rt_task.specs.Draft.{draft_of}
use Rattle.rt_task.specs.RangeRules.{cluster_range}
use Rattle.rt_task.specs.Refusals.{bad, each, first, first_failing}
use Rattle.rt_task.specs.SharingRules.{resv_sharing}
use Rattle.rt_task.specs.SizeRules.{whole_size}
use Rattle.rt_task.specs.Validity.{IsValid, name_rows, range_rows, refusal, refusal_of, sharing_rows, size_rows, shape_rows, whole_refusal}
use Rattle.rt_task.specs.declared.Parts.{Parts}
use Rattle.rt_task.specs.declared.bad_set.Part.TheVariants as parts
use Rattle.rt_task.specs.declared.bad_set.Part.{Part}
use Rattle.rt_task.specs.declared.bad_set.SetKind.TheVariants as kinds
use Rattle.rt_task.specs.declared.bad_set.SetKind.{SetKind}
use Rattle.rt_task.specs.declared.draft.Draft.{Draft}
use Rattle.rt_laws.proofs.ValidSets.{all-none, whole-none}

none-fails : (kind : SetKind) (part : Part) (o : Option ℕ) → option_map (bad kind part) o ≡ None → o ≡ None
none-fails kind part None h = refl
none-fails kind part (Some n) h = cc

pub record PassesRows (p : Parts) : Type 0 where
  pub clusters : first_failing (cluster_range (draft_of p)) [] (draft_of p).clusters ≡ None
  pub size : whole_size (draft_of p) ≡ true
  pub resvs : first_failing (resv_sharing (draft_of p)) [] (draft_of p).resvs ≡ None

pub passes_rows : (p : Parts) → IsValid p → PassesRows p
unfolding refusal_of whole_refusal refusal
passes_rows p valid =
    let d : Draft = draft_of p in
    let all = all-none (first (shape_rows d) ∷ refusal d ∷ []) valid in
    let table = all-none (first (range_rows d) ∷ first (name_rows d) ∷ first (sharing_rows d) ∷ first (size_rows d) ∷ []) all.1.0 in
    let range = all-none (range_rows d) table.0 in
    let sharing = all-none (sharing_rows d) table.1.1.0 in
    let size = all-none (size_rows d) table.1.1.1.0 in
    record {
      clusters = none-fails kinds.Range parts.Cluster (first_failing (cluster_range d) [] d.clusters) range.1.0;
      size = whole-none kinds.Size (whole_size d) size.0;
      resvs = none-fails kinds.Sharing parts.Resv (first_failing (resv_sharing d) [] d.resvs) sharing.1.0;
    }

-- the first element passes, and so do those after it
pub first-passes : {A : Type 0} (rule : List A → A → Bool) (earlier : List A) (x : A) (xs : List A) → first_failing rule earlier (x ∷ xs) ≡ None → (rule earlier x ≡ true) × (first_failing rule (earlier ++ x ∷ []) xs ≡ None)
first-passes rule earlier x xs h = by_case (rule earlier x) refl h
  where
    by_case : (b : Bool) → rule earlier x ≡ b → (if b then first_failing rule (earlier ++ x ∷ []) xs else Some (length earlier)) ≡ None → (rule earlier x ≡ true) × (first_failing rule (earlier ++ x ∷ []) xs ≡ None)
    by_case true e k = (e, k)
    by_case false e k = cc
