-- The rows of the rules of a valid set.
use Rattle.std.proofs.Common.{◌≡◌, ℕ, Bool, true, false, ◌&&◌, List, [], ◌∷◌, ◌++◌, ◌≤◌, ◌<◌, suc, zero, cond, length, map, take, get_or, append_assoc, length-take, leb-true, refl, sym, ap, ◌∙◌, arith}
use Rattle.std.specs.Prelude.{Option, None, Some, nat_le, option_map, ⊤}
use Rattle.std.specs.List.{list_all}
use Rattle.std.proofs.lemmas.List.{append-nil, get_or-map, get_or-take, length-map}
use Rattle.std.proofs.lemmas.List.Folds.{list_all_at}
use Rattle.rt_base.specs.declared.TheConstants.{MOST_CLUSTERS, MOST_CPUS, MOST_RESVS, MOST_SEMS, MOST_TASKS}
use Rattle.rt_task.specs.Draft.{draft_of, draft_resv}
use Rattle.rt_task.specs.RangeRules.{resv_range}
use Rattle.rt_task.specs.Refusals.{bad, first, first_failing, whole}
use Rattle.rt_task.specs.SharingRules.{resv_sharing}
use Rattle.rt_task.specs.Lookups.{cpus}
use Rattle.rt_task.specs.SizeRules.{horizon_fits, whole_size}
use Rattle.rt_task.specs.SlotRules.{fit_together}
use Rattle.rt_task.specs.Validity.{IsValid, name_rows, range_rows, refusal, refusal_of, whole_refusal, sharing_rows, size_rows, shape_rows}
use Rattle.rt_task.specs.declared.Parts.{Parts}
use Rattle.rt_task.specs.declared.Resv.{Resv}
use Rattle.rt_task.specs.declared.bad_set.BadSet.{BadSet}
use Rattle.rt_task.specs.declared.bad_set.Part.{Part}
use Rattle.rt_task.specs.declared.bad_set.Part.TheVariants as parts
use Rattle.rt_task.specs.declared.bad_set.SetKind.{SetKind}
use Rattle.rt_task.specs.declared.bad_set.SetKind.TheVariants as kinds
use Rattle.rt_task.specs.declared.draft.Draft.{Draft}
use Rattle.rt_task.specs.declared.draft.DraftResv.{DraftResv}
use Rattle.rt_rules.proofs.BoolLaws.{both}

-- ---- the table of the rules

abbrev pub AllNone : List (Option BadSet) → Type 0
AllNone [] = ⊤
AllNone (o ∷ os) = (o ≡ None) × AllNone os

pub all-none : (os : List (Option BadSet)) → first os ≡ None → AllNone os
all-none [] h = tt
all-none (None ∷ os) h = (refl, all-none os h)
all-none (Some x ∷ os) h = cc

pub each-none : (kind : SetKind) (part : Part) (o : Option ℕ) → option_map (bad kind part) o ≡ None → o ≡ None
each-none kind part None h = refl
each-none kind part (Some n) h = cc

-- the rows of a valid set
pub rows-none : (p : Parts) → IsValid p → AllNone (first (range_rows (draft_of p)) ∷ first (name_rows (draft_of p)) ∷ first (sharing_rows (draft_of p)) ∷ first (size_rows (draft_of p)) ∷ [])
unfolding refusal_of whole_refusal refusal
rows-none p valid = all-none (first (range_rows (draft_of p)) ∷ first (name_rows (draft_of p)) ∷ first (sharing_rows (draft_of p)) ∷ first (size_rows (draft_of p)) ∷ []) (all-none (first (shape_rows (draft_of p)) ∷ refusal (draft_of p) ∷ []) valid).1.0

whole-none : (kind : SetKind) (b : Bool) → whole kind b ≡ None → b ≡ true
whole-none kind true h = refl
whole-none kind false h = cc

fifth : (a b c d e f : Bool) → a && (b && (c && (d && (e && f)))) ≡ true → e ≡ true
fifth true true true true true f h = refl
fifth true true true true false f h = h
fifth true true true false e f h = cc
fifth true true false d e f h = cc
fifth true false c d e f h = cc
fifth false b c d e f h = cc

-- there are at most so many reservations
few-drafts : (p : Parts) → IsValid p → nat_le (length (draft_of p).resvs) MOST_RESVS ≡ true
unfolding whole_size
few-drafts p valid =
    let d : Draft = draft_of p in
    let fits : whole_size (draft_of p) ≡ true = whole-none kinds.Size (whole_size (draft_of p)) (all-none (size_rows (draft_of p)) (rows-none p valid).1.1.1.0).0 in
    fifth (nat_le (length d.clusters) MOST_CLUSTERS) (nat_le (cpus d) MOST_CPUS) (nat_le (length d.tasks) MOST_TASKS) (nat_le (length d.sems) MOST_SEMS) (nat_le (length d.resvs) MOST_RESVS) (horizon_fits d d.drive) fits

pub few-resvs : (p : Parts) → IsValid p → length p.resvs ≤ MOST_RESVS
few-resvs p valid =
    let few : length (draft_of p).resvs ≤ MOST_RESVS = leb-true (length (draft_of p).resvs) MOST_RESVS (few-drafts p valid) in
    let same : length (draft_of p).resvs ≡ length p.resvs = length-map p.resvs draft_resv in
    omega (arith, few, same)

-- ---- two elements of a list that no rule refuses

pairs : {A : Type 0} (rule : List A → A → Bool) (earlier xs : List A) (j : ℕ) (d : A) → first_failing rule earlier xs ≡ None → j < length xs → rule (earlier ++ take j xs) (get_or xs j d) ≡ true
pairs rule earlier [] j d h low = absurd (omega arith)
pairs rule earlier (x ∷ xs) zero d h low = by_case (rule earlier x) refl h
  where
    by_case : (b : Bool) → rule earlier x ≡ b → cond b (first_failing rule (earlier ++ x ∷ []) xs) (Some (length earlier)) ≡ None → rule (earlier ++ []) x ≡ true
    by_case true e k = ap (λ es. rule es x) (append-nil earlier) ∙ e
    by_case false e k = cc
pairs rule earlier (x ∷ xs) (suc j) d h low = by_case (rule earlier x) h (λ k. pairs rule (earlier ++ x ∷ []) xs j d k (omega arith))
  where
    by_case : (b : Bool) → cond b (first_failing rule (earlier ++ x ∷ []) xs) (Some (length earlier)) ≡ None → (first_failing rule (earlier ++ x ∷ []) xs ≡ None → rule ((earlier ++ x ∷ []) ++ take j xs) (get_or xs j d) ≡ true) → rule (earlier ++ x ∷ take j xs) (get_or xs j d) ≡ true
    by_case true k rest = ap (λ es. rule es (get_or xs j d)) (sym (append_assoc earlier (x ∷ []) (take j xs))) ∙ rest k
    by_case false k rest = cc

pub all-at : {A : Type 0} (p : A → Bool) (xs : List A) (i : ℕ) (d : A) → list_all p xs ≡ true → i < length xs → p (get_or xs i d) ≡ true
all-at p xs i d h low = by_case (p (get_or xs i d)) refl
  where
    by_case : (b : Bool) → p (get_or xs i d) ≡ b → b ≡ true
    by_case true e = refl
    by_case false e = sym (list_all_at p xs i d low e) ∙ h

-- ---- the reservations of a valid set

module _ (p : Parts) (valid : IsValid p) (e : Resv) where
  at-position : (i : ℕ) → i < length p.resvs → get_or (map draft_resv p.resvs) i (draft_resv e) ≡ draft_resv (get_or p.resvs i e)
  at-position i low = get_or-map draft_resv p.resvs i e (draft_resv e) low

  -- each is in range
  pub ranged : (i : ℕ) → i < length p.resvs → resv_range (draft_of p) (take i (map draft_resv p.resvs)) (draft_resv (get_or p.resvs i e)) ≡ true
  ranged i low =
      ap (resv_range (draft_of p) (take i (map draft_resv p.resvs))) (sym (at-position i low))
      ∙ pairs (resv_range (draft_of p)) [] (map draft_resv p.resvs) i (draft_resv e) (each-none kinds.Range parts.Resv (first_failing (resv_range (draft_of p)) [] (map draft_resv p.resvs)) (all-none (range_rows (draft_of p)) (rows-none p valid).0).1.1.0) (omega (arith, low, length-map p.resvs draft_resv))

  shared : (j : ℕ) → j < length p.resvs → list_all (λ q. fit_together q (get_or (map draft_resv p.resvs) j (draft_resv e))) (take j (map draft_resv p.resvs)) ≡ true
  unfolding resv_sharing
  shared j low =
      (both _ _ (pairs (resv_sharing (draft_of p)) [] (map draft_resv p.resvs) j (draft_resv e) (each-none kinds.Sharing parts.Resv (first_failing (resv_sharing (draft_of p)) [] (map draft_resv p.resvs)) (all-none (sharing_rows (draft_of p)) (rows-none p valid).1.1.0).1.0) (omega (arith, low, length-map p.resvs draft_resv)))).1

  -- any two may stand beside each other
  pub fit : (i j : ℕ) → i < j → j < length p.resvs → fit_together (draft_resv (get_or p.resvs i e)) (draft_resv (get_or p.resvs j e)) ≡ true
  fit i j before low =
      let wide : length (map draft_resv p.resvs) ≡ length p.resvs = length-map p.resvs draft_resv in
      let inside : i < length (take j (map draft_resv p.resvs)) = omega (arith, before, low, wide, length-take j (map draft_resv p.resvs)) in
      let x : DraftResv = get_or (map draft_resv p.resvs) j (draft_resv e) in
      let one = all-at (λ q. fit_together q x) (take j (map draft_resv p.resvs)) i (draft_resv e) (shared j low) inside in
      ap (λ (a : DraftResv). fit_together a (draft_resv (get_or p.resvs j e))) (sym (at-position i (omega (arith, before, low))) ∙ sym (get_or-take j (map draft_resv p.resvs) i (draft_resv e) before))
      ∙ ap (fit_together (get_or (take j (map draft_resv p.resvs)) i (draft_resv e))) (sym (at-position j low))
      ∙ one
