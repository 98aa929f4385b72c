-- The set of a load breaks no rule.
use Rattle.std.proofs.Common.{◌≡◌, ◌∙◌, ◌≤◌, ◌<◌, ◌+◌, ◌-◌, ◌/◌, ◌%◌, ◌==◌, ℕ, zero, suc, List, [], ◌∷◌, ◌++◌, Bool, true, false, not, ◌||◌, Option, None, Some, Ok, Err, cond, length, map, filter, refl, ap, subst, sym, arith}
use Rattle.std.specs.Prelude.{bytes_eq, option_map}
use Rattle.std.specs.List.{list_all, list_any}
use Rattle.std.proofs.Math.Nat.{mod-lt}
use Rattle.std.proofs.lemmas.Bool.{and_from, and_parts, eqb-true, eq-eqb}
use Rattle.rt_rules.specs.Numbers.{numbers_from}
use Rattle.rt_base.specs.declared.SemNo.{SemNo}
use Rattle.rt_task.specs.declared.Sem.{Sem}
use Rattle.rt_task.specs.declared.bad_set.BadSet.{BadSet}
use Rattle.rt_task.specs.declared.bad_set.SetKind.{SetKind}
use Rattle.rt_task.specs.declared.bad_set.SetKind.TheVariants as kinds
use Rattle.rt_task.specs.declared.bad_set.Part.{Part}
use Rattle.rt_task.specs.declared.bad_set.Part.TheVariants as parts
use Rattle.rt_task.specs.declared.draft.Draft.{Draft}
use Rattle.rt_task.specs.declared.draft.DraftTask.{DraftTask}
use Rattle.rt_task.specs.Lookups.{cpus}
use Rattle.rt_task.specs.NameRules.{sem_name, task_name}
use Rattle.rt_task.specs.RangeRules.{whole_range, cluster_range, task_range}
use Rattle.rt_task.specs.Refusals.{bad, first, whole, each, first_failing}
use Rattle.rt_task.specs.RuleWords.{is_name, all_same, has, sem_numbers}
use Rattle.rt_task.specs.SharingRules.{clusters_sharing, sem_sharing, task_sharing}
use Rattle.rt_task.specs.SizeRules.{whole_size, task_size}
use Rattle.rt_task.specs.Answers.{kept}
use Rattle.rt_task.specs.declared.Parts.{Parts}
use Rattle.rt_task.specs.Validity.{task_shape, shape_rows, range_rows, name_rows, sharing_rows, size_rows, refusal, whole_refusal, refusal_of, IsValid}
use Rattle.set_rules.proofs.AcceptLaws.{valid_parts_of}
use Rattle.load_set.specs.declared.draws.Drawn.{Drawn}
use Rattle.load_set.specs.Draws.{draw_from, after_four}
use Rattle.load_set.specs.Load.{name_of, cluster_of, has_lock, sem_of, uses_of, sem_named, load_of}
use Rattle.load_set.proofs.LoadDraft.{drafted, drafts_from, draft_with, parts_of-draft}
use Rattle.load_set.proofs.TaskRules.{AreNamedBefore, named-next, is_name-name, IsBefore, tasks-pass, shape-passes, range-passes, name-passes, sharing-passes, size-passes}

-- ---- each semaphore is of one cluster

clusters_with : ℕ → List DraftTask → List ℕ
clusters_with s ts = map (λ (p : DraftTask). p.cluster) (filter (λ (p : DraftTask). has s (sem_numbers p)) ts)

home : (i : ℕ) (d : Drawn) → cluster_of i ≡ (sem_of i d - 1) / 3
home i d = let r : d.sem % 3 < 3 = mod-lt d.sem (omega arith) in omega (arith, r)

locker : (b : Bool) (i s : ℕ) (d : Drawn) → has s (map (λ (n : SemNo). n.0) (uses_of b (sem_of i d))) ≡ true → (cluster_of i == (s - 1) / 3) ≡ true
locker true i s d h = by_test (sem_of i d == s) refl h
  where
    by_test : (t : Bool) → (sem_of i d == s) ≡ t → (t || false) ≡ true → (cluster_of i == (s - 1) / 3) ≡ true
    by_test true e h = eq-eqb (cluster_of i) ((s - 1) / 3) (home i d ∙ ap (λ m. (m - 1) / 3) (eqb-true (sem_of i d) s e))
    by_test false e h = absurd cc
locker false i s d h = absurd cc

one-cluster : (s n i x : ℕ) → list_all (λ c. c == (s - 1) / 3) (clusters_with s (drafts_from n i x)) ≡ true
unfolding clusters_with drafts_from drafted
one-cluster s zero i x = refl
one-cluster s (suc n) i x = by_test (has s (sem_numbers (drafted i d))) refl (one-cluster s n (suc i) (after_four x))
  where
    d : Drawn
    d = draw_from x

    by_test : (t : Bool) → has s (sem_numbers (drafted i d)) ≡ t → list_all (λ c. c == (s - 1) / 3) (clusters_with s (drafts_from n (suc i) (after_four x))) ≡ true
        → list_all (λ c. c == (s - 1) / 3) (clusters_with s (drafted i d ∷ drafts_from n (suc i) (after_four x))) ≡ true
    by_test true e rest = rw e (and_from (cluster_of i == (s - 1) / 3) (list_all (λ c. c == (s - 1) / 3) (clusters_with s (drafts_from n (suc i) (after_four x)))) (locker (has_lock d) i s d e) rest)
    by_test false e rest = rw e rest

all_same-from : (c : ℕ) (xs : List ℕ) → list_all (λ x. x == c) xs ≡ true → all_same xs ≡ true
all_same-from c [] h = refl
all_same-from c (x ∷ xs) h =
    let p = and_parts (x == c) (list_all (λ y. y == c) xs) h in
    subst (λ z. list_all (λ y. y == z) xs ≡ true) (sym (eqb-true x c p.0)) p.1

sems-share : (x : ℕ) (ns : List ℕ) (earlier : List Sem) → first_failing (sem_sharing (draft_with (drafts_from 40 1 x))) earlier (map sem_named ns) ≡ None
unfolding sem_sharing clusters_sharing clusters_with
sems-share x [] earlier = refl
sems-share x (n ∷ ns) earlier =
    let s = length earlier + 1 in
    ap (λ b. cond b (first_failing (sem_sharing (draft_with (drafts_from 40 1 x))) (earlier ++ sem_named n ∷ []) (map sem_named ns)) (Some (length earlier))) (and_from (all_same (clusters_with s (drafts_from 40 1 x))) true (all_same-from ((s - 1) / 3) (clusters_with s (drafts_from 40 1 x)) (one-cluster s 40 1 x)) refl)
    ∙ sems-share x ns (earlier ++ sem_named n ∷ [])

-- ---- their names

sems-named : (x n k : ℕ) (earlier : List Sem) → n + k ≤ 41 → AreNamedBefore (λ (s : Sem). s.name) 115 n earlier → first_failing (sem_name (draft_with (drafts_from 40 1 x))) earlier (map sem_named (numbers_from n k)) ≡ None
unfolding sem_name
sems-named x n zero earlier le before = refl
sems-named x n (suc k) earlier le before =
    ap (λ b. cond b (first_failing (sem_name (draft_with (drafts_from 40 1 x))) (earlier ++ sem_named n ∷ []) (map sem_named (numbers_from (suc n) k))) (Some (length earlier)))
    (and_from (is_name (name_of 115 n)) (not (list_any (λ (s : Sem). bytes_eq s.name (name_of 115 n)) earlier)) (is_name-name 115 n refl (omega arith)) (ap not (before n (omega arith) (omega arith))))
    ∙ sems-named x (suc n) k (earlier ++ sem_named n ∷ []) (omega arith) (named-next (λ (s : Sem). s.name) 115 n earlier (sem_named n) refl before)

-- ---- the rows

length-drafts : (n i x : ℕ) → length (drafts_from n i x) ≡ n
unfolding drafts_from
length-drafts zero i x = refl
length-drafts (suc n) i x = ap suc (length-drafts n (suc i) (after_four x))

row : (kind : SetKind) (part : Part) (o : Option ℕ) → o ≡ None → option_map (bad kind part) o ≡ None
row kind part o e = ap (option_map (bad kind part)) e

next : (o : Option BadSet) (rest : List (Option BadSet)) → o ≡ None → first rest ≡ None → first (o ∷ rest) ≡ None
next o rest e later = ap (λ p. first (p ∷ rest)) e ∙ later

module _ (x : ℕ) where
  abbrev d : Draft
  d = draft_with (drafts_from 40 1 x)

  tasks-row : (kind : SetKind) (rule : List DraftTask → DraftTask → Bool) → ((earlier : List DraftTask) (i : ℕ) (t : Drawn) → IsBefore i earlier → i ≤ 40 → rule earlier (drafted i t) ≡ true) → each kind parts.Task rule (drafts_from 40 1 x) ≡ None
  tasks-row kind rule passes = row kind parts.Task (first_failing rule [] (drafts_from 40 1 x)) (tasks-pass rule passes 40 1 x [] (record { count = refl; names = λ j lo hi. refl }) (omega arith))

  shapes : first (shape_rows d) ≡ None
  shapes = next (each kinds.Shape parts.Task (task_shape d) (drafts_from 40 1 x)) [] (tasks-row kinds.Shape (task_shape d) (λ e i t b le. shape-passes (drafts_from 40 1 x) e i t)) refl

  ranges : first (range_rows d) ≡ None
  unfolding whole_range cluster_range
  ranges = next (each kinds.Range parts.Task (task_range d) (drafts_from 40 1 x)) (None ∷ []) (tasks-row kinds.Range (task_range d) (λ e i t b le. range-passes (drafts_from 40 1 x) e i t)) refl

  names : first (name_rows d) ≡ None
  names =
      next (each kinds.Name parts.Sem (sem_name d) (map sem_named (numbers_from 1 6))) (None ∷ each kinds.Name parts.Task (task_name d) (drafts_from 40 1 x) ∷ None ∷ [])
      (row kinds.Name parts.Sem (first_failing (sem_name d) [] (map sem_named (numbers_from 1 6))) (sems-named x 1 6 [] (omega arith) (λ j lo hi. refl)))
      (next (each kinds.Name parts.Task (task_name d) (drafts_from 40 1 x)) (None ∷ []) (tasks-row kinds.Name (task_name d) (λ e i t b le. name-passes (drafts_from 40 1 x) e i t b le)) refl)

  sharing : first (sharing_rows d) ≡ None
  sharing =
      next (each kinds.Sharing parts.Sem (sem_sharing d) (map sem_named (numbers_from 1 6))) (None ∷ each kinds.Sharing parts.Task (task_sharing d) (drafts_from 40 1 x) ∷ None ∷ [])
      (row kinds.Sharing parts.Sem (first_failing (sem_sharing d) [] (map sem_named (numbers_from 1 6))) (sems-share x (numbers_from 1 6) []))
      (next (each kinds.Sharing parts.Task (task_sharing d) (drafts_from 40 1 x)) (None ∷ []) (tasks-row kinds.Sharing (task_sharing d) (λ e i t b le. sharing-passes (drafts_from 40 1 x) e i t)) refl)

  whole-fits : whole_size d ≡ true
  unfolding whole_size cpus
  whole-fits = rw (length-drafts 40 1 x) refl

  sizes : first (size_rows d) ≡ None
  sizes =
      next (whole kinds.Size (whole_size d)) (each kinds.Size parts.Task (task_size d) (drafts_from 40 1 x) ∷ []) (ap (whole kinds.Size) whole-fits)
      (next (each kinds.Size parts.Task (task_size d) (drafts_from 40 1 x)) [] (tasks-row kinds.Size (task_size d) (λ e i t b le. size-passes (drafts_from 40 1 x) e i t)) refl)

  no-refusal : whole_refusal d ≡ None
  unfolding whole_refusal refusal
  no-refusal =
      let later = next (first (name_rows d)) (first (sharing_rows d) ∷ first (size_rows d) ∷ []) names (next (first (sharing_rows d)) (first (size_rows d) ∷ []) sharing (next (first (size_rows d)) [] sizes refl)) in
      next (first (shape_rows d)) (first (first (range_rows d) ∷ first (name_rows d) ∷ first (sharing_rows d) ∷ first (size_rows d) ∷ []) ∷ []) shapes
      (next (first (first (range_rows d) ∷ first (name_rows d) ∷ first (sharing_rows d) ∷ first (size_rows d) ∷ [])) [] (next (first (range_rows d)) (first (name_rows d) ∷ first (sharing_rows d) ∷ first (size_rows d) ∷ []) ranges later) refl)

  -- the set that is generated for a number breaks no rule
  pub load_of-valid : IsValid (load_of x)
  load_of-valid = subst IsValid (parts_of-draft x) (valid_parts_of d no-refusal)

pub load_of-kept : (n : ℕ) (p : Parts) (b : BadSet) → p ≡ load_of n → kept p (refusal_of p) ≡ Err b → ⊥
load_of-kept n p b is refused =
    let ok : refusal_of p ≡ None = ap refusal_of is ∙ load_of-valid n in
    let found : Ok p ≡ Err b = sym (ap (kept p) ok) ∙ refused in
    absurd cc
