-- Laws of what the tasks that declare a semaphore have in common.
use Rattle.std.proofs.Common.{◌≡◌, ℕ, ◌+◌, ◌==◌, ◌<◌, List, [], ◌∷◌, ◌++◌, Bool, true, false, ◌&&◌, ◌||◌, cond, length, take, get_or, map, Option, Some, None, refl, ap, ap₂, sym, subst, ◌∙◌, arith, append-nil}
use Rattle.std.proofs.Math.Seq.{take-append_seam}
use Rattle.std.proofs.lemmas.List.{take_more, map-append}
use Rattle.std.proofs.lemmas.List.Folds.{list_all-append, list_any-append}
use Rattle.std.proofs.lemmas.Bool.Decides.{nat_tests}
use Rattle.rt_task.specs.declared.draft.Draft.{Draft}
use Rattle.rt_task.specs.declared.draft.DraftTask.{DraftTask}
use Rattle.set_rules.specs.declared.rules.spread.Spread.{Spread}
use Rattle.rt_task.specs.Lookups.{group_of}
use Rattle.rt_task.specs.RuleWords.{has, all_same, sem_numbers}
use Rattle.rt_task.specs.SharingRules.{clusters_sharing}
use Rattle.set_rules.specs.inside.Spreads.{spread_of, added, clusters_among}

and_true : (a : Bool) → (a && true) ≡ a
and_true true = refl
and_true false = refl

all_same-push : (x c : ℕ) (xs : List ℕ) → all_same (x ∷ (xs ++ c ∷ [])) ≡ (all_same (x ∷ xs) && c == x)
all_same-push x c xs = list_all-append (λ y. y == x) xs (c ∷ []) ∙ ap (λ b. all_same (x ∷ xs) && b) (and_true (c == x))

pub added-spread_of : (d : Draft) (cs : List ℕ) (c : ℕ) → added d (spread_of d cs) c ≡ spread_of d (cs ++ c ∷ [])
added-spread_of d [] c = refl
added-spread_of d (x ∷ xs) c =
    let g = group_of d in
    let groups : all_same (map g (x ∷ (xs ++ c ∷ []))) ≡ (all_same (map g (x ∷ xs)) && g c == g x) = ap (λ gs. all_same (g x ∷ gs)) (map-append g xs (c ∷ [])) ∙ all_same-push (g x) (g c) (map g xs) in
    ap₂ (λ (a : Bool) (b : Bool). let s : Spread = record { first = Some x; one_cluster = a; one_group = b } in s) (sym (all_same-push x c xs)) (sym groups)

same : (c : ℕ) → (c == c) ≡ true
same c = grind (arith, nat_tests)

twice : (a b : Bool) → ((a && b) && b) ≡ (a && b)
twice true true = refl
twice true false = refl
twice false b = refl

pub added-again : (d : Draft) (s : Spread) (c : ℕ) → added d (added d s c) c ≡ added d s c
added-again d s c = by_first s.first
  where
    by_first : (first : Option ℕ) → added d (added d (record s { first = first }) c) c ≡ added d (record s { first = first }) c
    by_first None = ap₂ (λ (a : Bool) (b : Bool). let s : Spread = record { first = Some c; one_cluster = a; one_group = b } in s) (same c) (same (group_of d c))
    by_first (Some x) = ap₂ (λ (a : Bool) (b : Bool). let s : Spread = record { first = Some x; one_cluster = a; one_group = b } in s) (twice s.one_cluster (c == x)) (twice s.one_group (group_of d c == group_of d x))

last_first : (a b : Bool) → (a || (b || false)) ≡ (b || a)
last_first true true = refl
last_first true false = refl
last_first false true = refl
last_first false false = refl

-- one more of a task's uses, of a semaphore that it may have named before
pub spread-next : (d : Draft) (c i n : ℕ) (done : List ℕ) (old now new : Spread)
    → now ≡ cond (has (i + 1) done) (added d old c) old → new ≡ cond (n == i + 1) (added d now c) now
    → new ≡ cond (has (i + 1) (done ++ n ∷ [])) (added d old c) old
spread-next d c i n done old now new before step =
    step ∙ by_tests (n == i + 1) (has (i + 1) done) before
    ∙ ap (λ b. cond b (added d old c) old) (sym (list_any-append (λ m. m == i + 1) done (n ∷ []) ∙ last_first (has (i + 1) done) (n == i + 1)))
  where
    by_tests : (t h : Bool) → now ≡ cond h (added d old c) old → cond t (added d now c) now ≡ cond (t || h) (added d old c) old
    by_tests true true e = ap (λ s. added d s c) e ∙ added-again d old c
    by_tests true false e = ap (λ s. added d s c) e
    by_tests false h e = e

filter_more : (s : ℕ) (ts us : List DraftTask) → clusters_among (ts ++ us) s ≡ clusters_among ts s ++ clusters_among us s
filter_more s [] us = refl
filter_more s (t ∷ ts) us = by_test (has s (sem_numbers t)) refl (filter_more s ts us)
  where
    by_test : (b : Bool) → has s (sem_numbers t) ≡ b → clusters_among (ts ++ us) s ≡ clusters_among ts s ++ clusters_among us s → clusters_among (t ∷ (ts ++ us)) s ≡ clusters_among (t ∷ ts) s ++ clusters_among us s
    by_test true e rest = rw e (ap (λ cs. t.cluster ∷ cs) rest)
    by_test false e rest = rw e rest

-- one more task
pub spread-task : (d : Draft) (s i : ℕ) (ts : List DraftTask) (x : DraftTask) (old new : Spread) → i < length ts → x ≡ get_or ts i x
    → old ≡ spread_of d (clusters_among (take i ts) s) → new ≡ cond (has s (sem_numbers x)) (added d old x.cluster) old
    → new ≡ spread_of d (clusters_among (take (i + 1) ts) s)
spread-task d s i ts x old new lt at before step =
    step ∙ by_test (has s (sem_numbers x)) refl
    ∙ ap (spread_of d) (sym (filter_more s (take i ts) (x ∷ [])))
    ∙ ap (λ y. spread_of d (clusters_among (take i ts ++ y ∷ []) s)) at
    ∙ ap (λ us. spread_of d (clusters_among us s)) (sym (take_more ts i x lt))
  where
    by_test : (b : Bool) → has s (sem_numbers x) ≡ b → cond b (added d old x.cluster) old ≡ spread_of d (clusters_among (take i ts) s ++ clusters_among (x ∷ []) s)
    by_test true e = rw e (ap (λ o. added d o x.cluster) before ∙ added-spread_of d (clusters_among (take i ts) s) x.cluster)
    by_test false e = rw e (before ∙ ap (spread_of d) (sym (append-nil (clusters_among (take i ts) s))))

pub clusters_sharing-all : (d : Draft) (s : ℕ) → clusters_among d.tasks s ≡ clusters_sharing d s
unfolding clusters_sharing
clusters_sharing-all d s = refl

-- what was written through a slice of all
pub get_or-written : {A : Type 0} (n : ℕ) (xs ys : List A) (i : ℕ) (e : A) → length xs ≡ n → get_or (take n (xs ++ ys)) i e ≡ get_or xs i e
get_or-written n xs ys i e count = ap (λ zs. get_or zs i e) (subst (λ m. take m (xs ++ ys) ≡ xs) count (take-append_seam xs ys))
