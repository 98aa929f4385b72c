-- Writing one value each at several positions of a list.
use Rattle.std.proofs.Common.{◌≡◌, ◌∙◌, ◌<◌, ◌||◌, ℕ, Bool, true, false, List, [], ◌∷◌, length, length-set, refl, sym, ap, subst, eqb-true}
use Rattle.std.specs.Prelude.{◌==◌, Option, None, Some, slice_index_or, slice_set}
use Rattle.rt_rules.specs.declared.Key.{Key}
use Rattle.rt_rules.specs.Numbers.{has}
use Rattle.rt_rules.proofs.BoolLaws.{neither}
use Rattle.rt_rules.proofs.MemberLaws.{turned}
use Rattle.sem_table.proofs.Lists.{at-other, at-same, still-below}
use Rattle.group_sems.specs.Keeping.{rebased}
use Rattle.group_sems.specs.Telling.{told}

-- the value of each of these positions is put there
abbrev pub put : {X : Type 0} → (ℕ → X) → List ℕ → List (Option X) → List (Option X)
put f [] xs = xs
put f (u ∷ us) xs = put f us (slice_set xs u (Some (f u)))

pub put-length : {X : Type 0} (f : ℕ → X) (us : List ℕ) (xs : List (Option X)) → length (put f us xs) ≡ length xs
put-length f [] xs = refl
put-length f (u ∷ us) xs = put-length f us (slice_set xs u (Some (f u))) ∙ length-set xs u (Some (f u))

-- each other position stays
pub put-other : {X : Type 0} (f : ℕ → X) (us : List ℕ) (xs : List (Option X)) (t : ℕ) → has t us ≡ false → slice_index_or (put f us xs) t None ≡ slice_index_or xs t None
put-other f [] xs t h = refl
put-other f (u ∷ us) xs t h =
    let q = neither (t == u) (has t us) h in
    put-other f us (slice_set xs u (Some (f u))) t q.1 ∙ at-other xs u t (Some (f u)) None (turned u t ∙ q.0)

-- each of these positions has its value
pub put-at : {X : Type 0} (f : ℕ → X) (us : List ℕ) (xs : List (Option X)) (t : ℕ) → t < length xs → has t us ≡ true → slice_index_or (put f us xs) t None ≡ Some (f t)
put-at f [] xs t low h = cc
put-at {X = X} f (u ∷ us) xs t low h = by_case (has t us) refl (put-at f us (slice_set xs u (Some (f u))) t (still-below xs u t (Some (f u)) low))
  where
    here : (b : Bool) → b || false ≡ true → b ≡ true
    here true k = refl
    here false k = cc

    by_case : (b : Bool) → has t us ≡ b → (has t us ≡ true → slice_index_or (put f us (slice_set xs u (Some (f u)))) t None ≡ Some (f t)) → slice_index_or (put f us (slice_set xs u (Some (f u)))) t None ≡ Some (f t)
    by_case true e again = again e
    by_case false e again =
        let m : t == u ≡ true = here (t == u) (subst (λ b. t == u || b ≡ true) e h) in
        let same : t ≡ u = eqb-true t u m in
        put-other f us (slice_set xs u (Some (f u))) t e ∙ at-same xs u t (Some (f u)) None (turned u t ∙ m) (subst (λ n. n < length xs) same low) ∙ ap (λ (n : ℕ). Some (f n)) (sym same)

-- told keys and told owners are put
pub rebased-put : (key : ℕ → Key) (us : List ℕ) (bases : List (Option Key)) → rebased key us bases ≡ put key us bases
rebased-put key [] bases = refl
rebased-put key (u ∷ us) bases = rebased-put key us (slice_set bases u (Some (key u)))

pub told-put : (o : ℕ) (us : List ℕ) (nexts : List (Option ℕ)) → told o us nexts ≡ put (λ u. o) us nexts
told-put o [] nexts = refl
told-put o (u ∷ us) nexts = told-put o us (slice_set nexts u (Some o))
