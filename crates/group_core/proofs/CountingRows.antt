-- Tasks of a cluster are counted through the rows of the set.
use Rattle.std.proofs.Common.{◌≡◌, ℕ, suc, ◌+◌, ◌<◌, Bool, true, false, ◌&&◌, cond, List, [], ◌∷◌, length, refl, sym, ap, ◌∙◌, arith, count_by, eqb-true}
use Rattle.std.specs.Prelude.{filter, slice_index_or, ◌==◌}
use Rattle.std.proofs.lemmas.List.Sums.{sum_by-cons}
use Rattle.rt_task.specs.declared.Task.{Task}
use Rattle.rt_rules.specs.Numbers.{numbers_from}
use Rattle.rt_model.specs.Group.{Group, home, in_group, no_task}

module _ (g : Group) (c : ℕ) (inside : in_group g c ≡ true) (f : ℕ → Bool) (row : Task → Bool) where
  -- the tasks of the cluster, among so many from a number on
  abbrev at_home : ℕ → Bool
  at_home t = home g t == c

  abbrev among_group : ℕ → Bool
  among_group t = in_group g (home g t)

  counted-one : (t rest : ℕ) (us : List ℕ) → rest ≡ count_by f (filter at_home us) → cond (at_home t && f t) 1 0 + rest ≡ count_by f (filter at_home (cond (among_group t) (t ∷ us) us))
  counted-one t rest us h = by_case (among_group t) (at_home t) (f t) refl refl refl
    where
      by_case : (a b d : Bool) → among_group t ≡ a → at_home t ≡ b → f t ≡ d → cond (b && d) 1 0 + rest ≡ count_by f (filter at_home (cond a (t ∷ us) us))
      by_case true true d e q r = rw q (ap (λ n. cond d 1 0 + n) h ∙ ap (λ x. cond x 1 0 + count_by f (filter at_home us)) (sym r) ∙ sym (sum_by-cons (λ u. cond (f u) 1 0) t (filter at_home us)))
      by_case true false d e q r = let z : 0 + rest ≡ rest = omega arith in rw q (z ∙ h)
      by_case false true d e q r = let same : home g t ≡ c = eqb-true _ _ q in let clash : in_group g c ≡ false = ap (in_group g) (sym same) ∙ e in cc
      by_case false false d e q r = let z : 0 + rest ≡ rest = omega arith in z ∙ h

  pub counted-rows : (rows : List Task) (a : ℕ) → ((i : ℕ) → i < length rows → row (slice_index_or rows i no_task) ≡ (home g (a + i) == c) && f (a + i))
      → count_by row rows ≡ count_by f (filter (λ t. home g t == c) (filter (λ t. in_group g (home g t)) (numbers_from a (length rows))))
  counted-rows [] a h = refl
  counted-rows (x ∷ xs) a h =
      let here : row x ≡ (home g a == c) && f a = let e : a + 0 ≡ a = omega arith in h 0 (omega arith) ∙ ap (λ t. (home g t == c) && f t) e in
      let rest : count_by row xs ≡ count_by f (filter at_home (filter among_group (numbers_from (suc a) (length xs)))) = counted-rows xs (suc a) (λ i l. let e : a + suc i ≡ suc a + i = omega arith in h (suc i) (omega (arith, l)) ∙ ap (λ t. (home g t == c) && f t) e) in
      sum_by-cons (λ y. cond (row y) 1 0) x xs ∙ ap (λ b. cond b 1 0 + count_by row xs) here ∙ counted-one a (count_by row xs) (filter among_group (numbers_from (suc a) (length xs))) rest
