-- Reading lists after one position changed, and pairs of lists.
use Rattle.std.proofs.Common.{◌≡◌, ◌<◌, ◌&&◌, ℕ, true, false, List, [], ◌∷◌, refl, eqb-true, arith, length, subst}
use Rattle.std.specs.Prelude.{◌==◌, slice_index_or, slice_set}
use Rattle.std.proofs.lemmas.List.{get_or-set_other, get_or-set_same, length-set}
use Rattle.rt_rules.specs.Pcp.{TaskSem}
use Rattle.rt_rules.proofs.MemberLaws.{equal_self}
use Rattle.rt_rules.proofs.BoolLaws.{clash, or_true}
use Rattle.pcp_sem.specs.Pairs.{has_pair}
use Rattle.sem_table.proofs.Agree.{Each}

pub at-other : {X : Type 0} (xs : List X) (i j : ℕ) (x d : X) → i == j ≡ false → slice_index_or (slice_set xs i x) j d ≡ slice_index_or xs j d
at-other xs i j x d h = get_or-set_other xs i j x d (λ (e : j ≡ i). clash _ (rw e (equal_self i)) h)

pub at-same : {X : Type 0} (xs : List X) (i j : ℕ) (x d : X) → i == j ≡ true → i < length xs → slice_index_or (slice_set xs i x) j d ≡ x
at-same {X = X} xs i j x d h k = subst (λ (m : ℕ). slice_index_or (slice_set xs i x) m d ≡ x) (eqb-true i j h) (get_or-set_same xs i x d k)

pub still-below : {X : Type 0} (xs : List X) (i n : ℕ) (x : X) → n < length xs → n < length (slice_set xs i x)
still-below xs i n x h = omega (arith, length-set xs i x)

-- what holds of all pairs that are there holds of each
pub each-there : (P : ℕ → ℕ → Type 0) (ps : List TaskSem) → ((t s : ℕ) → has_pair t s ps ≡ true → P t s) → Each P ps
each-there P [] h = tt
each-there P (p ∷ ps) h = (h p.task p.sem (rw (equal_self p.task, equal_self p.sem) refl), each-there P ps (λ t s k. h t s (rw k (or_true (t == p.task && s == p.sem)))))
