-- What the type keeps, over each act.
use Rattle.std.proofs.Common.{◌≡◌, ℕ, ◌<◌, ◌≤◌, Bool, true, false, not, ◌||◌, cond, ◌⊎◌, inl, inr, eqb-true, List, [], ◌∷◌, length, refl, ap, ◌∙◌, arith}
use Rattle.std.specs.Prelude.{◌==◌}
use Rattle.rt_rules.specs.Distinct.{IsDistinct}
use Rattle.rt_rules.specs.Numbers.{has}
use Rattle.rt_rules.specs.Pcp.{TaskSem, is_same_pair, without_pair}
use Rattle.rt_rules.proofs.BoolLaws.{clash, either, or_true, unless}
use Rattle.rt_rules.proofs.DistinctLaws.{length-few}
use Rattle.srp_sem.specs.declared.pairs.Pair.{Pair}
use Rattle.srp_sem.specs.IsSrp.{IsSrp}
use Rattle.srp_sem.specs.Listed.{pairs}
use Rattle.srp_sem.specs.Pairs.{sems_of}

pub length-pairs : (ps : List Pair) → length (pairs ps) ≡ length ps
length-pairs [] = refl
length-pairs (p ∷ ps) = omega (arith, length-pairs ps)

length-sems : (ps : List TaskSem) → length (sems_of ps) ≡ length ps
length-sems [] = refl
length-sems (p ∷ ps) = omega (arith, length-sems ps)

has-without : (s : ℕ) (p : TaskSem) (ps : List TaskSem) → has s (sems_of (without_pair p ps)) ≡ true → has s (sems_of ps) ≡ true
has-without s p [] h = h
has-without s p (q ∷ qs) h = by_case (is_same_pair p q) h (has-without s p qs)
  where
    by_case : (b : Bool) → has s (sems_of (cond (not b) (q ∷ without_pair p qs) (without_pair p qs))) ≡ true → (has s (sems_of (without_pair p qs)) ≡ true → has s (sems_of qs) ≡ true) → s == q.sem || has s (sems_of qs) ≡ true
    by_case true k r = rw (r k) (or_true (s == q.sem))
    by_case false k r = join (either (s == q.sem) _ k)
      where
        join : (s == q.sem ≡ true) ⊎ (has s (sems_of (without_pair p qs)) ≡ true) → s == q.sem || has s (sems_of qs) ≡ true
        join (inl m) = rw m
        join (inr m) = rw (r m) (or_true (s == q.sem))

distinct-without : (p : TaskSem) (ps : List TaskSem) → IsDistinct (sems_of ps) → IsDistinct (sems_of (without_pair p ps))
distinct-without p [] d = tt
distinct-without p (q ∷ qs) d = by_case (is_same_pair p q) (distinct-without p qs d.1)
  where
    by_case : (b : Bool) → IsDistinct (sems_of (without_pair p qs)) → IsDistinct (sems_of (cond (not b) (q ∷ without_pair p qs) (without_pair p qs)))
    by_case true r = r
    by_case false r = (unless _ (λ h. clash _ (has-without q.sem p qs h) d.0), r)

pub new-kept : (ceilings : List ℕ) (capacity : ℕ) → length ceilings ≤ capacity → IsSrp ceilings [] capacity
new-kept ceilings capacity h = record { known = λ s m. cc; one_holder = tt; room = h }

-- one more lock
pub asked-kept : (ceilings : List ℕ) (held : List TaskSem) (capacity capacity' t s : ℕ) → IsSrp ceilings held capacity → s < length ceilings → has s (sems_of held) ≡ false → capacity ≤ capacity' → IsSrp ceilings (record { task = t; sem = s } ∷ held) capacity'
asked-kept ceilings held capacity capacity' t s k below free more = record {
  known = λ r h. split r (either (r == s) _ h);
  one_holder = (free, k.one_holder);
  room = omega (arith, k.room, more);
}
  where
    split : (r : ℕ) → (r == s ≡ true) ⊎ (has r (sems_of held) ≡ true) → r < length ceilings
    split r (inl m) = rw (eqb-true r s m) below
    split r (inr m) = k.known r m

-- there is room for it
pub has-position : (ceilings : List ℕ) (held : List TaskSem) (capacity s : ℕ) → IsSrp ceilings held capacity → s < length ceilings → has s (sems_of held) ≡ false → length held < capacity
has-position ceilings held capacity s k below free =
    let more : IsSrp ceilings (record { task = 0; sem = s } ∷ held) capacity = asked-kept ceilings held capacity capacity 0 s k below free (omega arith) in
    let few : length (s ∷ sems_of held) ≤ length ceilings = length-few (length ceilings) (s ∷ sems_of held) more.one_holder more.known in
    omega (arith, few, length-sems held, k.room)

-- one lock less
pub freed-kept : (ceilings : List ℕ) (held : List TaskSem) (capacity capacity' : ℕ) (p : TaskSem) → IsSrp ceilings held capacity → capacity' ≡ capacity → IsSrp ceilings (without_pair p held) capacity'
freed-kept ceilings held capacity capacity' p k same = record {
  known = λ s h. k.known s (has-without s p held h);
  one_holder = distinct-without p held k.one_holder;
  room = omega (arith, k.room, same);
}
