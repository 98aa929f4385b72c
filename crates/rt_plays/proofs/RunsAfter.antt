-- What the processors of a cluster run after an act of one of the group's processors.
use Rattle.std.proofs.Common.{◌≡◌, ℕ, zero, suc, ◌+◌, ◌-◌, ◌<◌, ◌≤◌, Bool, true, false, ◌∷◌, map, set, eqb-true, refl, ap, ◌∙◌, arith}
use Rattle.std.specs.Prelude.{◌==◌, Option}
use Rattle.std.proofs.lemmas.Bool.Decides.{nat_tests}
use Rattle.rt_task.specs.declared.Act.{Act}
use Rattle.rt_rules.specs.Numbers.{numbers_from}
use Rattle.rt_model.specs.Group.{Group, cpus, first_cpu, processors}
use Rattle.rt_model.specs.Links.{runs_of}
use Rattle.rt_model.specs.Outcomes.{past_act}
use Rattle.rt_model.specs.Past.{Acted, Past}
use Rattle.rt_model.specs.Runs.{runs}
use Rattle.rt_model.proofs.Steps.{past_act-cpu, runs-acted}

map-same : (f f' : ℕ → Option ℕ) (a n : ℕ) → ((r : ℕ) → f' r ≡ f r) → map f' (numbers_from a n) ≡ map f (numbers_from a n)
map-same f f' a zero same = refl
map-same f f' a (suc n) same = rw (same a) (ap (λ xs. f a ∷ xs) (map-same f f' (suc a) n same))

-- one of the numbers is mapped to something else
map-one : (f f' : ℕ → Option ℕ) (q a n : ℕ) → ((r : ℕ) → q == r ≡ false → f' r ≡ f r) → a ≤ q → q < a + n → map f' (numbers_from a n) ≡ set (map f (numbers_from a n)) (q - a) (f' q)
map-one f f' q a zero others low high = absurd (omega arith)
map-one f f' q a (suc n) others low high = by_case (q == a) refl (map-one f f' q (suc a) n others)
  where
    behind : (b c : ℕ) → q < b → map f' (numbers_from b c) ≡ map f (numbers_from b c)
    behind b zero h = refl
    behind b (suc c) h = let other : q == b ≡ false = grind (arith, nat_tests, h) in rw (others b other) (ap (λ xs. f b ∷ xs) (behind (suc b) c (omega arith)))

    by_case : (b : Bool) → q == a ≡ b → (suc a ≤ q → q < suc a + n → map f' (numbers_from (suc a) n) ≡ set (map f (numbers_from (suc a) n)) (q - suc a) (f' q))
        → f' a ∷ map f' (numbers_from (suc a) n) ≡ set (f a ∷ map f (numbers_from (suc a) n)) (q - a) (f' q)
    by_case true e rest =
        let s : q ≡ a = eqb-true q a e in
        let none : q - a ≡ 0 = omega arith in
        rw (none, s) (ap (λ xs. f' a ∷ xs) (behind (suc a) n (omega arith)))
    by_case false e rest =
        let one_more : q - a ≡ suc (q - suc a) = grind (arith, nat_tests, e, low) in
        rw (one_more, others a e) (ap (λ xs. f a ∷ xs) (rest (grind (arith, nat_tests, e, low)) (omega arith)))

module _ (g : Group) (c q : ℕ) (act : Act) (past : Past) where
  other : (r : ℕ) → q == r ≡ false → runs r (Acted (past_act g q act past) ∷ past) ≡ runs r past
  other r e = rw (runs-acted, past_act-cpu, e)

  -- where the processor that acts runs what it ran, all do
  pub runs_of-still : runs q (Acted (past_act g q act past) ∷ past) ≡ runs q past → runs_of g c (Acted (past_act g q act past) ∷ past) ≡ runs_of g c past
  unfolding runs_of processors
  runs_of-still h = map-same (λ r. runs r past) (λ r. runs r (Acted (past_act g q act past) ∷ past)) (first_cpu g c) (cpus g c) each
    where
      each : (r : ℕ) → runs r (Acted (past_act g q act past) ∷ past) ≡ runs r past
      each r = by_case (q == r) refl
        where
          by_case : (b : Bool) → q == r ≡ b → runs r (Acted (past_act g q act past) ∷ past) ≡ runs r past
          by_case true e = let same : q ≡ r = eqb-true q r e in rw (← same) h
          by_case false e = other r e

  -- what the processor that acts runs now stands in its place
  pub runs_of-changed : first_cpu g c ≤ q → q < first_cpu g c + cpus g c
      → runs_of g c (Acted (past_act g q act past) ∷ past) ≡ set (runs_of g c past) (q - first_cpu g c) (runs q (Acted (past_act g q act past) ∷ past))
  unfolding runs_of processors
  runs_of-changed low high = map-one (λ r. runs r past) (λ r. runs r (Acted (past_act g q act past) ∷ past)) q (first_cpu g c) (cpus g c) other low high
