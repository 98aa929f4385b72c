-- Sums over tasks of what is counted of a past.
use Rattle.std.proofs.Common.{◌≡◌, ◌∙◌, ℕ, ◌+◌, Bool, true, false, List, [], ◌∷◌, ◌||◌, refl, ap, arith, eqb-true}
use Rattle.std.specs.Prelude.{Option, None, Some, if◌then◌else◌, is_some, sum_by, ◌==◌}
use Rattle.std.proofs.lemmas.List.Sums.{sum_by-cons}
use Rattle.rt_rules.specs.Distinct.{IsDistinct}
use Rattle.rt_rules.specs.Numbers.{has, is}
use Rattle.rt_rules.proofs.MemberLaws.{some-is, turned}
use Rattle.rt_model.specs.Group.{Group, tasks}
use Rattle.rt_model.specs.Past.{Event, Past}
use Rattle.rt_model.specs.Reachable.{IsReachable}
use Rattle.rt_laws.proofs.Moves.{IsMove, by_moves}
use Rattle.trace_views.specs.JobMoves.{Test, count_moves}
use Rattle.trace_views.proofs.Sums.{one_if}

pub sum-equal : (c d : ℕ → ℕ) (ts : List ℕ) → ((t : ℕ) → c t ≡ d t) → sum_by c ts ≡ sum_by d ts
sum-equal c d [] h = refl
sum-equal c d (t ∷ ts) h = rw (sum_by-cons c t ts, sum_by-cons d t ts, h t, sum-equal c d ts h) refl

sum-zero : (ts : List ℕ) → sum_by (λ t. 0) ts ≡ 0
sum-zero [] = refl
sum-zero (t ∷ ts) =
    let rest : sum_by (λ u. 0) ts ≡ 0 = sum-zero ts in
    sum_by-cons (λ u. 0) t ts ∙ omega (arith, rest)

-- one more at some of them
sum-raised : (b : ℕ → Bool) (c : ℕ → ℕ) (ts : List ℕ) → sum_by (λ t. if b t then c t + 1 else c t) ts ≡ sum_by c ts + sum_by (λ t. one_if (b t)) ts
sum-raised b c [] = refl
sum-raised b c (t ∷ ts) = rw (sum_by-cons (λ u. if b u then c u + 1 else c u) t ts, sum_by-cons c t ts, sum_by-cons (λ u. one_if (b u)) t ts, sum-raised b c ts) (by_case (b t))
  where
    by_case : (x : Bool) → (if x then c t + 1 else c t) + (sum_by c ts + sum_by (λ u. one_if (b u)) ts) ≡ c t + sum_by c ts + (one_if x + sum_by (λ u. one_if (b u)) ts)
    by_case true = omega arith
    by_case false = omega arith

-- how many of different numbers are one number
sum-one : (u : ℕ) (ts : List ℕ) → IsDistinct ts → sum_by (λ t. one_if (t == u)) ts ≡ one_if (has u ts)
sum-one u [] d = refl
sum-one u (t ∷ ts) d = rw (sum_by-cons (λ v. one_if (v == u)) t ts, sum-one u ts d.1, turned u t) (by_case (t == u) refl)
  where
    by_case : (x : Bool) → t == u ≡ x → one_if x + one_if (has u ts) ≡ one_if (x || has u ts)
    by_case true e = let gone : has u ts ≡ false = rw (eqb-true t u e) at d.0 in rw gone refl
    by_case false e = omega arith

sum-is : (o : Option ℕ) (ts : List ℕ) → IsDistinct ts → ((u : ℕ) → o ≡ Some u → has u ts ≡ true) → sum_by (λ t. one_if (is t o)) ts ≡ one_if (is_some o)
sum-is None ts d there = sum-zero ts
sum-is (Some u) ts d there = sum-one u ts d ∙ ap one_if (there u refl)

-- each move is one of at most one of the tasks: of that which `whose` tells
pub record IsOfOne (g : Group) (test : ℕ → Test) (whose : Event → Past → Option ℕ) : Type 0 where
  pub tells : (t : ℕ) (e : Event) (past : Past) → test t e past ≡ is t (whose e past)
  pub member : (t : ℕ) (past : Past) (e : Event) → IsReachable g past → IsMove g past e → test t e past ≡ true → has t (tasks g) ≡ true

-- so all tasks together have the moves that are one's
pub tasks_have_all : (g : Group) (test : ℕ → Test) (whose : Event → Past → Option ℕ) → IsDistinct (tasks g) → IsOfOne g test whose → {past : Past} → IsReachable g past
    → sum_by (λ t. count_moves (test t) past) (tasks g) ≡ count_moves (λ e before. is_some (whose e before)) past
unfolding count_moves
tasks_have_all g test whose d one made = by_moves g (λ past. sum_by (λ t. count_moves (test t) past) (tasks g) ≡ count_moves (λ e before. is_some (whose e before)) past) (sum-zero (tasks g)) step made
  where
    here : (past : Past) (e : Event) → IsReachable g past → IsMove g past e → sum_by (λ t. one_if (test t e past)) (tasks g) ≡ one_if (is_some (whose e past))
    here past e before move =
        sum-equal (λ t. one_if (test t e past)) (λ t. one_if (is t (whose e past))) (tasks g) (λ t. ap one_if (one.tells t e past))
        ∙ sum-is (whose e past) (tasks g) d (λ u h. one.member u past e before move (one.tells u e past ∙ some-is u (whose e past) h))

    join : (x : Bool) (n : ℕ) → n + one_if x ≡ (if x then n + 1 else n)
    join true n = refl
    join false n = omega arith

    step : (past : Past) (e : Event) → IsReachable g past → IsMove g past e → sum_by (λ t. count_moves (test t) past) (tasks g) ≡ count_moves (λ x before. is_some (whose x before)) past
        → sum_by (λ t. count_moves (test t) (e ∷ past)) (tasks g) ≡ count_moves (λ x before. is_some (whose x before)) (e ∷ past)
    step past e before move so_far =
        sum-raised (λ t. test t e past) (λ t. count_moves (test t) past) (tasks g)
        ∙ ap (λ n. n + sum_by (λ t. one_if (test t e past)) (tasks g)) so_far
        ∙ ap (λ n. count_moves (λ x b. is_some (whose x b)) past + n) (here past e before move)
        ∙ join (is_some (whose e past)) (count_moves (λ x b. is_some (whose x b)) past)
