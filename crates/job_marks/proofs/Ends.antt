-- The clocks at which the jobs of a task ended, in order, are those of its jobs by number.
use Rattle.std.proofs.Common.{◌≡◌, ◌∙◌, ℕ, zero, suc, ◌+◌, ◌-◌, ◌≤◌, Bool, true, false, ◌&&◌, List, [], ◌∷◌, ◌++◌, length, refl, sym, ap, arith, length-append}
use Rattle.std.specs.Prelude.{◌==◌, slice_get, Option, Some, if◌then◌else◌}
use Rattle.std.proofs.lemmas.Bool.Decides.{nat_tests}
use Rattle.std.proofs.lemmas.Option.{slice_get_past}
use Rattle.rt_model.specs.Jobs.{done}
use Rattle.rt_model.specs.Past.{Past, ends_job, now}
use Rattle.rt_model.proofs.Steps.{done-step}
use Rattle.trace_views.specs.JobMoves.{clock_if, last_clock, or_else}
use Rattle.trace_views.specs.JobTimes.{end}
use Rattle.job_marks.specs.Times.{end_clocks}

pub ends-counted : (t : ℕ) (past : Past) → length (end_clocks t past) ≡ done t past
unfolding end_clocks done
ends-counted t [] = refl
ends-counted t (e ∷ past) = by_case (ends_job t e) (ends-counted t past) ∙ sym (done-step t e past)
  where
    by_case : (b : Bool) → length (end_clocks t past) ≡ done t past → length (if b then end_clocks t past ++ now past ∷ [] else end_clocks t past) ≡ (if b then done t past + 1 else done t past)
    by_case true h = length-append (end_clocks t past) (now past ∷ []) ∙ ap (λ n. n + 1) h
    by_case false h = h

read-more : (xs : List ℕ) (x k : ℕ) → slice_get (xs ++ x ∷ []) k ≡ (if k == length xs then Some x else slice_get xs k)
read-more [] x zero = refl
read-more [] x (suc k) = let other : suc k == 0 ≡ false = grind (arith, nat_tests) in rw other refl
read-more (y ∷ xs) x zero = let other : 0 == suc (length xs) ≡ false = grind (arith, nat_tests) in rw other refl
read-more (y ∷ xs) x (suc k) = let same : suc k == suc (length xs) ≡ (k == length xs) = grind (arith, nat_tests) in rw same (read-more xs x k)

pub end-kept : (t k : ℕ) (past : Past) → 1 ≤ k → slice_get (end_clocks t past) (k - 1) ≡ end t k past
unfolding end_clocks end last_clock
end-kept t k [] one = slice_get_past [] (k - 1) (omega arith)
end-kept t k (e ∷ past) one =
    let same : done t past + 1 == k ≡ (k - 1 == length (end_clocks t past)) = grind (arith, nat_tests, one, ends-counted t past) in
    by_case (ends_job t e) (k - 1 == length (end_clocks t past)) refl (end t k past) (end-kept t k past one)
    ∙ ap (λ j. or_else (clock_if (j && ends_job t e) past) (end t k past)) (sym same)
  where
    clocks : List ℕ
    clocks = end_clocks t past

    by_case : (b j : Bool) → k - 1 == length clocks ≡ j → (o : Option ℕ) → slice_get clocks (k - 1) ≡ o
        → slice_get (if b then clocks ++ now past ∷ [] else clocks) (k - 1) ≡ or_else (clock_if (j && b) past) o
    by_case true true h o before = read-more clocks (now past) (k - 1) ∙ rw h refl
    by_case true false h o before = read-more clocks (now past) (k - 1) ∙ rw h before
    by_case false true h o before = before
    by_case false false h o before = before
