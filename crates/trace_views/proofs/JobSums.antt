-- The moves of a task's jobs together are its moves.
use Rattle.std.proofs.Common.{◌≡◌, ◌∙◌, ℕ, suc, zero, ◌+◌, ◌<◌, ◌≤◌, Bool, true, false, [], ◌∷◌, ◌&&◌, refl, ap, subst, arith}
use Rattle.std.specs.Prelude.{if◌then◌else◌, sum_by, ◌==◌}
use Rattle.rt_rules.specs.Numbers.{numbers_from}
use Rattle.rt_rules.proofs.BoolLaws.{clash, unless}
use Rattle.rt_model.specs.Group.{Group}
use Rattle.rt_model.specs.Jobs.{done}
use Rattle.rt_model.specs.Past.{Event, Past, ends_job}
use Rattle.rt_model.specs.Reachable.{IsReachable}
use Rattle.rt_model.specs.Releases.{exists}
use Rattle.rt_model.proofs.Steps.{done-step}
use Rattle.rt_laws.proofs.jobs.JobLaws.{exists-keeps}
use Rattle.rt_laws.proofs.Moves.{by_moves, IsMove}
use Rattle.rt_laws.proofs.Rules.{MeetsRules}
use Rattle.trace_views.specs.JobMoves.{Test, count_moves, in_job}
use Rattle.trace_views.proofs.Sums.{below_differs, sum-raised}

pub done-grows : (t : ℕ) (e : Event) (past : Past) → done t past ≤ done t (e ∷ past)
done-grows t e past = rw (done-step t e past) (by_case (ends_job t e))
  where
    by_case : (b : Bool) → done t past ≤ (if b then done t past + 1 else done t past)
    by_case true = omega arith
    by_case false = omega arith

-- a job that has not begun to be the current one has no moves
pub none_yet : (test : Test) (t k : ℕ) (past : Past) → done t past + 1 < k → count_moves (in_job t k test) past ≡ 0
unfolding count_moves
none_yet test t k [] h = refl
none_yet test t k (e ∷ past) h =
    let low : done t past + 1 < k = omega (arith, h, done-grows t e past) in
    rw (below_differs (done t past + 1) k low) (none_yet test t k past low)

-- the jobs up to the current one, or beyond, have all the moves that pass
pub jobs_have_all : (test : Test) (t n : ℕ) (past : Past) → done t past + 1 ≤ n → sum_by (λ k. count_moves (in_job t k test) past) (numbers_from 1 n) ≡ count_moves test past
unfolding count_moves
jobs_have_all test t n [] h = zeros 1 n
  where
    zeros : (i m : ℕ) → sum_by (λ k. 0) (numbers_from i m) ≡ 0
    zeros i zero = refl
    zeros i (suc m) = zeros (suc i) m
jobs_have_all test t n (e ∷ past) h =
    let low : done t past + 1 ≤ n = omega (arith, h, done-grows t e past) in
    sum-raised (done t past + 1) (test e past) (λ k. count_moves (in_job t k test) past) 1 n (omega arith) (omega (arith, low)) ∙ ap (λ m. if test e past then m + 1 else m) (jobs_have_all test t n past low)

-- moves that pass only while the task's current job is there
abbrev pub PassesThere : Group → ℕ → Test → Type 0
PassesThere g t test = (past : Past) (e : Event) → IsReachable g past → IsMove g past e → test e past ≡ true → exists g t past ≡ true

-- then a current job that is not there has none
abbrev HasNone : Group → ℕ → Test → Past → Type 0
HasNone g t test past = exists g t past ≡ false → count_moves (in_job t (done t past + 1) test) past ≡ 0

none-step : (g : Group) → MeetsRules g → (t : ℕ) (test : Test) → PassesThere g t test → (past : Past) (e : Event) → IsReachable g past → IsMove g past e → HasNone g t test past → HasNone g t test (e ∷ past)
unfolding count_moves
none-step g rules t test there past e made move before h = by_end (ends_job t e) refl
  where
    by_and : (x : Bool) → count_moves (in_job t (done t past + 1) test) past ≡ 0 → (if x && false then count_moves (in_job t (done t past + 1) test) past + 1 else count_moves (in_job t (done t past + 1) test) past) ≡ 0
    by_and true m = m
    by_and false m = m

    by_end : (b : Bool) → ends_job t e ≡ b → count_moves (in_job t (done t (e ∷ past) + 1) test) (e ∷ past) ≡ 0
    by_end true k =
        let number : done t past + 1 + 1 ≡ done t (e ∷ past) + 1 = rw (done-step t e past, k) refl in
        let low : done t past + 1 < done t past + 1 + 1 = omega arith in
        subst (λ j. count_moves (in_job t j test) (e ∷ past) ≡ 0) number (rw (below_differs (done t past + 1) (done t past + 1 + 1) low) (none_yet test t (done t past + 1 + 1) past low))
    by_end false k =
        let number : done t past + 1 ≡ done t (e ∷ past) + 1 = rw (done-step t e past, k) refl in
        let gone : exists g t past ≡ false = unless (exists g t past) (λ m. clash _ (exists-keeps g rules t e past m k) h) in
        let fails : test e past ≡ false = unless (test e past) (λ m. clash _ (there past e made move m) gone) in
        subst (λ j. count_moves (in_job t j test) (e ∷ past) ≡ 0) number (rw fails (by_and (done t past + 1 == done t past + 1) (before gone)))

pub none_of_missing : (g : Group) → MeetsRules g → (t : ℕ) (test : Test) → PassesThere g t test → {past : Past} → IsReachable g past → HasNone g t test past
unfolding count_moves
none_of_missing g rules t test there made = by_moves g (HasNone g t test) (λ h. refl) (none-step g rules t test there) made
