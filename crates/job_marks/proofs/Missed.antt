-- A job is missed where it ended after its deadline, or has not ended and that is over.
use Rattle.std.proofs.Common.{◌≡◌, ◌∙◌, ℕ, ◌+◌, ◌≤◌, Bool, true, false, ◌&&◌, [], ◌∷◌, refl, sym, ap, subst, arith, leb-true}
use Rattle.std.specs.Prelude.{◌==◌, nat_le, nat_lt, Option, None, Some, if◌then◌else◌}
use Rattle.std.proofs.lemmas.Bool.Decides.{nat_tests}
use Rattle.std.proofs.lemmas.Option.{none-some, same_Some}
use Rattle.rt_model.specs.Group.{Group}
use Rattle.rt_model.specs.Jobs.{done}
use Rattle.rt_model.specs.Past.{Acted, Clock, Event, Past, ends_job, now}
use Rattle.rt_model.proofs.Steps.{done-step}
use Rattle.trace_views.specs.JobMoves.{count_moves, last_clock, or_else}
use Rattle.trace_views.specs.JobTimes.{deadline_of, end}
use Rattle.trace_views.specs.Marks.{ended_by, is_missed}
use Rattle.job_marks.specs.inside.Marks.{is_missed_by}

now-grows : (e : Event) (past : Past) → now past ≤ now (e ∷ past)
now-grows (Clock tick) past = grind arith
now-grows (Acted d) past = omega arith

-- ---- how many jobs of a task have ended by a clock

ended-next : (t c : ℕ) (e : Event) (past : Past) → ended_by t c (e ∷ past) ≡ (if ends_job t e && nat_le (now past) c then ended_by t c past + 1 else ended_by t c past)
unfolding ended_by count_moves
ended-next t c e past = refl

ended-few : (t c : ℕ) (past : Past) → ended_by t c past ≤ done t past
unfolding ended_by count_moves done
ended-few t c [] = omega arith
ended-few t c (e ∷ past) = by_case (ends_job t e) (nat_le (now past) c) (ended-next t c e past) (done-step t e past) (ended-few t c past)
  where
    by_case : (b l : Bool) → ended_by t c (e ∷ past) ≡ (if b && l then ended_by t c past + 1 else ended_by t c past) → done t (e ∷ past) ≡ (if b then done t past + 1 else done t past)
        → ended_by t c past ≤ done t past → ended_by t c (e ∷ past) ≤ done t (e ∷ past)
    by_case true true h k low = omega (arith, h, k, low)
    by_case true false h k low = omega (arith, h, k, low)
    by_case false l h k low = omega (arith, h, k, low)

-- by now all
ended-all : (t c : ℕ) (past : Past) → now past ≤ c → ended_by t c past ≡ done t past
unfolding ended_by count_moves done
ended-all t c [] high = refl
ended-all t c (e ∷ past) high =
    let before : now past ≤ c = omega (arith, now-grows e past, high) in
    let come : nat_le (now past) c ≡ true = grind (arith, nat_tests, before) in
    by_case (ends_job t e) (ended-next t c e past ∙ rw come refl) (done-step t e past) (ended-all t c past before)
  where
    by_case : (b : Bool) → ended_by t c (e ∷ past) ≡ (if b && true then ended_by t c past + 1 else ended_by t c past) → done t (e ∷ past) ≡ (if b then done t past + 1 else done t past)
        → ended_by t c past ≡ done t past → ended_by t c (e ∷ past) ≡ done t (e ∷ past)
    by_case true h k same = omega (arith, h, k, same)
    by_case false h k same = omega (arith, h, k, same)

-- ---- the end of a job, by that count

abbrev ends_after : ℕ → Option ℕ → Bool
ends_after c None = true
ends_after c (Some e) = nat_lt c e

pub end-next : (t k : ℕ) (e : Event) (past : Past) → end t k (e ∷ past) ≡ or_else (if done t past + 1 == k && ends_job t e then Some (now past) else None) (end t k past)
unfolding end last_clock
end-next t k e past = refl

end-low : (t k : ℕ) (past : Past) (c : ℕ) → end t k past ≡ Some c → c ≤ now past
unfolding end last_clock
end-low t k [] c is = absurd (none-some c is)
end-low t k (e ∷ past) c is = by_case (done t past + 1 == k && ends_job t e) (λ h. end-low t k past c h) (sym (end-next t k e past) ∙ is)
  where
    by_case : (b : Bool) → (end t k past ≡ Some c → c ≤ now past) → or_else (if b then Some (now past) else None) (end t k past) ≡ Some c → c ≤ now (e ∷ past)
    by_case true before j = subst (λ n. n ≤ now (e ∷ past)) (same_Some _ _ j) (now-grows e past)
    by_case false before j = omega (arith, before j, now-grows e past)

over-by : (t k c : ℕ) (past : Past) → 1 ≤ k → nat_lt (ended_by t c past) k ≡ ends_after c (end t k past)
unfolding ended_by count_moves end last_clock
over-by t k c [] one = grind (arith, nat_tests, one)
over-by t k c (e ∷ past) one = rw (ended-next t c e past, end-next t k e past) (by_case (ends_job t e) (nat_le (now past) c) (done t past + 1 == k) refl refl (end t k past) (over-by t k c past one))
  where
    by_case : (b l j : Bool) → nat_le (now past) c ≡ l → done t past + 1 == k ≡ j → (o : Option ℕ) → nat_lt (ended_by t c past) k ≡ ends_after c o
        → nat_lt (if b && l then ended_by t c past + 1 else ended_by t c past) k ≡ ends_after c (or_else (if j && b then Some (now past) else None) o)
    by_case false l true h i o before = before
    by_case false l false h i o before = before
    by_case true true true h i o before = grind (arith, nat_tests, h, i, ended-all t c past (leb-true _ _ h))
    by_case true false true h i o before = grind (arith, nat_tests, h, i, ended-few t c past)
    by_case true true false h i o before =
        let all = ended-all t c past (leb-true _ _ h) in
        let same : nat_lt (ended_by t c past + 1) k ≡ nat_lt (ended_by t c past) k = grind (arith, nat_tests, all, i) in
        same ∙ before
    by_case true false false h i o before = before

-- ---- so it says whether the job is missed

by_end : (o : Option ℕ) (d clock : ℕ) → ((c : ℕ) → o ≡ Some c → c ≤ clock) → is_missed_by o d clock ≡ ends_after d o && nat_lt d clock
by_end None d clock low = refl
by_end (Some c) d clock low = by_case (nat_lt d c) refl
  where
    by_case : (b : Bool) → nat_lt d c ≡ b → b ≡ b && nat_lt d clock
    by_case true h = grind (arith, nat_tests, h, low c refl)
    by_case false h = refl

pub missed-is : (g : Group) (t k : ℕ) (past : Past) → 1 ≤ k → is_missed_by (end t k past) (deadline_of g t k past) (now past) ≡ is_missed g t past k
missed-is g t k past one =
    by_end (end t k past) (deadline_of g t k past) (now past) (λ c is. end-low t k past c is)
    ∙ ap (λ b. b && nat_lt (deadline_of g t k past) (now past)) (sym (over-by t k (deadline_of g t k past) past one))
