-- The late jobs of a task are those that ended when the clock was past their deadline.
use Rattle.std.proofs.Common.{◌≡◌, ◌∙◌, ℕ, suc, zero, ◌+◌, ◌-◌, ◌<◌, ◌≤◌, Bool, true, false, List, [], ◌∷◌, ◌++◌, ◌&&◌, ◌⊎◌, inl, inr, refl, sym, ap, cond, subst, arith, eqb-true}
use Rattle.std.specs.Prelude.{Option, None, Some, if◌then◌else◌, nat_lt, slice_get, unwrap_or, ◌==◌}
use Rattle.rt_task.specs.declared.Kind.{Kind}
use Rattle.rt_task.specs.declared.Kind.TheVariants.{Periodic, Sporadic}
use Rattle.rt_rules.specs.Numbers.{numbers_from}
use Rattle.rt_rules.proofs.BoolLaws.{both, either}
use Rattle.rt_model.specs.Group.{Group, task}
use Rattle.rt_model.specs.Jobs.{done}
use Rattle.rt_model.specs.Past.{Acted, Clock, Event, Past, accepted, ends_job, now}
use Rattle.rt_model.specs.Reachable.{IsReachable}
use Rattle.rt_model.specs.Releases.{arrivals, arrives, deadline, exists, is_released, release, release_by}
use Rattle.rt_model.proofs.ReleaseLaws.{exists-early, is_next_of_early}
use Rattle.rt_model.proofs.Steps.{done-step}
use Rattle.rt_laws.proofs.jobs.JobLaws.{released}
use Rattle.rt_laws.proofs.Moves.{IsMove, by_moves, clock_moves, cpu_acts}
use Rattle.rt_laws.proofs.Rules.{MeetsRules}
use Rattle.rt_laws.proofs.jobs.Running.{IsRunning, ended-runs, running}
use Rattle.rt_laws.proofs.ValidSets.{rules_of}
use Rattle.trace_views.specs.JobMoves.{count_moves, in_job, last_clock}
use Rattle.trace_views.specs.JobTimes.{deadline_of, end, ends_now, kept, late, missed, outcome, outcome_by, release_of, under_way}
use Rattle.trace_views.specs.JobRows.{JobRow, job_row, listed, rows_of}
use Rattle.trace_views.specs.TableLaws.{LateEndedLate, ends_late}
use Rattle.trace_views.specs.TaskRows.{is_late, task_row}
use Rattle.trace_views.proofs.JobSums.{PassesThere, done-grows}
use Rattle.trace_views.proofs.RowSums.{listed_have_all}
use Rattle.trace_views.proofs.Sums.{count-map, one_if, sum-same}

-- ---- a release that is known stays

slice_get-append : (xs ys : List ℕ) (k r : ℕ) → slice_get xs k ≡ Some r → slice_get (xs ++ ys) k ≡ Some r
slice_get-append [] ys k r h = cc
slice_get-append (x ∷ xs) ys zero r h = h
slice_get-append (x ∷ xs) ys (suc k) r h = slice_get-append xs ys k r h

arrivals-keep : (t k r : ℕ) (e : Event) (past : Past) → slice_get (arrivals t past) k ≡ Some r → slice_get (arrivals t (e ∷ past)) k ≡ Some r
unfolding arrivals
arrivals-keep t k r (Clock tick) past h = h
arrivals-keep t k r (Acted d) past h = by_case (arrives t d.act && accepted d.reply)
  where
    by_case : (b : Bool) → slice_get (cond b (arrivals t past ++ now past ∷ []) (arrivals t past)) k ≡ Some r
    by_case true = slice_get-append (arrivals t past) (now past ∷ []) k r h
    by_case false = h

release_by-keeps : (g : Group) (kind : Kind) (t k r : ℕ) (e : Event) (past : Past) → release_by g kind t k past ≡ Some r → release_by g kind t k (e ∷ past) ≡ Some r
unfolding release_by
release_by-keeps g Periodic t k r e past h = h
release_by-keeps g Sporadic t k r e past h = arrivals-keep t k r e past h

-- the release of a job that is there is known
abbrev Known : Group → ℕ → ℕ → Past → Type 0
Known g t k past = (r : ℕ) × (release_by g (task g t).kind t k past ≡ Some r)

known-keeps : (g : Group) (t k : ℕ) (e : Event) (past : Past) → Known g t k past → Known g t k (e ∷ past)
known-keeps g t k e past h = (h.0, release_by-keeps g (task g t).kind t k h.0 e past h.1)

there-known : (g : Group) → MeetsRules g → (t : ℕ) (past : Past) → exists g t past ≡ true → Known g t (done t past) past
unfolding release release_by
there-known g rules t past h = by_cases (either (is_released g t past) (is_next_of_early g t past) (rw exists-early at h))
  where
    by_kind : (kind : Kind) → kind ≡ Periodic → (r : ℕ) × (release_by g kind t (done t past) past ≡ Some r)
    by_kind Periodic e = (_, refl)
    by_kind Sporadic e = cc

    by_cases : (is_released g t past ≡ true) ⊎ (is_next_of_early g t past ≡ true) → Known g t (done t past) past
    by_cases (inl m) = let r = released g t past m in (r.0, r.1)
    by_cases (inr m) = by_kind (task g t).kind (rules.is_periodic t (both (task g t).early (nat_lt 0 (done t past)) m).0)

-- a job ends that is there
ends-there : (g : Group) → MeetsRules g → (t : ℕ) → PassesThere g t (ends_now t)
ends-there g rules t past e made (clock_moves tick) h = cc
ends-there g rules t past e made (cpu_acts q a) h =
    let r : IsRunning g q t past = running g rules made q t (ended-runs g q t a past h) in
    r.exists_now

late-there : (g : Group) → MeetsRules g → (t : ℕ) → PassesThere g t (ends_late g t)
late-there g rules t past e made move h = ends-there g rules t past e made move (both _ _ h).0

-- ---- job by job

-- a job that is not done has not ended late
unended : (g : Group) (t k : ℕ) (past : Past) → done t past < k → count_moves (in_job t k (ends_late g t)) past ≡ 0
unfolding count_moves
unended g t k [] h = refl
unended g t k (e ∷ past) h = by_case (done t past + 1 == k) (ends_job t e) refl refl (unended g t k past (omega (arith, h, done-grows t e past)))
  where
    by_case : (b x : Bool) → done t past + 1 == k ≡ b → ends_job t e ≡ x → count_moves (in_job t k (ends_late g t)) past ≡ 0
        → (if b && (x && nat_lt (deadline g t past) (now past)) then count_moves (in_job t k (ends_late g t)) past + 1 else count_moves (in_job t k (ends_late g t)) past) ≡ 0
    by_case false x m n z = z
    by_case true false m n z = z
    by_case true true m n z =
        let number : done t past + 1 ≡ k = eqb-true (done t past + 1) k m in
        let after : done t (e ∷ past) ≡ done t past + 1 = rw (done-step t e past, n) refl in
        absurd (omega (arith, h, number, after))

-- by when a job ended, whether it ended late
abbrev late_by : Option ℕ → ℕ → ℕ
late_by None d = 0
late_by (Some c) d = one_if (nat_lt d c)

late_by-outcome : (o : Option ℕ) (d clock : ℕ) → one_if (is_late (outcome_by o d clock)) ≡ late_by o d
late_by-outcome None d clock = by_case (nat_lt d clock)
  where
    by_case : (b : Bool) → one_if (is_late (if b then missed else under_way)) ≡ 0
    by_case true = refl
    by_case false = refl
late_by-outcome (Some c) d clock = by_case (nat_lt d c)
  where
    by_case : (b : Bool) → one_if (is_late (if b then late else kept)) ≡ one_if b
    by_case true = refl
    by_case false = refl

-- while the release of a job is known its deadline stays, and that of the job which ends is the current deadline
deadline-keeps : (g : Group) (t k : ℕ) (e : Event) (past : Past) → Known g t (k - 1) past → deadline_of g t k (e ∷ past) ≡ deadline_of g t k past
unfolding deadline_of release_of
deadline-keeps g t k e past h = ap (λ o. unwrap_or o 0 + (task g t).rel_deadline) (release_by-keeps g (task g t).kind t (k - 1) h.0 e past h.1 ∙ sym h.1)

deadline-now : (g : Group) (t k : ℕ) (e : Event) (past : Past) → k - 1 ≡ done t past → Known g t (done t past) past → deadline_of g t k (e ∷ past) ≡ deadline g t past
unfolding deadline release deadline_of release_of
deadline-now g t k e past number h =
    ap (λ j. unwrap_or (release_by g (task g t).kind t j (e ∷ past)) 0 + (task g t).rel_deadline) number
    ∙ ap (λ o. unwrap_or o 0 + (task g t).rel_deadline) (release_by-keeps g (task g t).kind t (done t past) h.0 e past h.1 ∙ sym h.1)

-- of a job: where it has ended its release is known, and it is counted where it ended late
record IsCounted (g : Group) (t k : ℕ) (past : Past) : Type 0 where
  known : (c : ℕ) → end t k past ≡ Some c → Known g t (k - 1) past
  counted : late_by (end t k past) (deadline_of g t k past) ≡ count_moves (in_job t k (ends_late g t)) past

stays-counted : (g : Group) (t k : ℕ) (e : Event) (past : Past) → IsCounted g t k past → end t k (e ∷ past) ≡ end t k past
    → count_moves (in_job t k (ends_late g t)) (e ∷ past) ≡ count_moves (in_job t k (ends_late g t)) past → IsCounted g t k (e ∷ past)
stays-counted g t k e past before same_end same_count = record {
  known = λ c h. known-keeps g t (k - 1) e past (before.known c (sym same_end ∙ h));
  counted = ap (λ o. late_by o (deadline_of g t k (e ∷ past))) same_end ∙ same_late (end t k past) refl ∙ before.counted ∙ sym same_count;
}
  where
    same_late : (o : Option ℕ) → end t k past ≡ o → late_by o (deadline_of g t k (e ∷ past)) ≡ late_by o (deadline_of g t k past)
    same_late None h = refl
    same_late (Some c) h = ap (λ d. late_by (Some c) d) (deadline-keeps g t k e past (before.known c h))

ends-counted : (g : Group) (t k : ℕ) (e : Event) (past : Past) → k ≡ done t past + 1 → Known g t (done t past) past → end t k (e ∷ past) ≡ Some (now past)
    → count_moves (in_job t k (ends_late g t)) (e ∷ past) ≡ one_if (nat_lt (deadline g t past) (now past)) → IsCounted g t k (e ∷ past)
ends-counted g t k e past is_current known ended count = record {
  known = λ c h. subst (λ j. Known g t j (e ∷ past)) (sym number) (known-keeps g t (done t past) e past known);
  counted = ap (λ o. late_by o (deadline_of g t k (e ∷ past))) ended ∙ ap (λ d. one_if (nat_lt d (now past))) (deadline-now g t k e past number known) ∙ sym count;
}
  where
    number : k - 1 ≡ done t past
    number = omega (arith, is_current)

counted-step : (g : Group) → MeetsRules g → (t k : ℕ) (past : Past) (e : Event) → IsReachable g past → IsMove g past e → IsCounted g t k past → IsCounted g t k (e ∷ past)
unfolding end last_clock count_moves
counted-step g rules t k past e made move before = by_case (done t past + 1 == k) (ends_job t e) refl refl
  where
    from_zero : (b : Bool) → (if b then 0 + 1 else 0) ≡ one_if b
    from_zero true = refl
    from_zero false = refl

    by_case : (b x : Bool) → done t past + 1 == k ≡ b → ends_job t e ≡ x → IsCounted g t k (e ∷ past)
    by_case false x m n = stays-counted g t k e past before (rw m refl) (rw m refl)
    by_case true false m n = stays-counted g t k e past before (rw (m, n) refl) (rw (m, n) refl)
    by_case true true m n =
        let number : done t past + 1 ≡ k = eqb-true (done t past + 1) k m in
        let none : count_moves (in_job t k (ends_late g t)) past ≡ 0 = unended g t k past (omega (arith, number)) in
        let known : Known g t (done t past) past = there-known g rules t past (ends-there g rules t past e made move n) in
        ends-counted g t k e past (sym number) known (rw (m, n) refl) (rw (m, n, none) (from_zero (nat_lt (deadline g t past) (now past))))

all_counted : (g : Group) → MeetsRules g → (t k : ℕ) {past : Past} → IsReachable g past → IsCounted g t k past
unfolding end last_clock count_moves
all_counted g rules t k made = by_moves g (IsCounted g t k) (record { known = λ c h. cc; counted = refl }) (counted-step g rules t k) made

-- ---- so the lines count them

pub late_ended_late : LateEndedLate
unfolding task_row rows_of job_row outcome
late_ended_late g past valid made t =
    let rules : MeetsRules g = rules_of g valid in
    let ks : List ℕ = numbers_from 1 (listed g t past) in
    let each = λ (k : ℕ) (low : 1 ≤ k). late_by-outcome (end t k past) (deadline_of g t k past) (now past) ∙ (all_counted g rules t k made).counted in
    count-map (λ (r : JobRow). is_late r.outcome) (job_row g t past) ks
    ∙ sum-same (λ k. one_if (is_late (outcome g t k past))) (λ k. count_moves (in_job t k (ends_late g t)) past) 1 (listed g t past) each
    ∙ listed_have_all g rules t (ends_late g t) (late-there g rules t) made
