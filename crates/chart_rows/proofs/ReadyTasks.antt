-- What a state shows of ready tasks that have nothing to do with semaphores stays as the clock moves, and until an act touches them.
use Rattle.std.proofs.Common.{◌≡◌, ◌∙◌, ℕ, zero, suc, ◌+◌, max, Bool, true, false, not, ◌&&◌, ◌||◌, List, [], ◌∷◌, ◌⊎◌, inl, inr, refl, sym, ap, eqb-true, arith}
use Rattle.std.specs.Prelude.{◌==◌, nat_lt, Option, None, Some, slice_index_or, slice_set}
use Rattle.std.proofs.lemmas.Bool.Decides.{nat_tests}
use Rattle.rt_task.specs.Validity.{IsValid}
use Rattle.rt_rules.specs.declared.Key.{Key}
use Rattle.rt_rules.specs.Numbers.{is, is_empty}
use Rattle.rt_rules.specs.SemState.{Asks, Frees, Neither, SemAct}
use Rattle.rt_rules.proofs.BoolLaws.{clash, neither}
use Rattle.rt_rules.proofs.MemberLaws.{equal_self, some-is}
use Rattle.rt_model.specs.Answers.{is_granted}
use Rattle.rt_model.specs.Group.{Group, protocol, task}
use Rattle.rt_model.specs.Holders.{awaits, holds}
use Rattle.rt_model.specs.Outcomes.{past_act}
use Rattle.rt_model.specs.Past.{Acted, Clock, Event, Past, PastAct, now, sem_act}
use Rattle.rt_model.specs.Reachable.{IsReachable}
use Rattle.rt_model.specs.Releases.{exists, has_come, is_released, opens_early, release}
use Rattle.rt_model.specs.Runs.{runs}
use Rattle.rt_model.specs.Sleep.{sleeps}
use Rattle.rt_model.specs.Jobs.{done}
use Rattle.rt_laws.proofs.Moves.{IsMove, clock_moves, cpu_acts, last_move}
use Rattle.rt_laws.proofs.semaphores.Requests.{asks, frees}
use Rattle.rt_changes.specs.HoldChanges.{IsServed, KeepsHolds}
use Rattle.rt_changes.specs.Touched.{SameJob, arriving}
use Rattle.rt_changes.proofs.HoldChanges.{lock_grants, lock_queues, unlock_releases}
use Rattle.rt_changes.proofs.KeysOfWaiters.{holds_nothing_has_base}
use Rattle.rt_changes.proofs.SemChanges.{quiet_move_leaves_sems}
use Rattle.rt_changes.proofs.rankings.TouchedTasks.{clock-none, facts-none, job-none, other-none}
use Rattle.trace_views.specs.Cells as cells
use Rattle.trace_views.specs.Cells.{cell_at, same_key}
use Rattle.chart_cells.specs.Kept.{state_cell}
use Rattle.chart_rows.specs.declared.ready_jobs.ReadyJob.{ReadyJob}
use Rattle.chart_rows.specs.ReadyJobs.{AreReady, IsReadyWith, untouched, without}
use Rattle.chart_rows.specs.UpTo.{touches}
use Rattle.chart_rows.proofs.Waits.{stays-free}

-- ---- the list: who is in it without the tasks that an act touches

left : (js : List (Option ReadyJob)) (u t : ℕ) (j : ReadyJob) → slice_index_or (slice_set js u None) t None ≡ Some j → (t == u ≡ false) × (slice_index_or js t None ≡ Some j)
left [] u t j h = cc
left (x ∷ js) zero zero j h = cc
left (x ∷ js) zero (suc t) j h = (grind (arith, nat_tests), h)
left (x ∷ js) (suc u) zero j h = (grind (arith, nat_tests), h)
left (x ∷ js) (suc u) (suc t) j h = let p = left js u t j h in (grind (arith, nat_tests, p.0), p.1)

pub without-left : (o : Option ℕ) (js : List (Option ReadyJob)) (t : ℕ) (j : ReadyJob) → slice_index_or (without o js) t None ≡ Some j → (is t o ≡ false) × (slice_index_or js t None ≡ Some j)
without-left None js t j h = (refl, h)
without-left (Some u) js t j h = left js u t j h

-- and of the others all stays
others : (js : List (Option ReadyJob)) (u t : ℕ) (job : Option ReadyJob) → t == u ≡ false → slice_index_or (slice_set js u job) t None ≡ slice_index_or js t None
others [] u t job other = refl
others (x ∷ js) zero zero job other = absurd (clash true refl other)
others (x ∷ js) zero (suc t) job other = refl
others (x ∷ js) (suc u) zero job other = refl
others (x ∷ js) (suc u) (suc t) job other = others js u t job (let h : t == u ≡ false = grind (arith, nat_tests, other) in h)

pub without-others : (o : Option ℕ) (js : List (Option ReadyJob)) (t : ℕ) → is t o ≡ false → slice_index_or (without o js) t None ≡ slice_index_or js t None
without-others None js t other = refl
without-others (Some u) js t other = others js u t None other

-- ---- a later clock

come-later : (from tick : ℕ) (o : Option ℕ) → has_come from o ≡ true → has_come (max from tick) o ≡ true
come-later from tick None h = h
come-later from tick (Some r) h = grind (arith, nat_tests, h)

there-later : (a b early ended : Bool) → (a ≡ true → b ≡ true) → a || (early && (ended && not a)) ≡ true → b || (early && (ended && not b)) ≡ true
there-later a true early ended later h = refl
there-later true false early ended later h = absurd (clash false (later refl) refl)
there-later false false early ended later h = h

module _ (g : Group) (past : Past) (t : ℕ) where
  exists-later : (tick : ℕ) → SameJob g t past (Clock tick ∷ past) → exists g t past ≡ true → exists g t (Clock tick ∷ past) ≡ true
  unfolding exists is_released opens_early
  exists-later tick s h = rw (s.release_same, s.done_same) (there-later (has_come (now past) (release g t past)) (has_come (max (now past) tick) (release g t past)) (task g t).early (nat_lt 0 (done t past)) (come-later (now past) tick (release g t past)) h)

  pub awake-later : (tick : ℕ) → SameJob g t past (Clock tick ∷ past) → sleeps t past ≡ false → sleeps t (Clock tick ∷ past) ≡ false
  unfolding sleeps
  awake-later tick s h = rw s.wakes_same (grind (arith, nat_tests, h))

  -- ---- what it holds

  module _ (e : Event) (valid : IsValid g.setup) (made : IsReachable g (e ∷ past)) (asks_not : (s : ℕ) → sem_act e ≡ Asks t s → ⊥) (frees_not : (s : ℕ) → sem_act e ≡ Frees t s → ⊥) where
    holds-same : awaits g t past ≡ None → holds g t (e ∷ past) ≡ holds g t past
    holds-same free = by_sem (sem_act e) refl
      where
        by_grant : (u s : ℕ) → sem_act e ≡ Asks u s → t == u ≡ false → (b : Bool) → is_granted g (protocol g s) s u past ≡ b → holds g t (e ∷ past) ≡ holds g t past
        by_grant u s m k true r = ((lock_grants g e past valid made u s m r).others t k).held
        by_grant u s m k false r = (lock_queues g e past valid made u s m r).held t

        by_asker : (u s : ℕ) → sem_act e ≡ Asks u s → (b : Bool) → t == u ≡ b → holds g t (e ∷ past) ≡ holds g t past
        by_asker u s m true k = absurd (asks_not s (m ∙ ap (λ n. Asks n s) (sym (eqb-true t u k))))
        by_asker u s m false k = by_grant u s m k (is_granted g (protocol g s) s u past) refl

        by_service : KeepsHolds g t e past ⊎ ((r : ℕ) × IsServed g t r e past) → holds g t (e ∷ past) ≡ holds g t past
        by_service (inl m) = m.held
        by_service (inr m) = let w : awaits g t past ≡ Some m.0 = m.1.waited in cc

        by_freer : (u s : ℕ) → sem_act e ≡ Frees u s → (b : Bool) → t == u ≡ b → holds g t (e ∷ past) ≡ holds g t past
        by_freer u s m true k = absurd (frees_not s (m ∙ ap (λ n. Frees n s) (sym (eqb-true t u k))))
        by_freer u s m false k = by_service ((unlock_releases g e past valid made u s m).others t k)

        by_sem : (a : SemAct) → sem_act e ≡ a → holds g t (e ∷ past) ≡ holds g t past
        by_sem Neither m = (quiet_move_leaves_sems g e past valid made m).held t
        by_sem (Asks u s) m = by_asker u s m (t == u) refl
        by_sem (Frees u s) m = by_freer u s m (t == u) refl

    -- what has nothing to do with semaphores stays so
    stays-ready : (j : ReadyJob) → SameJob g t past (e ∷ past) → exists g t (e ∷ past) ≡ true → sleeps t (e ∷ past) ≡ false → IsReadyWith g past t j → IsReadyWith g (e ∷ past) t j
    stays-ready j s there awake r =
        let none : holds g t (e ∷ past) ≡ [] = holds-same r.awaits_none ∙ r.holds_none in
        record {
          there = there;
          awake = awake;
          awaits_none = stays-free g t e past asks_not r.awaits_none;
          holds_none = none;
          own_key = holds_nothing_has_base g (e ∷ past) valid made t (ap is_empty none);
          number_is = r.number_is ∙ ap (λ n. n + 1) (sym s.done_same);
          np_is = r.np_is ∙ sym s.np_same;
        }

  act-keeps : {e : Event} → IsMove g past e → (d : PastAct) → e ≡ Acted d → touches d t ≡ false → IsValid g.setup → IsReachable g (e ∷ past) → (j : ReadyJob) → IsReadyWith g past t j → IsReadyWith g (e ∷ past) t j
  unfolding past_act
  act-keeps (clock_moves tick) d same h valid made j r = cc
  act-keeps (cpu_acts q a) d same h valid made j r =
      let act_is : past_act g q a past ≡ d = cc in
      let p = neither (is t (runs q past)) (is t (arriving a)) (ap (λ (x : PastAct). touches x t) act_is ∙ h) in
      let facts = facts-none g t (past_act g q a past) past (other-none g q a past t p.0 p.1) in
      stays-ready (Acted (past_act g q a past)) valid made
      (λ s k. clash _ (some-is t (runs q past) (asks g q a past t s k).runs_it) p.0)
      (λ s k. clash _ (some-is t (runs q past) (frees g q a past t s k).runs_it) p.0)
      j facts.same_job (facts.same_ready.exists_same ∙ r.there) (facts.same_ready.sleeps_same ∙ r.awake) r

  clock-keeps : (tick : ℕ) → IsValid g.setup → IsReachable g (Clock tick ∷ past) → (j : ReadyJob) → IsReadyWith g past t j → IsReadyWith g (Clock tick ∷ past) t j
  clock-keeps tick valid made j r =
      let s : SameJob g t past (Clock tick ∷ past) = job-none g t (Clock tick) past (clock-none tick t past) in
      stays-ready (Clock tick) valid made (λ s k. cc) (λ s k. cc) j s (exists-later tick s r.there) (awake-later tick s r.awake) r

pub ready-after-act : (g : Group) (d : PastAct) (past : Past) (js : List (Option ReadyJob)) → IsValid g.setup → IsReachable g (Acted d ∷ past) → AreReady g past js → AreReady g (Acted d ∷ past) (untouched d js)
ready-after-act g d past js valid made ready t j h =
    let a = without-left (arriving d.act) (without d.task js) t j h in
    let b = without-left d.task js t j a.1 in
    act-keeps g past t (last_move g made).1 d refl (rw (b.0, a.0)) valid made j (ready t j b.1)

pub ready-after-clock : (g : Group) (tick : ℕ) (past : Past) (js : List (Option ReadyJob)) → IsValid g.setup → IsReachable g (Clock tick ∷ past) → AreReady g past js → AreReady g (Clock tick ∷ past) js
ready-after-clock g tick past js valid made ready t j h = clock-keeps g past t tick valid made j (ready t j h)

-- ---- what such a task shows

same_key-self : (k : Key) → same_key k k ≡ true
same_key-self k = rw (equal_self k.band, equal_self k.major, equal_self k.minor)

pub ready-cell : (g : Group) (past : Past) (t : ℕ) (j : ReadyJob) → IsReadyWith g past t j → state_cell g t past ≡ record { doing = cells.ready; job = j.number; held = []; non_preemptive = j.non_preemptive; raised = false }
unfolding cell_at
ready-cell g past t j r = rw (r.awaits_none, r.awake, r.there, r.number_is, r.np_is, r.holds_none, r.own_key, same_key-self)
