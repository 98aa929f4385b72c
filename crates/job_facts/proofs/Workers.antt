-- Who worked on a processor last, since it switched.
use Rattle.std.proofs.Common.{◌≡◌, ◌∙◌, ◌⊎◌, inl, inr, ℕ, eqb-true, Bool, true, false, [], ◌∷◌, ◌&&◌, ◌||◌, refl, sym, ap, arith, subst}
use Rattle.std.specs.Prelude.{Option, None, Some, if◌then◌else◌, ◌==◌, is_some}
use Rattle.std.proofs.lemmas.Bool.Decides.{nat_tests}
use Rattle.rt_rules.specs.declared.history.Reply.{Reply}
use Rattle.rt_rules.specs.declared.history.Reply.TheVariants as replies
use Rattle.rt_rules.specs.Numbers.{is}
use Rattle.rt_rules.proofs.BoolLaws.{and_false, both, clash, unless}
use Rattle.rt_rules.proofs.MemberLaws.{is-some, some-is}
use Rattle.rt_model.specs.Group.{Group}
use Rattle.rt_model.specs.Outcomes.{past_act}
use Rattle.rt_model.specs.Past.{Acted, Clock, Event, Past, PastAct, did, is_work}
use Rattle.rt_model.specs.Reachable.{IsReachable}
use Rattle.rt_model.specs.Runs.{leaves, runs, runs_after, runs_by}
use Rattle.rt_model.proofs.Steps.{past_act-cpu, past_act-task, runs-acted, runs-clock}
use Rattle.rt_laws.proofs.Moves.{IsMove, by_moves, clock_moves, cpu_acts}
use Rattle.trace_views.specs.JobCounts.{has_worked, is_on, is_switch_reply, switches}
use Rattle.trace_views.specs.JobMoves.{or_else}
use Rattle.job_facts.specs.Deeds as deeds
use Rattle.job_facts.specs.Workers.{worker}
use Rattle.job_facts.proofs.Steps.{works-shown}

-- whether a task has worked, after one more event
worked-by : (s w : Bool) (t q : ℕ) (e : Event) (past : Past) → switches q e ≡ s → is_on q e && is_work (did t e) ≡ w → has_worked t q (e ∷ past) ≡ (if s then false else (if w then true else has_worked t q past))
worked-by true w t q e past h k = rw h refl
worked-by false true t q e past h k = rw (h, k) (grind (arith, nat_tests))
worked-by false false t q e past h k = rw (h, k) refl

worked-step : (t q : ℕ) (e : Event) (past : Past) → has_worked t q (e ∷ past) ≡ (if switches q e then false else (if is_on q e && is_work (did t e) then true else has_worked t q past))
worked-step t q e past = worked-by (switches q e) (is_on q e && is_work (did t e)) t q e past refl refl

worked-clock : (t q tick : ℕ) (past : Past) → has_worked t q (Clock tick ∷ past) ≡ has_worked t q past
worked-clock t q tick past = worked-step t q (Clock tick) past

-- after an act on another processor, and on this one
worked-other : (t q : ℕ) (d : PastAct) (past : Past) → d.cpu == q ≡ false → has_worked t q (Acted d ∷ past) ≡ has_worked t q past
worked-other t q d past h = worked-by false false t q (Acted d) past (rw h refl) (rw h refl)

worked-here : (t q : ℕ) (d : PastAct) (past : Past) → d.cpu == q ≡ true
    → has_worked t q (Acted d ∷ past) ≡ (if is_switch_reply d.reply then false else (if is t d.task && deeds.works d.act d.reply then true else has_worked t q past))
worked-here t q d past h = worked-by (is_switch_reply d.reply) (is t d.task && deeds.works d.act d.reply) t q (Acted d) past (rw h refl) (rw h (works-shown t d past))

-- the worker is one that has worked
pub worker-worked : (t q : ℕ) (past : Past) → is t (worker q past) ≡ true → has_worked t q past ≡ true
unfolding worker
worker-worked t q [] h = cc
worker-worked t q (Clock tick ∷ past) h = worked-clock t q tick past ∙ worker-worked t q past h
worker-worked t q (Acted d ∷ past) h = by_cpu (worker-worked t q past) (d.cpu == q) refl h
  where
    by_deed : (is t (worker q past) ≡ true → has_worked t q past ≡ true) → (s w : Bool) (o : Option ℕ) → is t (if s then None else (if w then or_else o (worker q past) else worker q past)) ≡ true → (if s then false else (if is t o && w then true else has_worked t q past)) ≡ true
    by_deed before true w o k = cc
    by_deed before false true None k = before k
    by_deed before false true (Some u) k = rw k refl
    by_deed before false false None k = before k
    by_deed before false false (Some u) k = rw (and_false (t == u)) (before k)

    by_cpu : (is t (worker q past) ≡ true → has_worked t q past ≡ true) → (b : Bool) → d.cpu == q ≡ b → is t (if b then deeds.worker_after d.act d.reply d.task (worker q past) else worker q past) ≡ true → has_worked t q (Acted d ∷ past) ≡ true
    by_cpu before true m k = worked-here t q d past m ∙ by_deed before (is_switch_reply d.reply) (deeds.works d.act d.reply) d.task k
    by_cpu before false m k = worked-other t q d past m ∙ before k

-- since a processor switched, no task works on it but what it runs, so the worker is the only one
record IsAlone (q t : ℕ) (past : Past) : Type 0 where
  known : worker q past ≡ Some t
  runs_it : (runs q past ≡ None) ⊎ (runs q past ≡ Some t)

abbrev AreAlone : ℕ → Past → Type 0
AreAlone q past = (t : ℕ) → has_worked t q past ≡ true → IsAlone q t past

runs-kept : (r : Reply) (o : Option ℕ) → is_switch_reply r ≡ false → runs_by r o ≡ o
runs-kept (replies.Runs t) o h = cc
runs-kept replies.Idles o h = cc
runs-kept _ o h = refl

module _ (q t : ℕ) (d : PastAct) (past : Past) (ran : d.task ≡ runs q past) where
  runs-alone : is_switch_reply d.reply ≡ false → (runs q past ≡ None) ⊎ (runs q past ≡ Some t) → (runs_after d (runs q past) ≡ None) ⊎ (runs_after d (runs q past) ≡ Some t)
  runs-alone stays before = by_case (is_some d.ended || leaves d.act d.reply)
    where
      kept : (runs q past ≡ None) ⊎ (runs q past ≡ Some t) → (runs_by d.reply (runs q past) ≡ None) ⊎ (runs_by d.reply (runs q past) ≡ Some t)
      kept (inl m) = inl (runs-kept d.reply (runs q past) stays ∙ m)
      kept (inr m) = inr (runs-kept d.reply (runs q past) stays ∙ m)

      by_case : (b : Bool) → ((if b then None else runs_by d.reply (runs q past)) ≡ None) ⊎ ((if b then None else runs_by d.reply (runs q past)) ≡ Some t)
      by_case true = inl refl
      by_case false = kept before

  -- who the worker is after an act that is no switch
  worker-alone : (w : Bool) → (is t d.task && w ≡ true) ⊎ (IsAlone q t past) → (if w then or_else d.task (worker q past) else worker q past) ≡ Some t
  worker-alone w (inl m) = let parts = both (is t d.task) w m in rw (parts.1, is-some t d.task parts.0) refl
  worker-alone false (inr a) = a.known
  worker-alone true (inr a) = by_runs a.runs_it
    where
      by_runs : (runs q past ≡ None) ⊎ (runs q past ≡ Some t) → or_else d.task (worker q past) ≡ Some t
      by_runs (inl m) = ap (λ o. or_else o (worker q past)) (ran ∙ m) ∙ a.known
      by_runs (inr m) = ap (λ o. or_else o (worker q past)) (ran ∙ m)

  alone-here : (w : Bool) → deeds.works d.act d.reply ≡ w → d.cpu == q ≡ true → is_switch_reply d.reply ≡ false → (is t d.task && w ≡ true) ⊎ (IsAlone q t past) → IsAlone q t (Acted d ∷ past)
  unfolding worker
  alone-here w same here stays how = record {
    known = rw (here, stays, same) (worker-alone w how);
    runs_it = subst (λ o. (o ≡ None) ⊎ (o ≡ Some t)) (sym (runs-acted q d past ∙ rw here refl)) (runs-alone stays (by_how how));
  }
    where
      by_how : (is t d.task && w ≡ true) ⊎ (IsAlone q t past) → (runs q past ≡ None) ⊎ (runs q past ≡ Some t)
      by_how (inl m) = inr (sym ran ∙ is-some t d.task (both (is t d.task) w m).0)
      by_how (inr a) = a.runs_it

alone-act : (q : ℕ) (d : PastAct) (past : Past) → (d.cpu == q ≡ true → d.task ≡ runs q past) → AreAlone q past → AreAlone q (Acted d ∷ past)
unfolding worker
alone-act q d past ran before t h = by_cpu (d.cpu == q) refl
  where
    by_deed : (s w : Bool) → d.cpu == q ≡ true → is_switch_reply d.reply ≡ s → is t d.task && deeds.works d.act d.reply ≡ w → (if s then false else (if w then true else has_worked t q past)) ≡ true → IsAlone q t (Acted d ∷ past)
    by_deed true w here m n k = cc
    by_deed false true here m n k = alone-here q t d past (ran here) (deeds.works d.act d.reply) refl here m (inl n)
    by_deed false false here m n k = alone-here q t d past (ran here) (deeds.works d.act d.reply) refl here m (inr (before t k))

    by_cpu : (b : Bool) → d.cpu == q ≡ b → IsAlone q t (Acted d ∷ past)
    by_cpu true m = by_deed (is_switch_reply d.reply) (is t d.task && deeds.works d.act d.reply) m refl refl (sym (worked-here t q d past m) ∙ h)
    by_cpu false m =
        let a : IsAlone q t past = before t (sym (worked-other t q d past m) ∙ h) in
        record { known = rw m a.known; runs_it = subst (λ o. (o ≡ None) ⊎ (o ≡ Some t)) (sym (runs-acted q d past ∙ rw m refl)) a.runs_it }

alone : (g : Group) (q : ℕ) {past : Past} → IsReachable g past → AreAlone q past
unfolding worker
alone g q made = by_moves g (AreAlone q) (λ t h. cc) step made
  where
    step : (past : Past) (e : Event) → IsReachable g past → IsMove g past e → AreAlone q past → AreAlone q (e ∷ past)
    step past e made (clock_moves tick) before = λ t h.
        let a : IsAlone q t past = before t (sym (worked-clock t q tick past) ∙ h) in
        record { known = a.known; runs_it = subst (λ o. (o ≡ None) ⊎ (o ≡ Some t)) (sym (runs-clock q tick past)) a.runs_it }
    step past e made (cpu_acts p act) before = alone-act q (past_act g p act past) past ran before
      where
        ran : (past_act g p act past).cpu == q ≡ true → (past_act g p act past).task ≡ runs q past
        ran m = past_act-task g p act past ∙ ap (λ r. runs r past) (eqb-true p q (ap (λ c. c == q) (sym (past_act-cpu g p act past)) ∙ m))

-- so to have worked is to be the worker
pub worked-worker : (g : Group) (t q : ℕ) {past : Past} → IsReachable g past → has_worked t q past ≡ is t (worker q past)
worked-worker g t q {past} made = by_case (has_worked t q past) refl
  where
    by_case : (b : Bool) → has_worked t q past ≡ b → b ≡ is t (worker q past)
    by_case true m = sym (some-is t (worker q past) (alone g q made t m).known)
    by_case false m = sym (unless (is t (worker q past)) (λ k. clash _ (worker-worked t q past k) m))
