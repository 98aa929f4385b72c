-- Through a stretch one critical section delays a job before it begins.
use Rattle.std.proofs.Common.{Bool, [], eqb-true, false, inl, inr, not, refl, subst, sym, true, ℕ, ◌&&◌, ◌∙◌, ◌∷◌, ◌≡◌, ◌⊎◌}
use Rattle.std.specs.Prelude.{None, Option, Some, ◌==◌}
use Rattle.rt_task.specs.Validity.{IsValid}
use Rattle.rt_task.specs.declared.Protocol.TheVariants.{Srp}
use Rattle.rt_rules.specs.Numbers.{has, is, same}
use Rattle.rt_rules.specs.SemState.{Asks}
use Rattle.rt_model.specs.BaseKeys.{above}
use Rattle.rt_model.specs.Group.{Group, home, protocol, tasks}
use Rattle.rt_model.specs.Links.{linked, pending}
use Rattle.rt_model.specs.Outcomes.{past_act}
use Rattle.rt_model.specs.Past.{Event, Past, ends_job, sem_act}
use Rattle.rt_model.specs.Reachable.{IsReachable}
use Rattle.rt_model.specs.Releases.{exists, ready}
use Rattle.rt_model.specs.Runs.{runs}
use Rattle.rt_model.specs.Sleep.{sleeps}
use Rattle.rt_model.specs.StackPolicy.{srp}
use Rattle.rt_model.specs.Tops.{eligible, top}
use Rattle.rt_model.specs.UnderWay.{under_way}
use Rattle.rt_rules.proofs.BoolLaws.{both, clash, either, not_false, not_true, unless}
use Rattle.rt_rules.proofs.MemberLaws.{equal_self, turned}
use Rattle.rt_rules.proofs.PairLaws.{has_pair}
use Rattle.rt_laws.specs.BlockedOnce.{takes_interrupts}
use Rattle.rt_laws.proofs.pcp.BlockedMoves.{taken-before}
use Rattle.rt_laws.proofs.pcp.BlockedOnce.{pair-task}
use Rattle.rt_laws.proofs.GroupLaws.{home-tasks_of}
use Rattle.rt_laws.proofs.jobs.JobLaws.{base_key-keeps}
use Rattle.rt_laws.proofs.links.LinkedTasks.{IsLinked, linked-eligible}
use Rattle.rt_laws.proofs.Moves.{IsMove, by_moves, clock_moves, cpu_acts, moved}
use Rattle.rt_laws.proofs.semaphores.Requests.{asks}
use Rattle.rt_laws.proofs.jobs.Running.{ended-runs}
use Rattle.rt_laws.proofs.srp.SrpState.{IsSrpState, srp-back, srp_state, under_way-back}
use Rattle.rt_laws.proofs.srp.SrpUsers.{IsSrpCluster, top-above}
use Rattle.rt_laws.proofs.ValidSets.{rules_of}
use Rattle.srp_laws.specs.Sections.{awaits_start, delays, entered, is_inside, is_lower, is_no_higher, reaches, was_delayed}
use Rattle.srp_laws.specs.StackLaws.{DelayedOnce}
use Rattle.srp_laws.proofs.AtMoments.{IsReacher, kept-back, not-both, one-reacher, pair-reaches, reacher, reacher-above}

module _ (g : Group) (valid : IsValid g.setup) where
  -- what runs where no interrupt is pending is linked
  runs-linked : {past : Past} → IsReachable g past → (q u : ℕ) → pending g q past ≡ false → runs q past ≡ Some u → IsLinked g q u past
  unfolding pending
  runs-linked {past} made q u none r = linked-eligible g made q u (same_as (linked g q past) (rw r at none))
    where
      same_as : (o : Option ℕ) → not (same o (Some u)) ≡ false → is u o ≡ true
      same_as None h = cc
      same_as (Some x) h = let e : x ≡ u = eqb-true x u (not_false (x == u) h) in rw (e, equal_self u)

  -- a task that asks where interrupts are taken runs, and is linked
  record IsPromptAsk (u : ℕ) (past : Past) : Type 0 where
    cpu : ℕ
    runs_it : runs cpu past ≡ Some u
    links_it : IsLinked g cpu u past

  prompt-ask : {past : Past} {e : Event} → IsReachable g past → IsMove g past e → takes_interrupts g (e ∷ past) ≡ true → (u s : ℕ) → sem_act e ≡ Asks u s → IsPromptAsk u past
  unfolding takes_interrupts past_act
  prompt-ask made (clock_moves tick) h u s k = cc
  prompt-ask {past} made (cpu_acts q a) h u s k =
      let r : runs q past ≡ Some u = (asks g q a past u s k).runs_it in
      let free : not (pending g q past) ≡ true = (both (not (pending g q past)) (takes_interrupts g past) (rw k at h)).0 in
      record { cpu = q; runs_it = r; links_it = runs-linked made q u (not_true _ free) r }

  -- ---- one move of a stretch

  module _ {past : Past} {e : Event} (made : IsReachable g past) (move : IsMove g past e) (t u : ℕ) (there : has t (tasks g) ≡ true) (waits : awaits_start g t past ≡ true) where
    waiting : (ready g t past ≡ true) × (under_way t past ≡ false)
    unfolding awaits_start
    waiting = let w = both (ready g t past) (not (under_way t past)) waits in (w.0, not_true _ w.1)

    t_exists : exists g t past ≡ true
    unfolding ready
    t_exists = (both (exists g t past) (not (sleeps t past)) waiting.0).0

    -- its job does not end, since it does not run
    goes_on : IsSrpState g (home g t) past → ends_job t e ≡ false
    goes_on state = by_move e move
      where
        by_move : (x : Event) → IsMove g past x → ends_job t x ≡ false
        by_move x (clock_moves tick) = refl
        by_move x (cpu_acts q a) = unless _ (λ k. clash _ (state.runs_way q t (ended-runs g q t a past k) refl) waiting.1)

    -- a task that is under way does not await its start
    apart : (v : ℕ) → under_way v past ≡ true → v == t ≡ false
    apart v way = unless _ (λ k. clash _ (rw (eqb-true v t k) at way) waiting.1)

    -- a task that asks and is behind t reaches it already: else t would be linked, or the other that reaches would be ahead of it
    asker-reaches : IsSrpCluster g (home g t) → IsSrpState g (home g t) past → IsPromptAsk u past → home g u ≡ home g t → above g past t u ≡ true → is_no_higher g t u ≡ true → reaches g t u past ≡ true
    asker-reaches cluster state ask at over level = by_case (eligible g t past) refl
      where
        way : under_way u past ≡ true
        way = state.runs_way ask.cpu u ask.runs_it at

        overtaken : eligible g t past ≡ true → ⊥
        overtaken k =
            not-both g valid past t u over
            (top-above g (rules_of g valid) (home g t) cluster past made u t at (subst (λ n. has u (top g n past) ≡ true) at ask.links_it.of_top) refl (home-tasks_of g t there) k (turned t u ∙ apart u way))

        by_other : (v : ℕ) → reaches g t v past ≡ true → (b : Bool) → v == u ≡ b → reaches g t u past ≡ true
        by_other v h true k = subst (λ n. reaches g t n past ≡ true) (eqb-true v u k) h
        by_other v h false k =
            let r : IsReacher g valid t v past = reacher g valid made t v h in
            absurd (not-both g valid past u v (state.ahead ask.cpu u v ask.runs_it at r.at_home r.way k) (reacher-above g valid t v u r at way level (turned u v ∙ k)))

        by_case : (b : Bool) → eligible g t past ≡ b → reaches g t u past ≡ true
        by_case true k = absurd (overtaken k)
        by_case false k = let q = kept-back g valid made t cluster waits k in by_other q.0 q.1 (q.0 == u) refl

    -- ---- who delays t after the move delayed it before

    module _ (prompt : takes_interrupts g (e ∷ past) ≡ true) (r : IsReacher g valid t u (e ∷ past)) where
      state : IsSrpState g (home g t) past
      state = srp_state g (rules_of g valid) (home g t) r.cluster made

      way-before : under_way u past ≡ true
      way-before = split (srp-back g (home g t) u r.sem e past r.pair)
        where
          split : (has_pair u r.sem (srp g (home g t) past) ≡ true) ⊎ (sem_act e ≡ Asks u r.sem) × (home g u ≡ home g t) × (protocol g r.sem ≡ Srp) → under_way u past ≡ true
          split (inl k) = state.holds_way u r.sem k
          split (inr k) = let a : IsPromptAsk u past = prompt-ask made move prompt u r.sem k.0 in state.runs_way a.cpu u a.runs_it k.1

      above-before : above g (e ∷ past) t u ≡ true → above g past t u ≡ true
      unfolding above
      above-before h = rw (base_key-keeps g (rules_of g valid) t e past t_exists (goes_on state), base_key-keeps g (rules_of g valid) u e past (state.started u r.at_home way-before).exists_now (under_way-back u e past r.way).0) at h

      reached-before : above g past t u ≡ true → is_no_higher g t u ≡ true → reaches g t u past ≡ true
      reached-before over level = split (srp-back g (home g t) u r.sem e past r.pair)
        where
          split : (has_pair u r.sem (srp g (home g t) past) ≡ true) ⊎ (sem_act e ≡ Asks u r.sem) × (home g u ≡ home g t) × (protocol g r.sem ≡ Srp) → reaches g t u past ≡ true
          split (inl k) = pair-reaches g valid t u r.sem past k r.under
          split (inr k) = asker-reaches r.cluster state (prompt-ask made move prompt u r.sem k.0) r.at_home over level

    delayed-before : takes_interrupts g (e ∷ past) ≡ true → delays g t u (e ∷ past) ≡ true → delays g t u past ≡ true
    unfolding delays is_lower
    delayed-before prompt h =
        let parts = both (is_lower g t u (e ∷ past)) (reaches g t u (e ∷ past)) h in
        let low = both (home g u == home g t) _ parts.0 in
        let keys = both (above g (e ∷ past) t u) (is_no_higher g t u) low.1 in
        let r : IsReacher g valid t u (e ∷ past) = reacher g valid (moved g made move) t u parts.1 in
        let over : above g past t u ≡ true = above-before prompt r keys.0 in
        rw (low.0, over, keys.1, reached-before prompt r over keys.1)

  -- ---- the stretch

  level-of : (t u : ℕ) (past : Past) → delays g t u past ≡ true → (is_no_higher g t u ≡ true) × (reaches g t u past ≡ true)
  unfolding delays is_lower
  level-of t u past h =
      let parts = both (is_lower g t u past) (reaches g t u past) h in
      let low = both (home g u == home g t) _ parts.0 in
      ((both (above g past t u) (is_no_higher g t u) low.1).1, parts.1)

  -- who delays is in a critical section, which goes on
  same-section : {past : Past} → IsReachable g past → (t u : ℕ) (e : Event) → delays g t u past ≡ true → entered g u (e ∷ past) ≡ entered g u past
  unfolding entered is_inside
  same-section {past} made t u e h =
      let r : IsReacher g valid t u past = reacher g valid made t u (level-of t u past h).1 in
      rw (pair-task u r.sem (srp g (home g u) past) (subst (λ n. has_pair u r.sem (srp g n past) ≡ true) (sym r.at_home) r.pair))

  was-on : (t u n : ℕ) (past : Past) → was_delayed g t u n past ≡ true → awaits_start g t past ≡ true
  unfolding was_delayed
  was-on t u n [] h = cc
  was-on t u n (e ∷ past) h = (both (awaits_start g t (e ∷ past)) _ h).0

  was-cases : (t u n : ℕ) (e : Event) (past : Past) → was_delayed g t u n (e ∷ past) ≡ true → (delays g t u (e ∷ past) && entered g u (e ∷ past) == n ≡ true) ⊎ (was_delayed g t u n past ≡ true)
  unfolding was_delayed
  was-cases t u n e past h = either (delays g t u (e ∷ past) && entered g u (e ∷ past) == n) (was_delayed g t u n past) (both (awaits_start g t (e ∷ past)) _ h).1

  was-here : (t u : ℕ) (past : Past) → awaits_start g t past ≡ true → delays g t u past ≡ true → was_delayed g t u (entered g u past) past ≡ true
  unfolding was_delayed delays reaches srp
  was-here t u [] w h = let k = both (is_lower g t u []) false h in cc
  was-here t u (e ∷ past) w h = rw (w, h, equal_self (entered g u (e ∷ past)))

  abbrev pub IsOnce : Past → Type 0
  IsOnce past = (t u v n m : ℕ) → has t (tasks g) ≡ true → takes_interrupts g past ≡ true → was_delayed g t u n past ≡ true → was_delayed g t v m past ≡ true → (u ≡ v) × (n ≡ m)

  once-step : (past : Past) (e : Event) → IsReachable g past → IsMove g past e → IsOnce past → IsOnce (e ∷ past)
  once-step past e made move before t u v n m there prompt h k = split (was-cases t u n e past h) (was-cases t v m e past k)
    where
      earlier : takes_interrupts g past ≡ true
      earlier = taken-before g e past prompt

      -- what delays now, and has begun with this entry, and what delayed before
      now-was : (x y a b : ℕ) → delays g t x (e ∷ past) && entered g x (e ∷ past) == a ≡ true → was_delayed g t y b past ≡ true → (x ≡ y) × (a ≡ b)
      now-was x y a b now was =
          let q = both (delays g t x (e ∷ past)) (entered g x (e ∷ past) == a) now in
          let on : awaits_start g t past ≡ true = was-on t y b past was in
          let d : delays g t x past ≡ true = delayed-before made move t x there on prompt q.0 in
          let one = before t x y (entered g x past) b there earlier (was-here t x past on d) was in
          (one.0, sym (eqb-true (entered g x (e ∷ past)) a q.1) ∙ same-section made t x e d ∙ one.1)

      now-now : delays g t u (e ∷ past) && entered g u (e ∷ past) == n ≡ true → delays g t v (e ∷ past) && entered g v (e ∷ past) == m ≡ true → (u ≡ v) × (n ≡ m)
      now-now a b =
          let p = both (delays g t u (e ∷ past)) (entered g u (e ∷ past) == n) a in
          let q = both (delays g t v (e ∷ past)) (entered g v (e ∷ past) == m) b in
          let x = level-of t u (e ∷ past) p.0 in
          let y = level-of t v (e ∷ past) q.0 in
          let one : u ≡ v = one-reacher g valid (moved g made move) t u v x.0 y.0 x.1 y.1 in
          (one, sym (eqb-true (entered g u (e ∷ past)) n p.1) ∙ subst (λ w. entered g u (e ∷ past) ≡ entered g w (e ∷ past)) one refl ∙ eqb-true (entered g v (e ∷ past)) m q.1)

      split : (delays g t u (e ∷ past) && entered g u (e ∷ past) == n ≡ true) ⊎ (was_delayed g t u n past ≡ true) → (delays g t v (e ∷ past) && entered g v (e ∷ past) == m ≡ true) ⊎ (was_delayed g t v m past ≡ true) → (u ≡ v) × (n ≡ m)
      split (inl a) (inl b) = now-now a b
      split (inl a) (inr b) = now-was u v n m a b
      split (inr a) (inl b) = let q = now-was v u m n b a in (sym q.0, sym q.1)
      split (inr a) (inr b) = before t u v n m there earlier a b

  once-first : IsOnce []
  unfolding was_delayed
  once-first t u v n m there prompt h k = cc

  pub once : {past : Past} → IsReachable g past → IsOnce past
  once made = by_moves g IsOnce once-first once-step made

pub delayed_once : DelayedOnce
delayed_once g past valid made t u v n m there prompt h k = once g valid made t u v n m there prompt h k
