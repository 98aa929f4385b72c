-- Which tasks are under way after a move.
use Rattle.std.proofs.Common.{◌≡◌, ◌≢◌, ℕ, ◌-◌, ◌<◌, ◌≤◌, Bool, true, false, not, ◌&&◌, ◌||◌, List, [], ◌∷◌, length, get_or, set, eqb-true, refl, sym, ap, ◌∙◌, arith, length-set, get_or-set_same}
use Rattle.std.proofs.Common.{get_or-set_other}
use Rattle.std.specs.Prelude.{Option, None, Some, if◌then◌else◌, ◌==◌, is_some}
use Rattle.rt_base.specs.declared.TaskNo.{TaskNo}
use Rattle.rt_task.specs.declared.Act.{Act}
use Rattle.rt_task.specs.declared.Act.TheVariants as acts
use Rattle.rt_task.specs.declared.Op.{Op}
use Rattle.rt_rules.specs.declared.history.Reply.{Reply}
use Rattle.rt_rules.specs.declared.history.Reply.TheVariants as replies
use Rattle.rt_rules.specs.Numbers.{has, is}
use Rattle.rt_rules.proofs.BoolLaws.{and_false, clash, unless}
use Rattle.rt_rules.proofs.MemberLaws.{equal_self, is-some}
use Rattle.rt_model.specs.Answers.{answer, do_answer}
use Rattle.rt_model.specs.Group.{Group, tasks}
use Rattle.rt_model.specs.Outcomes.{attempt, ended, ended_by, past_act}
use Rattle.rt_model.specs.Past.{PastAct, Event, Acted, Clock, Past, accepted, did, ends_job, operation}
use Rattle.rt_model.specs.Reachable.{IsReachable}
use Rattle.rt_model.specs.Runs.{runs}
use Rattle.rt_model.specs.UnderWay.{is_run, is_sleep, starts, under_way}
use Rattle.rt_model.proofs.AnswerLaws.{answer-runs_irq, to_run}
use Rattle.rt_model.proofs.Steps.{past_act-reply}
use Rattle.rt_task.specs.Validity.{IsValid}
use Rattle.rt_laws.proofs.Moves.{cpu_acts}
use Rattle.rt_laws.proofs.jobs.RefusedJobs.{is_refused, under_way-refused}
use Rattle.rt_laws.proofs.jobs.Running.{ended-runs, running}
use Rattle.rt_laws.proofs.srp.SrpState.{start-is}
use Rattle.rt_laws.proofs.ValidSets.{rules_of}
use Rattle.group_jobs.specs.FactMoves.{with_act}
use Rattle.group_jobs.specs.Ways.{AreWays, WaysAfterAct, WaysAfterClock, WaysAtOpening, started, way_after, way_of, ways_after}
use Rattle.group_jobs.proofs.JobSteps.{did-op}
use Rattle.group_jobs.proofs.KeptMoves.{length-replicated, replicated, task-range}

-- whether a task is under way after an event
way-now : (t : ℕ) (e : Event) (past : Past) → under_way t (e ∷ past) ≡ (not (ends_job t e) && (starts t e || (not (is_sleep (did t e)) && under_way t past)))
unfolding under_way
way-now t e past = refl

-- an act that is no operation and ends nothing starts a task, or leaves all
did-still : (u : ℕ) (d : PastAct) → operation d.act ≡ None → did u (Acted d) ≡ None
did-still u d h = by_case (is u d.task && accepted d.reply)
  where
    by_case : (b : Bool) → (if b then operation d.act else None) ≡ None
    by_case true = h
    by_case false = refl

way-still : (u : ℕ) (d : PastAct) (past : Past) → operation d.act ≡ None → d.ended ≡ None → under_way u (Acted d ∷ past) ≡ (is_run u d.reply || under_way u past)
way-still u d past h k = way-now u (Acted d) past ∙ rw (k, did-still u d h)

stay-ways : (g : Group) (past past' : Past) (ways : List Bool) → AreWays g past ways → ((t : ℕ) → under_way t past' ≡ under_way t past) → AreWays g past' ways
stay-ways g past past' ways w same = record { length_is = w.length_is; ways_are = λ t h. w.ways_are t h ∙ sym (same t) }

-- one task's is new, and those of all others stay
set-ways : (g : Group) (past past' : Past) (ways : List Bool) (t : ℕ) (b : Bool) → AreWays g past ways → has t (tasks g) ≡ true → b ≡ under_way t past' → ((u : ℕ) → u == t ≡ false → under_way u past' ≡ under_way u past) → AreWays g past' (set ways (t - 1) b)
set-ways g past past' ways t b w there new others = record { length_is = length-set _ _ _ ∙ w.length_is; ways_are = each }
  where
    each : (u : ℕ) → has u (tasks g) ≡ true → way_of (set ways (t - 1) b) u ≡ under_way u past'
    each u h = by_case (u == t) refl
      where
        here : u ≡ t → get_or (set ways (t - 1) b) (u - 1) false ≡ under_way u past'
        here e =
            let r = task-range g t there in
            let n : length ways ≡ length g.setup.tasks = w.length_is in
            let inside : t - 1 < length ways = omega (arith, r.0, r.1, n) in
            rw e (get_or-set_same ways (t - 1) b false inside ∙ new)

        there_too : u ≢ t → u == t ≡ false → get_or (set ways (t - 1) b) (u - 1) false ≡ under_way u past'
        there_too ne e =
            let r = task-range g t there in
            let s = task-range g u h in
            let apart : u - 1 ≢ t - 1 = omega (arith, r.0, s.0, ne) in
            get_or-set_other ways (t - 1) (u - 1) b false apart ∙ w.ways_are u h ∙ sym (others u e)

        by_case : (c : Bool) → u == t ≡ c → get_or (set ways (t - 1) b) (u - 1) false ≡ under_way u past'
        by_case true e = here (eqb-true u t e)
        by_case false e = there_too (λ s. let m : t == t ≡ false = rw s at e in clash _ (equal_self t) m) e

pub ways_at_opening : WaysAtOpening
unfolding under_way
ways_at_opening g = record { length_is = length-replicated (length g.setup.tasks) false; ways_are = λ t h. replicated (length g.setup.tasks) (t - 1) false }

pub ways_after_clock : WaysAfterClock
unfolding under_way
ways_after_clock g past valid made tick ways w = stay-ways g past (Clock tick ∷ past) ways w (λ t. refl)

-- ---- an act

started-refused : (r : Reply) (ways : List Bool) → accepted r ≡ false → started r ways ≡ ways
started-refused (replies.Runs t) ways h = cc
started-refused r ways h = refl

after-refused : (act : Act) (o : Option ℕ) (r : Reply) (ends : Bool) (ways : List Bool) → accepted r ≡ false → ways_after act o r ends ways ≡ ways
after-refused acts.Tick o r ends ways h = refl
after-refused acts.Irq o r ends ways h = started-refused r ways h
after-refused (acts.Arrive t) o r ends ways h = refl
after-refused (acts.Do op) None r ends ways h = refl
after-refused (acts.Do op) (Some t) r ends ways h = rw h

none-if : (b : Bool) (o : Option ℕ) → o ≡ None → (if b then o else None) ≡ None
none-if true o h = h
none-if false o h = refl

no_end : (g : Group) (q : ℕ) (act : Act) (past : Past) → operation act ≡ None → (past_act g q act past).ended ≡ None
unfolding past_act ended ended_by
no_end g q acts.Tick past h = none-if (accepted (answer g q acts.Tick past)) (ended_by g acts.Tick (runs q past) (attempt g q acts.Tick past) past) refl
no_end g q acts.Irq past h = none-if (accepted (answer g q acts.Irq past)) (ended_by g acts.Irq (runs q past) (attempt g q acts.Irq past) past) refl
no_end g q (acts.Arrive t) past h = none-if (accepted (answer g q (acts.Arrive t) past)) (ended_by g (acts.Arrive t) (runs q past) (attempt g q (acts.Arrive t) past) past) refl
no_end g q (acts.Do op) past h = cc

run-to : (t : ℕ) (r : Reply) → is_run t r ≡ true → is t (to_run r) ≡ true
run-to t (replies.Runs u) h = h
run-to t r h = cc

-- an act that is no interrupt starts nothing
no_start : (g : Group) (q u : ℕ) (act : Act) (past : Past) → (act ≡ acts.Irq → ⊥) → is_run u (answer g q act past) ≡ false
no_start g q u act past other = unless _ (λ h. other (answer-runs_irq g q u act past (run-to u (answer g q act past) h)))

did-others : (g : Group) (q t u : ℕ) (op : Op) (past : Past) → runs q past ≡ Some t → u == t ≡ false → did u (Acted (past_act g q (acts.Do op) past)) ≡ None
unfolding past_act
did-others g q t u op past r ne = rw (r, ne)

idle-refused : (g : Group) (q : ℕ) (op : Op) (past : Past) → runs q past ≡ None → accepted (answer g q (acts.Do op) past) ≡ false
unfolding answer do_answer
idle-refused g q op past r = rw r

module _ (g : Group) (past : Past) (valid : IsValid g.setup) (made : IsReachable g past) (q : ℕ) (ways : List Bool) (w : AreWays g past ways) where
  still : (act : Act) → operation act ≡ None → (act ≡ acts.Irq → ⊥) → AreWays g (with_act g q act past) ways
  unfolding past_act
  still act h other = stay-ways g past (with_act g q act past) ways w (λ u. way-still u (past_act g q act past) past h (no_end g q act past h) ∙ ap (λ b. b || under_way u past) (no_start g q u act past other))

  irq-ways : (r : Reply) → answer g q acts.Irq past ≡ r → AreWays g (with_act g q acts.Irq past) (started r ways)
  unfolding past_act
  irq-ways r e = by_reply r e
    where
      now : (u : ℕ) → under_way u (with_act g q acts.Irq past) ≡ (is_run u r || under_way u past)
      now u = way-still u (past_act g q acts.Irq past) past refl (no_end g q acts.Irq past refl) ∙ ap (λ x. is_run u x || under_way u past) e

      by_reply : (x : Reply) → answer g q acts.Irq past ≡ x → AreWays g (with_act g q acts.Irq past) (started x ways)
      by_reply (replies.Runs t) k =
          let same : r ≡ replies.Runs t = sym e ∙ k in
          let is_start : starts t.0 (Acted (past_act g q acts.Irq past)) ≡ true = rw k (equal_self t.0) in
          set-ways g past (with_act g q acts.Irq past) ways t.0 true w (start-is g made (cpu_acts q acts.Irq) t.0 is_start).is_linked.member
          (sym (now t.0 ∙ ap (λ x. is_run t.0 x || under_way t.0 past) same ∙ rw (equal_self t.0))) (λ u ne. now u ∙ ap (λ x. is_run u x || under_way u past) same ∙ rw ne)
      by_reply x k = let same : r ≡ x = sym e ∙ k in stay-ways g past (with_act g q acts.Irq past) ways w (λ u. now u ∙ ap (λ y. is_run u y || under_way u past) same)

  op-ways : (t : ℕ) (op : Op) → runs q past ≡ Some t → accepted (answer g q (acts.Do op) past) ≡ true
      → AreWays g (with_act g q (acts.Do op) past) (set ways (t - 1) (way_after (is_some (past_act g q (acts.Do op) past).ended) op (way_of ways t)))
  op-ways t op r a = set-ways g past (with_act g q (acts.Do op) past) ways t _ w member own others
    where
      d : PastAct
      d = past_act g q (acts.Do op) past

      member : has t (tasks g) ≡ true
      member = (running g (rules_of g valid) made q t r).member

      ends-own : (o : Option ℕ) → d.ended ≡ o → is t o ≡ is_some o
      ends-own None e = refl
      ends-own (Some u) e =
          let x : Some u ≡ Some t = sym (ended-runs g q u (acts.Do op) past (rw e (equal_self u))) ∙ r in
          let same : u ≡ t = cc in
          rw same (equal_self t)

      none_starts : (u : ℕ) → starts u (Acted d) ≡ false
      none_starts u = ap (is_run u) (past_act-reply g q (acts.Do op) past) ∙ no_start g q u (acts.Do op) past (λ h. cc)

      own : way_after (is_some d.ended) op (way_of ways t) ≡ under_way t (with_act g q (acts.Do op) past)
      own = sym (way-now t (Acted d) past ∙ rw (ends-own d.ended refl, none_starts t, did-op g q t op past r a, ← w.ways_are t member))

      others : (u : ℕ) → u == t ≡ false → under_way u (with_act g q (acts.Do op) past) ≡ under_way u past
      others u ne = way-now u (Acted d) past ∙ rw (unless _ (λ h. clash _ (let x : Some u ≡ Some t = sym (ended-runs g q u (acts.Do op) past h) ∙ r in let same : u ≡ t = cc in rw same (equal_self t)) ne), none_starts u, did-others g q t u op past r ne)

  refused-ways : (act : Act) → accepted (answer g q act past) ≡ false → AreWays g (with_act g q act past) ways
  refused-ways act a = stay-ways g past (with_act g q act past) ways w (under_way-refused (past_act g q act past) past (is_refused g q act past a))

  accepted-ways : (act : Act) (o : Option ℕ) → runs q past ≡ o → accepted (answer g q act past) ≡ true
      → AreWays g (with_act g q act past) (ways_after act o (answer g q act past) (is_some (past_act g q act past).ended) ways)
  accepted-ways acts.Tick o r a = still acts.Tick refl (λ h. cc)
  accepted-ways acts.Irq o r a = irq-ways (answer g q acts.Irq past) refl
  accepted-ways (acts.Arrive t) o r a = still (acts.Arrive t) refl (λ h. cc)
  accepted-ways (acts.Do op) None r a = absurd (clash _ a (idle-refused g q op past r))
  accepted-ways (acts.Do op) (Some t) r a = rw a (op-ways t op r a)

  act-ways : (act : Act) (b : Bool) → accepted (answer g q act past) ≡ b
      → AreWays g (with_act g q act past) (ways_after act (runs q past) (answer g q act past) (is_some (past_act g q act past).ended) ways)
  act-ways act true a = accepted-ways act (runs q past) refl a
  act-ways act false a = rw (after-refused act (runs q past) (answer g q act past) (is_some (past_act g q act past).ended) ways a) (refused-ways act a)

pub ways_after_act : WaysAfterAct
ways_after_act g past valid made q act ways w = act-ways g past valid made q ways w act (accepted (answer g q act past)) refl
