-- What runs has a job that neither sleeps nor waits.
use Rattle.std.proofs.Common.{Bool, eqb-true, false, inl, inr, not, refl, subst, sym, true, ℕ, ◌&&◌, ◌||◌, ◌∷◌, ◌≡◌, ◌⊎◌}
use Rattle.std.specs.Prelude.{None, Option, Some, if◌then◌else◌, is_none, is_some, ◌==◌}
use Rattle.rt_task.specs.declared.Act.TheVariants as acts
use Rattle.rt_task.specs.declared.Act.{Act}
use Rattle.rt_task.specs.declared.Op.TheVariants as ops
use Rattle.rt_task.specs.declared.Op.{Op}
use Rattle.rt_rules.specs.declared.history.Reply.TheVariants as replies
use Rattle.rt_rules.specs.declared.history.Reply.{Reply}
use Rattle.rt_rules.specs.Numbers.{has, is}
use Rattle.rt_rules.specs.SemState.{Asks}
use Rattle.rt_model.specs.Answers.{answer, is_granted}
use Rattle.rt_model.specs.Group.{Group, cluster_with, home, processors, protocol, sems, tasks}
use Rattle.rt_model.specs.Holders.{awaits, sem_state}
use Rattle.rt_model.specs.Links.{runs_of}
use Rattle.rt_model.specs.Reachable.{IsReachable}
use Rattle.rt_model.specs.Outcomes.{attempt, ended, ended_by, past_act}
use Rattle.rt_model.specs.Past.{Acted, Clock, Event, Past, PastAct, accepted, did, ends_job, now, operation, sem_act}
use Rattle.rt_model.specs.Releases.{exists, ready}
use Rattle.rt_model.specs.Runs.{leaves, runs, runs_after, runs_by}
use Rattle.rt_model.specs.Sleep.{sleep_end, sleeps}
use Rattle.rt_model.specs.Tops.{eligible, is_admitted, is_served}
use Rattle.rt_rules.proofs.BoolLaws.{both, clash, neither, not_true, unless}
use Rattle.rt_rules.proofs.MemberLaws.{equal_self, is-some, some-is, none-is}
use Rattle.rt_model.proofs.AnswerLaws.{answer-runs_link, to_run}
use Rattle.rt_model.proofs.PastLaws.{one_processor, processor-home, single}
use Rattle.rt_model.proofs.Steps.{past_act-cpu, runs-acted}
use Rattle.rt_laws.proofs.jobs.JobLaws.{awake-keeps, exists-keeps}
use Rattle.rt_laws.proofs.links.LinkedTasks.{IsLinked, linked-eligible}
use Rattle.rt_laws.proofs.Moves.{IsMove, by_moves, clock_moves, cpu_acts}
use Rattle.rt_laws.proofs.semaphores.Requests.{IsAsk, asks}
use Rattle.rt_laws.proofs.Rules.{MeetsRules}
use Rattle.rt_laws.proofs.semaphores.Waiting.{waiting-step, waits-none}

-- what is known of a task that a processor runs
pub record IsRunning (g : Group) (q t : ℕ) (past : Past) : Type 0 where
  pub at_home : cluster_with g q ≡ home g t
  pub placed : has q (processors g (home g t)) ≡ true
  pub member : has t (tasks g) ≡ true
  pub exists_now : exists g t past ≡ true
  pub awake : sleeps t past ≡ false
  pub waits_none : (s : ℕ) → has s (sems g) ≡ true → has t (sem_state g s past).waiting ≡ false

-- an act ends a job of no task but the one that runs
pub ended-runs : (g : Group) (q t : ℕ) (act : Act) (past : Past) → is t (past_act g q act past).ended ≡ true → runs q past ≡ Some t
unfolding past_act ended ended_by
ended-runs g q t act past h = by_case (accepted (answer g q act past)) h
  where
    by_force : (b : Bool) (u : ℕ) → is t (if b then Some u else None) ≡ true → Some u ≡ Some t
    by_force true u k = is-some t (Some u) k
    by_force false u k = cc

    by_op : (op : Op) (o : Option ℕ) → is t (ended_by g (acts.Do op) o (attempt g q act past) past) ≡ true → o ≡ Some t
    by_op ops.End o k = is-some t o k
    by_op op None k = cc
    by_op op (Some u) k = by_force _ u k

    by_act : (a : Act) (o : Option ℕ) → is t (ended_by g a o (attempt g q act past) past) ≡ true → o ≡ Some t
    by_act acts.Tick o k = cc
    by_act acts.Irq o k = cc
    by_act (acts.Arrive u) o k = cc
    by_act (acts.Do op) o k = by_op op o k

    by_case : (b : Bool) → is t (if b then ended_by g act (runs q past) (attempt g q act past) past else None) ≡ true → runs q past ≡ Some t
    by_case true k = by_act act (runs q past) k
    by_case false k = cc

-- what goes on running: its job does not end, and it neither sleeps nor waits from now on
running-keeps : (g : Group) → MeetsRules g → (q t : ℕ) (e : Event) (past : Past) → IsRunning g q t past → ends_job t e ≡ false → sleep_end (now past) (did t e) ≡ 0 → ((s : ℕ) → sem_act e ≡ Asks t s → is_granted g (protocol g s) s t past ≡ true) → IsRunning g q t (e ∷ past)
running-keeps g rules q t e past r stays awake passes = record {
  at_home = r.at_home;
  placed = r.placed;
  member = r.member;
  exists_now = exists-keeps g rules t e past r.exists_now stays;
  awake = awake-keeps t e past r.awake awake;
  waits_none = λ s there. unless _ (λ h. split s there (waiting-step g rules t s e past h));
}
  where
    split : (s : ℕ) → has s (sems g) ≡ true → (has t (sem_state g s past).waiting ≡ true) ⊎ (sem_act e ≡ Asks t s) × (is_granted g (protocol g s) s t past ≡ false) → ⊥
    split s there (inl k) = clash _ k (r.waits_none s there)
    split s there (inr k) = clash _ (passes s k.0) k.1

eligible-running : (g : Group) (q t : ℕ) (past : Past) → IsLinked g q t past → IsRunning g q t past
unfolding eligible ready
eligible-running g q t past l =
    let parts = both (ready g t past) (is_none (awaits g t past) && (is_served g g.setup.plugin t past && is_admitted g g.setup.plugin t past)) l.was_eligible in
    let there = both (exists g t past) (not (sleeps t past)) parts.0 in
    let free = both (is_none (awaits g t past)) (is_served g g.setup.plugin t past && is_admitted g g.setup.plugin t past) parts.1 in
    record {
      at_home = l.at_home;
      placed = l.placed;
      member = l.member;
      exists_now = there.0;
      awake = not_true (sleeps t past) there.1;
      waits_none = waits-none g t past (none-is (awaits g t past) free.0);
    }

-- a task runs on one processor
pub runs_once : (g : Group) {past : Past} → IsReachable g past → (p q t : ℕ) → IsRunning g p t past → IsRunning g q t past → runs p past ≡ Some t → runs q past ≡ Some t → p ≡ q
unfolding runs_of
runs_once g {past} made p q t rp rq hp hq = one_processor t p q (λ r. runs r past) (processors g (home g t)) (single g (home g t) (processor-home g (home g t)) made).runs_distinct rp.placed rq.placed (some-is t (runs p past) hp) (some-is t (runs q past) hq)

did-other : (g : Group) (q t : ℕ) (act : Act) (past : Past) → is t (runs q past) ≡ false → did t (Acted (past_act g q act past)) ≡ None
unfolding past_act
did-other g q t act past h = rw h

-- an operation after which its task goes on running is no sleep
no_sleep : (t clock : ℕ) (d : PastAct) → leaves d.act d.reply ≡ false → sleep_end clock (did t (Acted d)) ≡ 0
no_sleep t clock d h = by_case (is t d.task) (accepted d.reply) refl
  where
    by_op : (op : Op) → accepted d.reply ≡ true → leaves (acts.Do op) d.reply ≡ false → sleep_end clock (Some op) ≡ 0
    by_op ops.Work a k = refl
    by_op (ops.Lock n) a k = refl
    by_op (ops.Unlock n) a k = refl
    by_op (ops.Sleep n) a k = absurd (clash _ a k)
    by_op ops.NpOn a k = refl
    by_op ops.NpOff a k = refl
    by_op ops.End a k = refl

    by_act : (a : Act) → accepted d.reply ≡ true → leaves a d.reply ≡ false → sleep_end clock (operation a) ≡ 0
    by_act acts.Tick a k = refl
    by_act acts.Irq a k = refl
    by_act (acts.Arrive u) a k = refl
    by_act (acts.Do op) a k = by_op op a k

    by_case : (b c : Bool) → accepted d.reply ≡ c → sleep_end clock (if b && c then operation d.act else None) ≡ 0
    by_case true true a = by_act d.act a h
    by_case true false a = refl
    by_case false c a = refl

not_queued : (g : Group) (q t s : ℕ) (act : Act) (past : Past) → leaves act (answer g q act past) ≡ false → IsAsk g q act past t s → is_granted g (protocol g s) s t past ≡ true
not_queued g q t s act past h a = by_case (is_granted g (protocol g s) s t past) refl
  where
    queued : (b : Bool) → leaves (acts.Do (ops.Lock a.number)) (if b then replies.Granted else replies.Queued) ≡ false → b ≡ true
    queued true k = refl
    queued false k = cc

    by_case : (b : Bool) → is_granted g (protocol g s) s t past ≡ b → b ≡ true
    by_case b e = queued b (rw (a.reply, a.is_lock, e) at h)

pub runs_after-cases : (t : ℕ) (d : PastAct) (before : Option ℕ) → runs_after d before ≡ Some t → (is_some d.ended ≡ false) × (leaves d.act d.reply ≡ false) × ((before ≡ Some t) ⊎ (is t (to_run d.reply) ≡ true))
runs_after-cases t d before h = by_case (is_some d.ended || leaves d.act d.reply) refl h
  where
    of_reply : (r : Reply) → runs_by r before ≡ Some t → (before ≡ Some t) ⊎ (is t (to_run r) ≡ true)
    of_reply (replies.Runs u) k = inr (some-is t (Some u.0) k)
    of_reply replies.Idles k = cc
    of_reply _ k = inl k

    by_case : (b : Bool) → is_some d.ended || leaves d.act d.reply ≡ b → (if b then None else runs_by d.reply before) ≡ Some t → (is_some d.ended ≡ false) × (leaves d.act d.reply ≡ false) × ((before ≡ Some t) ⊎ (is t (to_run d.reply) ≡ true))
    by_case true e k = cc
    by_case false e k = let n = neither (is_some d.ended) (leaves d.act d.reply) e in (n.0, n.1, of_reply d.reply k)

not_ended : (t : ℕ) (o : Option ℕ) → is_some o ≡ false → is t o ≡ false
not_ended t None h = refl
not_ended t (Some u) h = cc

running-here : (g : Group) → MeetsRules g → {past : Past} → IsReachable g past → ((q t : ℕ) → runs q past ≡ Some t → IsRunning g q t past) → (p t : ℕ) (act : Act) → runs_after (past_act g p act past) (runs p past) ≡ Some t → IsRunning g p t (Acted (past_act g p act past) ∷ past)
unfolding past_act
running-here g rules {past} made before p t act h =
    running-keeps g rules p t (Acted (past_act g p act past)) past (base facts.2) (not_ended t (past_act g p act past).ended facts.0) (no_sleep t (now past) (past_act g p act past) facts.1) (λ s k. not_queued g p t s act past facts.1 (asks g p act past t s k))
  where
    facts : (is_some (past_act g p act past).ended ≡ false) × (leaves (past_act g p act past).act (past_act g p act past).reply ≡ false) × ((runs p past ≡ Some t) ⊎ (is t (to_run (past_act g p act past).reply) ≡ true))
    facts = runs_after-cases t (past_act g p act past) (runs p past) h

    base : (runs p past ≡ Some t) ⊎ (is t (to_run (past_act g p act past).reply) ≡ true) → IsRunning g p t past
    base (inl m) = before p t m
    base (inr m) = eligible-running g p t past (linked-eligible g made p t (answer-runs_link g p t act past m))

running-other : (g : Group) → MeetsRules g → {past : Past} → IsReachable g past → ((q t : ℕ) → runs q past ≡ Some t → IsRunning g q t past) → (q t p : ℕ) (act : Act) → p == q ≡ false → runs q past ≡ Some t → IsRunning g q t (Acted (past_act g p act past) ∷ past)
running-other g rules {past} made before q t p act e h =
    running-keeps g rules q t (Acted (past_act g p act past)) past (before q t h) (unless _ (λ k. not_there (ended-runs g p t act past k))) (rw (did-other g p t act past elsewhere)) (λ s k. absurd (not_there (asks g p act past t s k).runs_it))
  where
    not_there : runs p past ≡ Some t → ⊥
    not_there k = let same : p ≡ q = runs_once g made p q t (before p t k) (before q t h) k h in let m : q == q ≡ false = rw same at e in let n = equal_self q in cc

    elsewhere : is t (runs p past) ≡ false
    elsewhere = unless _ (λ k. not_there (is-some t (runs p past) k))

running-acted : (g : Group) → MeetsRules g → {past : Past} → IsReachable g past → ((q t : ℕ) → runs q past ≡ Some t → IsRunning g q t past) → (q t p : ℕ) (act : Act) → runs q (Acted (past_act g p act past) ∷ past) ≡ Some t → IsRunning g q t (Acted (past_act g p act past) ∷ past)
running-acted g rules {past} made before q t p act h = by_case (p == q) refl (rw (runs-acted, past_act-cpu) at h)
  where
    by_case : (b : Bool) → p == q ≡ b → (if b then runs_after (past_act g p act past) (runs q past) else runs q past) ≡ Some t → IsRunning g q t (Acted (past_act g p act past) ∷ past)
    by_case true e k =
        let same : p ≡ q = eqb-true p q e in
        let m : runs_after (past_act g p act past) (runs p past) ≡ Some t = subst (λ n. runs_after (past_act g p act past) (runs n past) ≡ Some t) (sym same) k in
        let r : IsRunning g p t (Acted (past_act g p act past) ∷ past) = running-here g rules made before p t act m in
        subst (λ n. IsRunning g n t (Acted (past_act g p act past) ∷ past)) same r
    by_case false e k = running-other g rules made before q t p act e k

-- whatever runs is as `IsRunning` says
abbrev AllRun : Group → Past → Type 0
AllRun g past = (q t : ℕ) → runs q past ≡ Some t → IsRunning g q t past

running-step : (g : Group) → MeetsRules g → (past : Past) (e : Event) → IsReachable g past → IsMove g past e → AllRun g past → AllRun g (e ∷ past)
unfolding runs
running-step g rules past e made (clock_moves tick) before q t h = running-keeps g rules q t (Clock tick) past (before q t h) refl refl (λ s k. cc)
running-step g rules past e made (cpu_acts p a) before q t h = running-acted g rules made before q t p a h

-- so it is after every move
pub running : (g : Group) → MeetsRules g → {past : Past} → IsReachable g past → AllRun g past
unfolding runs
running g rules made = by_moves g (AllRun g) (λ q t h. cc) (running-step g rules) made
