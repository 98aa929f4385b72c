-- SRP: what is kept of a cluster whose tasks use SRP semaphores, and that a task which asks for one finds it free.
--
-- While a task holds, it is under way and its key stays, so that no task of a lower key is linked. A task that is under way was so when
-- another took a semaphore, and then the other has the higher key; or it started later, and passed the test.
use Rattle.std.proofs.Common.{Bool, [], ap, arith, false, inl, inr, not, refl, subst, sym, true, ℕ, ◌&&◌, ◌||◌, ◌∙◌, ◌∷◌, ◌≡◌, ◌⊎◌, eqb-true}
use Rattle.std.specs.List.{list_all}
use Rattle.std.specs.Prelude.{None, Option, Some, if◌then◌else◌, is_none, is_some, nat_le, nat_lt, length, ◌==◌}
use Rattle.rt_base.specs.declared.TheConstants.{MOST_HELD, TICK_END}
use Rattle.rt_task.specs.declared.Act.TheVariants as acts
use Rattle.rt_task.specs.declared.Act.{Act}
use Rattle.rt_task.specs.declared.Op.TheVariants as ops
use Rattle.rt_task.specs.declared.Op.{Op}
use Rattle.rt_task.specs.declared.PluginKind.TheVariants as plugins
use Rattle.rt_task.specs.declared.PluginKind.{PluginKind}
use Rattle.rt_task.specs.declared.Protocol.TheVariants.{Srp}
use Rattle.rt_task.specs.declared.Protocol.{Protocol}
use Rattle.rt_rules.specs.declared.history.Reply.TheVariants as replies
use Rattle.rt_rules.specs.declared.history.Reply.{Reply}
use Rattle.rt_rules.specs.Numbers.{first, has, is, is_empty}
use Rattle.rt_rules.specs.Pcp.{TaskSem, of_others, of_sem}
use Rattle.rt_rules.specs.SemState.{Asks, Neither, SemState}
use Rattle.rt_rules.specs.Srp.{srp_sem_state}
use Rattle.rt_model.specs.Answers.{answer, nests}
use Rattle.rt_model.specs.BaseKeys.{above}
use Rattle.rt_model.specs.Group.{Group, home, processors, protocol, sems, task, tasks, tasks_of, users, first_cpu, cpus}
use Rattle.rt_model.specs.Holders.{awaits, holder, holds, sem_state, sem_state_by}
use Rattle.rt_model.specs.Outcomes.{attempt, is_spent, past_act}
use Rattle.rt_model.specs.Past.{Acted, Event, Past, PastAct, accepted, did, ends_job, now, operation, sem_act}
use Rattle.rt_model.specs.Reachable.{IsReachable}
use Rattle.rt_model.specs.Releases.{exists, ready}
use Rattle.rt_model.specs.Runs.{leaves, runs, runs_after, runs_by}
use Rattle.rt_model.specs.Semaphores.{cluster_of}
use Rattle.rt_model.specs.Sleep.{sleep_end, sleeps}
use Rattle.rt_model.specs.StackPolicy.{has_srp, is_srp, passes_srp, srp, srp_at, srp_ceiling}
use Rattle.rt_model.specs.Tops.{eligible, is_admitted, is_served, top}
use Rattle.rt_model.specs.UnderWay.{is_run, is_sleep, starts, under_way}
use Rattle.rt_rules.proofs.BoolLaws.{both, clash, either, neither, not_true, or_true, unless}
use Rattle.rt_rules.proofs.MemberLaws.{equal_self, is-some, turned}
use Rattle.rt_rules.proofs.NumberLaws.{has-numbers_from, numbers_from-below}
use Rattle.rt_rules.proofs.PairLaws.{has_pair}
use Rattle.rt_rules.proofs.PcpLaws.{passes-above_ceiling}
use Rattle.rt_rules.proofs.SrpLaws.{IsHeldOnce, least-of, srp-first, srp-held}
use Rattle.rt_model.proofs.AnswerLaws.{answer-runs_irq, answer-runs_link, to_run}
use Rattle.rt_model.proofs.Steps.{past_act-cpu, runs-acted, runs-clock}
use Rattle.rt_laws.proofs.semaphores.Asked.{IsAsked, asked}
use Rattle.rt_laws.proofs.semaphores.AtSem.{srp_at-asks}
use Rattle.rt_laws.proofs.jobs.BaseKeyLaws.{above-strict}
use Rattle.rt_laws.proofs.jobs.Endings.{end-holds_nothing, ended-how, holder-sem_act, same_request, sleep-holds_nothing, spent-facts}
use Rattle.rt_laws.proofs.jobs.Engaged.{IsKept}
use Rattle.rt_laws.proofs.GroupLaws.{home-tasks_of, user-home, user-task}
use Rattle.rt_laws.proofs.semaphores.Holding.{holds-none, holds-one}
use Rattle.rt_laws.proofs.jobs.JobLaws.{awake-keeps, base_key-keeps, exists-keeps}
use Rattle.rt_laws.proofs.links.LinkedTasks.{IsLinked, linked-eligible}
use Rattle.rt_laws.proofs.Moves.{IsMove, by_moves, clock_moves, cpu_acts, moved}
use Rattle.rt_laws.proofs.pcp.PcpState.{pcp_kept}
use Rattle.rt_laws.proofs.semaphores.Requests.{IsAsk, asks}
use Rattle.rt_laws.proofs.Rules.{MeetsRules}
use Rattle.rt_laws.proofs.jobs.Running.{ended-runs, running, runs_after-cases}
use Rattle.rt_laws.proofs.srp.SrpUsers.{IsSrpCluster, awaits-none, srp_cluster, top-above}

-- ---- who holds is a user, at home in the cluster

pub record IsSrpUser (g : Group) (c t s : ℕ) : Type 0 where
  pub user : has t (users g s) ≡ true
  pub at_home : home g t ≡ c
  pub of_srp : protocol g s ≡ Srp

pub is_srp-is : (p : Protocol) → is_srp p ≡ true → p ≡ Srp
is_srp-is Srp h = refl
is_srp-is p h = cc

abbrev AllSrpUsers : Group → ℕ → Past → Type 0
AllSrpUsers g c past = (t s : ℕ) → has_pair t s (srp g c past) ≡ true → IsSrpUser g c t s

-- who holds after an event held before it, or asks in it
pub srp-back : (g : Group) (c t s : ℕ) (e : Event) (past : Past) → has_pair t s (srp g c (e ∷ past)) ≡ true → (has_pair t s (srp g c past) ≡ true) ⊎ (sem_act e ≡ Asks t s) × (home g t ≡ c) × (protocol g s ≡ Srp)
unfolding srp
srp-back g c t s e past h = split (srp-held t s (srp_at g c (sem_act e)) (srp g c past) h)
  where
    split : (has_pair t s (srp g c past) ≡ true) ⊎ (srp_at g c (sem_act e) ≡ Asks t s) → (has_pair t s (srp g c past) ≡ true) ⊎ (sem_act e ≡ Asks t s) × (home g t ≡ c) × (protocol g s ≡ Srp)
    split (inl k) = inl k
    split (inr k) = let q = srp_at-asks g c t s (sem_act e) k in inr (q.0, q.1, is_srp-is (protocol g s) q.2)

pub srp_users : (g : Group) → MeetsRules g → (c : ℕ) {past : Past} → IsReachable g past → AllSrpUsers g c past
unfolding srp
srp_users g rules c made = by_moves g (AllSrpUsers g c) (λ t s h. cc) (λ past e made move before t s h. step past e made move before t s (srp-back g c t s e past h)) made
  where
    step : (past : Past) (e : Event) → IsReachable g past → IsMove g past e → AllSrpUsers g c past → (t s : ℕ) → (has_pair t s (srp g c past) ≡ true) ⊎ (sem_act e ≡ Asks t s) × (home g t ≡ c) × (protocol g s ≡ Srp) → IsSrpUser g c t s
    step past e made move before t s (inl k) = before t s k
    step past e made move before t s (inr k) = record { user = (asked g rules made move t s k.0).user; at_home = k.1; of_srp = k.2 }

-- ---- when a task is under way after an event

pub under_way-back : (t : ℕ) (e : Event) (past : Past) → under_way t (e ∷ past) ≡ true → (ends_job t e ≡ false) × ((starts t e ≡ true) ⊎ (is_sleep (did t e) ≡ false) × (under_way t past ≡ true))
unfolding under_way
under_way-back t e past h =
    let q = both (not (ends_job t e)) (starts t e || (not (is_sleep (did t e)) && under_way t past)) h in
    (not_true (ends_job t e) q.0, split (either (starts t e) (not (is_sleep (did t e)) && under_way t past) q.1))
  where
    split : (starts t e ≡ true) ⊎ (not (is_sleep (did t e)) && under_way t past ≡ true) → (starts t e ≡ true) ⊎ (is_sleep (did t e) ≡ false) × (under_way t past ≡ true)
    split (inl k) = inl k
    split (inr k) = let q = both (not (is_sleep (did t e))) (under_way t past) k in inr (not_true (is_sleep (did t e)) q.0, q.1)

pub under_way-on : (t : ℕ) (e : Event) (past : Past) → under_way t past ≡ true → ends_job t e ≡ false → is_sleep (did t e) ≡ false → under_way t (e ∷ past) ≡ true
unfolding under_way
under_way-on t e past h ends awake = rw (h, ends, awake) (or_true (starts t e))

pub under_way-starts : (t : ℕ) (e : Event) (past : Past) → starts t e ≡ true → ends_job t e ≡ false → under_way t (e ∷ past) ≡ true
unfolding under_way
under_way-starts t e past h ends = rw (h, ends)

-- an operation that is no Sleep takes no sleep further
sleepless : (clock : ℕ) (o : Option Op) → is_sleep o ≡ false → sleep_end clock o ≡ 0
sleepless clock None h = refl
sleepless clock (Some ops.Work) h = refl
sleepless clock (Some (ops.Lock s)) h = refl
sleepless clock (Some (ops.Unlock s)) h = refl
sleepless clock (Some (ops.Sleep n)) h = cc
sleepless clock (Some ops.NpOn) h = refl
sleepless clock (Some ops.NpOff) h = refl
sleepless clock (Some ops.End) h = refl

-- an operation after which its task goes on running is no Sleep
no_sleep : (t : ℕ) (d : PastAct) → leaves d.act d.reply ≡ false → is_sleep (did t (Acted d)) ≡ false
no_sleep t d h = by_case (is t d.task) (accepted d.reply) refl
  where
    by_op : (op : Op) → accepted d.reply ≡ true → leaves (acts.Do op) d.reply ≡ false → is_sleep (Some op) ≡ false
    by_op ops.Work a k = refl
    by_op (ops.Lock n) a k = refl
    by_op (ops.Unlock n) a k = refl
    by_op (ops.Sleep n) a k = absurd (clash _ a k)
    by_op ops.NpOn a k = refl
    by_op ops.NpOff a k = refl
    by_op ops.End a k = refl

    by_act : (a : Act) → accepted d.reply ≡ true → leaves a d.reply ≡ false → is_sleep (operation a) ≡ false
    by_act acts.Tick a k = refl
    by_act acts.Irq a k = refl
    by_act (acts.Arrive u) a k = refl
    by_act (acts.Do op) a k = by_op op a k

    by_case : (b c : Bool) → accepted d.reply ≡ c → is_sleep (if b && c then operation d.act else None) ≡ false
    by_case true true a = by_act d.act a h
    by_case true false a = refl
    by_case false c a = refl

-- an act that puts a task to sleep is an accepted Sleep of that task
sleep-by : (g : Group) (q t : ℕ) (act : Act) (past : Past) → (is_sleep (did t (Acted (past_act g q act past))) ≡ false) ⊎ ((n : ℕ) × (act ≡ acts.Do (ops.Sleep n)) × (accepted (answer g q act past) ≡ true) × (runs q past ≡ Some t))
unfolding past_act
sleep-by g q t act past = by_case (is t (runs q past)) refl (accepted (answer g q act past))
  where
    by_op : (op : Op) → runs q past ≡ Some t → (is_sleep (Some op) ≡ false) ⊎ ((n : ℕ) × (acts.Do op ≡ acts.Do (ops.Sleep n)) × (true ≡ true) × (runs q past ≡ Some t))
    by_op ops.Work r = inl refl
    by_op (ops.Lock n) r = inl refl
    by_op (ops.Unlock n) r = inl refl
    by_op (ops.Sleep n) r = inr (n, refl, refl, r)
    by_op ops.NpOn r = inl refl
    by_op ops.NpOff r = inl refl
    by_op ops.End r = inl refl

    by_act : (a : Act) → runs q past ≡ Some t → (is_sleep (operation a) ≡ false) ⊎ ((n : ℕ) × (a ≡ acts.Do (ops.Sleep n)) × (true ≡ true) × (runs q past ≡ Some t))
    by_act acts.Tick r = inl refl
    by_act acts.Irq r = inl refl
    by_act (acts.Arrive u) r = inl refl
    by_act (acts.Do op) r = by_op op r

    by_case : (b : Bool) → is t (runs q past) ≡ b → (c : Bool) → (is_sleep (if b && c then operation act else None) ≡ false) ⊎ ((n : ℕ) × (act ≡ acts.Do (ops.Sleep n)) × (c ≡ true) × (runs q past ≡ Some t))
    by_case true e true = by_act act (is-some t (runs q past) e)
    by_case true e false = inl refl
    by_case false e c = inl refl

-- ---- an event that starts a task

did-irq : (u : ℕ) (d : PastAct) → d.act ≡ acts.Irq → did u (Acted d) ≡ None
did-irq u d h = rw h (by_case (is u d.task && accepted d.reply))
  where
    by_case : (b : Bool) → (if b then operation acts.Irq else None) ≡ None
    by_case true = refl
    by_case false = refl

sem_act-irq : (d : PastAct) → d.act ≡ acts.Irq → sem_act (Acted d) ≡ Neither
sem_act-irq d h = rw h (by_case (accepted d.reply))
  where
    by_case : (b : Bool) → (if b then Neither else Neither) ≡ Neither
    by_case true = refl
    by_case false = refl

is_run-to : (t : ℕ) (r : Reply) → is_run t r ≡ true → is t (to_run r) ≡ true
is_run-to t (replies.Runs u) h = h
is_run-to t r h = cc

to_run-is : (t : ℕ) (r : Reply) → is t (to_run r) ≡ true → is_run t r ≡ true
to_run-is t (replies.Runs u) h = h
to_run-is t r h = cc

-- its processor was linked to it, and no operation was done
pub record IsStart (g : Group) (t : ℕ) (e : Event) (past : Past) : Type 0 where
  pub cpu : ℕ
  pub is_linked : IsLinked g cpu t past
  pub quiet : (u : ℕ) → did u e ≡ None
  pub no_request : sem_act e ≡ Neither

pub start-is : (g : Group) {past : Past} {e : Event} → IsReachable g past → IsMove g past e → (t : ℕ) → starts t e ≡ true → IsStart g t e past
unfolding past_act
start-is g made (clock_moves tick) t h = cc
start-is g {past} made (cpu_acts p a) t h =
    let r : is t (to_run (answer g p a past)) ≡ true = is_run-to t (answer g p a past) h in
    let irq : a ≡ acts.Irq = answer-runs_irq g p t a past r in
    record {
      cpu = p;
      is_linked = linked-eligible g made p t (answer-runs_link g p t a past r);
      quiet = λ u. did-irq u (past_act g p a past) irq;
      no_request = sem_act-irq (past_act g p a past) irq;
    }

-- ---- the cluster has one processor

one_processor-here : (g : Group) (c p q : ℕ) → cpus g c ≡ 1 → has p (processors g c) ≡ true → has q (processors g c) ≡ true → p ≡ q
unfolding processors
one_processor-here g c p q one hp hq = omega (arith, one, has-numbers_from p (first_cpu g c) (cpus g c) hp, has-numbers_from q (first_cpu g c) (cpus g c) hq, numbers_from-below p (first_cpu g c) (cpus g c) hp, numbers_from-below q (first_cpu g c) (cpus g c) hq)

not_ended : (t : ℕ) (o : Option ℕ) → is_some o ≡ false → is t o ≡ false
not_ended t None h = refl
not_ended t (Some u) h = cc

-- what is known of a task that a processor runs after an event
pub record HasRun (g : Group) (c t : ℕ) (e : Event) (past : Past) (q : ℕ) : Type 0 where
  pub stays : ends_job t e ≡ false
  pub awake : is_sleep (did t e) ≡ false
  pub alone : (u : ℕ) → home g u ≡ c → starts u e ≡ true → u ≡ t
  pub how : (starts t e ≡ true) ⊎ (runs q past ≡ Some t)

runs_by-run : (u : ℕ) (r : Reply) (o : Option ℕ) → is u (to_run r) ≡ true → runs_by r o ≡ Some u
runs_by-run u (replies.Runs v) o h = is-some u (Some v.0) h
runs_by-run u r o h = cc

some-same : (t u : ℕ) → Some t ≡ Some u → t ≡ u
some-same t u h = cc

runs_after-is : (d : PastAct) (o : Option ℕ) → is_some d.ended ≡ false → leaves d.act d.reply ≡ false → runs_after d o ≡ runs_by d.reply o
runs_after-is d o h k = rw (h, k)

pub has_run : (g : Group) → MeetsRules g → (c : ℕ) → IsSrpCluster g c → {past : Past} {e : Event} → IsReachable g past → IsMove g past e → (q t : ℕ) → runs q (e ∷ past) ≡ Some t → home g t ≡ c → HasRun g c t e past q
unfolding past_act
has_run g rules c cluster {past} made (clock_moves tick) q t h at = record { stays = refl; awake = refl; alone = λ u k s. cc; how = inr (sym (runs-clock q tick past) ∙ h) }
has_run g rules c cluster {past} made (cpu_acts p a) q t h at = by_case (p == q) refl (rw (runs-acted, past_act-cpu) at h)
  where
    d : PastAct
    d = past_act g p a past

    starts-runs : (u : ℕ) → starts u (Acted d) ≡ true → is u (to_run d.reply) ≡ true
    starts-runs u k = is_run-to u d.reply k

    here : runs_after d (runs p past) ≡ Some t → HasRun g c t (Acted d) past p
    here k =
        let facts = runs_after-cases t d (runs p past) k in
        record {
          stays = not_ended t d.ended facts.0;
          awake = no_sleep t d facts.1;
          alone = λ u u_home s. some-same u t (sym (runs_by-run u d.reply (runs p past) (starts-runs u s)) ∙ sym (runs_after-is d (runs p past) facts.0 facts.1) ∙ k);
          how = split facts.2;
        }
      where
        split : (runs p past ≡ Some t) ⊎ (is t (to_run d.reply) ≡ true) → (starts t (Acted d) ≡ true) ⊎ (runs p past ≡ Some t)
        split (inl m) = inr m
        split (inr m) = inl (to_run-is t d.reply m)

    there : p == q ≡ false → runs q past ≡ Some t → HasRun g c t (Acted d) past q
    there ne k = record {
      stays = unless _ (λ m. elsewhere (one_processor-here g c p q cluster.one_cpu (placed p (running g rules made p t (ended-runs g p t a past m)).placed) q_there));
      awake = awake;
      alone = λ u u_home s. absurd (elsewhere (one_processor-here g c p q cluster.one_cpu (subst (λ n. has p (processors g n) ≡ true) u_home (linked-eligible g made p u (answer-runs_link g p u a past (starts-runs u s))).placed) q_there));
      how = inr k;
    }
      where
        elsewhere : p ≡ q → ⊥
        elsewhere same = let m : q == q ≡ false = rw same at ne in clash _ (equal_self q) m

        placed : (r : ℕ) → has r (processors g (home g t)) ≡ true → has r (processors g c) ≡ true
        placed r m = subst (λ n. has r (processors g n) ≡ true) at m

        q_there : has q (processors g c) ≡ true
        q_there = placed q (running g rules made q t k).placed

        awake : is_sleep (did t (Acted d)) ≡ false
        awake = split (sleep-by g p t a past)
          where
            split : (is_sleep (did t (Acted d)) ≡ false) ⊎ ((n : ℕ) × (a ≡ acts.Do (ops.Sleep n)) × (accepted (answer g p a past) ≡ true) × (runs p past ≡ Some t)) → is_sleep (did t (Acted d)) ≡ false
            split (inl m) = m
            split (inr m) = absurd (elsewhere (one_processor-here g c p q cluster.one_cpu (placed p (running g rules made p t m.3).placed) q_there))

    by_case : (b : Bool) → p == q ≡ b → (if b then runs_after d (runs q past) else runs q past) ≡ Some t → HasRun g c t (Acted d) past q
    by_case true e k = let same : p ≡ q = eqb-true p q e in subst (λ n. HasRun g c t (Acted d) past n) same (here (subst (λ n. runs_after d (runs n past) ≡ Some t) (sym same) k))
    by_case false e k = there e k

-- ---- what is kept

-- a task that is under way has a job that is there and awake
pub record IsStarted (g : Group) (t : ℕ) (past : Past) : Type 0 where
  pub member : has t (tasks g) ≡ true
  pub exists_now : exists g t past ≡ true
  pub awake : sleeps t past ≡ false

pub record IsSrpState (g : Group) (c : ℕ) (past : Past) : Type 0 where
  -- each semaphore is held by one task, and whoever holds is under way
  pub once : IsHeldOnce (srp g c past)
  pub holds_way : (t s : ℕ) → has_pair t s (srp g c past) ≡ true → under_way t past ≡ true
  pub started : (t : ℕ) → home g t ≡ c → under_way t past ≡ true → IsStarted g t past
  pub runs_way : (q t : ℕ) → runs q past ≡ Some t → home g t ≡ c → under_way t past ≡ true
  -- of what another holds, a task that is under way passed the ceiling, or the other has the higher base key
  pub passed : (t s u : ℕ) → has_pair t s (srp g c past) ≡ true → home g u ≡ c → under_way u past ≡ true → u == t ≡ false → (nat_lt (task g u).rel_deadline (srp_ceiling g s) ≡ true) ⊎ (above g past t u ≡ true)
  -- what runs has the highest base key of those that are under way
  pub ahead : (q t u : ℕ) → runs q past ≡ Some t → home g t ≡ c → home g u ≡ c → under_way u past ≡ true → u == t ≡ false → above g past t u ≡ true

served-psn : (g : Group) (p : PluginKind) (t : ℕ) (past : Past) → p ≡ plugins.PsnEdf → is_served g p t past ≡ true
unfolding is_served
served-psn g plugins.PsnEdf t past e = refl
served-psn g p t past e = cc

admitted-psn : (g : Group) (p : PluginKind) (t : ℕ) (past : Past) → p ≡ plugins.PsnEdf → under_way t past ≡ true → is_admitted g p t past ≡ true
unfolding is_admitted
admitted-psn g plugins.PsnEdf t past e h = rw h (or_true (not (has_srp g (home g t))))
admitted-psn g p t past e h = cc

-- who is admitted and is not under way passes
pub passes-psn : (g : Group) (p : PluginKind) (t : ℕ) (past : Past) → p ≡ plugins.PsnEdf → has_srp g (home g t) ≡ true → under_way t past ≡ false → is_admitted g p t past ≡ true → passes_srp g t past ≡ true
unfolding is_admitted
passes-psn g plugins.PsnEdf t past e h n k = rw (h, n) at k
passes-psn g p t past e h n k = cc

pub way-eligible : (g : Group) → MeetsRules g → (c : ℕ) → IsSrpCluster g c → {past : Past} → IsReachable g past → (t : ℕ) → home g t ≡ c → under_way t past ≡ true → IsStarted g t past → eligible g t past ≡ true
unfolding eligible ready
way-eligible g rules c cluster {past} made t at h s = rw (s.exists_now, s.awake, awaits-none g rules c cluster past made t at, served-psn g g.setup.plugin t past cluster.plugin, admitted-psn g g.setup.plugin t past cluster.plugin h)

-- what is known of an eligible task
pub eligible-is : (g : Group) (t : ℕ) (past : Past) → eligible g t past ≡ true → (exists g t past ≡ true) × (sleeps t past ≡ false) × (is_admitted g g.setup.plugin t past ≡ true)
unfolding eligible ready
eligible-is g t past h =
    let parts = both (exists g t past && not (sleeps t past)) (is_none (awaits g t past) && (is_served g g.setup.plugin t past && is_admitted g g.setup.plugin t past)) h in
    let there = both (exists g t past) (not (sleeps t past)) parts.0 in
    let free = both (is_none (awaits g t past)) (is_served g g.setup.plugin t past && is_admitted g g.setup.plugin t past) parts.1 in
    (there.0, not_true (sleeps t past) there.1, (both (is_served g g.setup.plugin t past) (is_admitted g g.setup.plugin t past) free.1).1)

-- a user is not below the ceiling
pub user-not_below : (g : Group) (t s : ℕ) → has t (users g s) ≡ true → nat_lt (task g t).rel_deadline (srp_ceiling g s) ≡ false
unfolding srp_ceiling
user-not_below g t s h = least-of (λ u. (task g u).rel_deadline) t (users g s) TICK_END h

nests-srp : (g : Group) (p : Protocol) (t s : ℕ) (past : Past) → p ≡ Srp → nests g p s t past ≡ false → has s (holds g t past) ≡ false
unfolding nests
nests-srp g Srp t s past e h = (neither (has s (holds g t past)) (nat_le MOST_HELD (length (holds g t past))) h).0
nests-srp g p t s past e h = cc

pub srp-sem_state : (g : Group) (s : ℕ) (past : Past) → protocol g s ≡ Srp → sem_state g s past ≡ srp_sem_state s (srp g (cluster_of g s) past)
unfolding sem_state sem_state_by
srp-sem_state g s past p = rw p

pub srp-holder : (g : Group) (s : ℕ) (past : Past) → protocol g s ≡ Srp → holder g s past ≡ first (of_sem s (srp g (cluster_of g s) past))
unfolding holder
srp-holder g s past p = ap (λ (x : SemState). x.holder) (srp-sem_state g s past p)

-- the pair of a user is that of the holder, and it holds
pair-holder : (g : Group) → MeetsRules g → (c t s : ℕ) (past : Past) → IsSrpUser g c t s → IsHeldOnce (srp g c past) → has_pair t s (srp g c past) ≡ true → is t (holder g s past) ≡ true
pair-holder g rules c t s past u once h =
    let there : cluster_of g s ≡ c = sym (user-home g rules s t (rw u.of_srp) u.user) ∙ u.at_home in
    rw (srp-holder g s past u.of_srp) (subst (λ n. is t (first (of_sem s (srp g n past))) ≡ true) (sym there) (srp-first t s (srp g c past) once h))

module _ (g : Group) (rules : MeetsRules g) (c : ℕ) (cluster : IsSrpCluster g c) where
  -- nobody holds what a task of the cluster asks for
  pub free_at_lock : {past : Past} → IsReachable g past → IsSrpState g c past → (q t s : ℕ) → runs q past ≡ Some t → home g t ≡ c → has t (users g s) ≡ true → has s (sems g) ≡ true → protocol g s ≡ Srp → nests g (protocol g s) s t past ≡ false → (u : ℕ) → has_pair u s (srp g c past) ≡ true → ⊥
  free_at_lock {past} made state q t s r at user known p n u h = by_case (t == u) refl
    where
      holds_it : t ≡ u → ⊥
      holds_it same =
          let mine : has_pair t s (srp g c past) ≡ true = rw same h in
          let held : is t (holder g s past) ≡ true = pair-holder g rules c t s past (record { user = user; at_home = at; of_srp = p }) state.once mine in
          clash _ (holds-one g t s past known held) (nests-srp g (protocol g s) t s past p n)

      over : IsSrpUser g c u s → t == u ≡ false → (nat_lt (task g t).rel_deadline (srp_ceiling g s) ≡ true) ⊎ (above g past u t ≡ true) → ⊥
      over of_u ne (inl k) = clash _ k (user-not_below g t s user)
      over of_u ne (inr k) =
          let k' : above g past t u ≡ true = state.ahead q t u r at of_u.at_home (state.holds_way u s h) (turned u t ∙ ne) in
          clash _ ((above-strict g past).trans t u t k' k) ((above-strict g past).self t)

      by_case : (b : Bool) → t == u ≡ b → ⊥
      by_case true e = holds_it (eqb-true t u e)
      by_case false e = over (srp_users g rules c made u s h) e (state.passed u s t h at (state.runs_way q t r at) e)

  module _ {past : Past} (e : Event) (made : IsReachable g past) (move : IsMove g past e) (state : IsSrpState g c past) where
    made_after : IsReachable g (e ∷ past)
    made_after = moved g made move

    -- who asks runs
    asker : (t s : ℕ) → sem_act e ≡ Asks t s → (q : ℕ) × (runs q past ≡ Some t)
    asker t s h = by_move e move h
      where
        by_move : (x : Event) → IsMove g past x → sem_act x ≡ Asks t s → (q : ℕ) × (runs q past ≡ Some t)
        by_move x (clock_moves tick) k = cc
        by_move x (cpu_acts q a) k = (q, (asks g q a past t s k).runs_it)

    -- nobody holds what is asked for
    free : (t s u : ℕ) → sem_act e ≡ Asks t s → home g t ≡ c → protocol g s ≡ Srp → has_pair u s (srp g c past) ≡ true → ⊥
    free t s u h at p k =
        let a : IsAsked g t s past = asked g rules made move t s h in
        let r = asker t s h in
        free_at_lock made state r.0 t s r.1 at a.user a.known p a.unnested u k

    once_after : IsHeldOnce (srp g c (e ∷ past))
    once_after t u s h k = split (srp-back g c t s e past h) (srp-back g c u s e past k)
      where
        split : (has_pair t s (srp g c past) ≡ true) ⊎ (sem_act e ≡ Asks t s) × (home g t ≡ c) × (protocol g s ≡ Srp) → (has_pair u s (srp g c past) ≡ true) ⊎ (sem_act e ≡ Asks u s) × (home g u ≡ c) × (protocol g s ≡ Srp) → t ≡ u
        split (inl a) (inl b) = state.once t u s a b
        split (inl a) (inr b) = absurd (free u s t b.0 b.1 b.2 a)
        split (inr a) (inl b) = absurd (free t s u a.0 a.1 a.2 b)
        split (inr a) (inr b) = let x : sem_act e ≡ Asks t s = a.0 in let y : sem_act e ≡ Asks u s = b.0 in cc

    held_after : (t s : ℕ) → has_pair t s (srp g c (e ∷ past)) ≡ true → is t (holder g s (e ∷ past)) ≡ true
    held_after t s h = pair-holder g rules c t s (e ∷ past) (srp_users g rules c made_after t s h) once_after h

    known_sem : (t s : ℕ) → IsSrpUser g c t s → has s (sems g) ≡ true
    known_sem t s u = let d = user-task g s t u.user in rules.is_known t s d.0 d.1

    -- who holds after the event held before it or asks in it, and its job goes on and stays awake
    held_before : (t s : ℕ) → has_pair t s (srp g c past) ≡ true → is_empty (holds g t past) ≡ true → ⊥
    held_before t s h empty =
        let u : IsSrpUser g c t s = srp_users g rules c made t s h in
        clash _ (pair-holder g rules c t s past u state.once h) (holds-none g t s past empty (known_sem t s u))

    goes_on : (t s : ℕ) → has_pair t s (srp g c (e ∷ past)) ≡ true → ends_job t e ≡ false
    goes_on t s h = by_move e move (held_after t s h) (srp-back g c t s e past h)
      where
        there : has s (sems g) ≡ true
        there = known_sem t s (srp_users g rules c made_after t s h)

        by_move : (x : Event) → IsMove g past x → is t (holder g s (x ∷ past)) ≡ true → (has_pair t s (srp g c past) ≡ true) ⊎ (sem_act x ≡ Asks t s) × (home g t ≡ c) × (protocol g s ≡ Srp) → ends_job t x ≡ false
        by_move x (clock_moves tick) held was = refl
        by_move x (cpu_acts q a) held was = unless _ (λ k. ends k (ended-how g q t a past k))
          where
            at_end : a ≡ acts.Do ops.End → accepted (answer g q a past) ≡ true → runs q past ≡ Some t → (has_pair t s (srp g c past) ≡ true) ⊎ (sem_act (Acted (past_act g q a past)) ≡ Asks t s) × (home g t ≡ c) × (protocol g s ≡ Srp) → ⊥
            at_end n m r (inl o) = held_before t s o (end-holds_nothing g q t past r (rw n at m))
            at_end n m r (inr o) = let l : IsAsk g q a past t s = asks g q a past t s o.0 in let b : a ≡ acts.Do (ops.Lock l.number) = l.is_lock in cc

            ends : is t (past_act g q a past).ended ≡ true → (accepted (answer g q a past) ≡ true) × ((a ≡ acts.Do ops.End) ⊎ (is_spent g t (Acted (attempt g q a past) ∷ past) ≡ true)) → ⊥
            ends k (m, inl n) = at_end n m (ended-runs g q t a past k) was
            ends k (m, inr n) = clash _ (rw (holder-sem_act g s (Acted (past_act g q a past)) (Acted (attempt g q a past)) past (same_request g q a past)) at held) (holds-none g t s (Acted (attempt g q a past) ∷ past) (spent-facts g t (Acted (attempt g q a past) ∷ past) n).empty there)

    stays_awake : (t s : ℕ) → has_pair t s (srp g c (e ∷ past)) ≡ true → is_sleep (did t e) ≡ false
    stays_awake t s h = by_move e move (srp-back g c t s e past h)
      where
        by_move : (x : Event) → IsMove g past x → (has_pair t s (srp g c past) ≡ true) ⊎ (sem_act x ≡ Asks t s) × (home g t ≡ c) × (protocol g s ≡ Srp) → is_sleep (did t x) ≡ false
        by_move x (clock_moves tick) was = refl
        by_move x (cpu_acts q a) was = split (sleep-by g q t a past)
          where
            asleep : (n : ℕ) → a ≡ acts.Do (ops.Sleep n) → accepted (answer g q a past) ≡ true → runs q past ≡ Some t → (has_pair t s (srp g c past) ≡ true) ⊎ (sem_act (Acted (past_act g q a past)) ≡ Asks t s) × (home g t ≡ c) × (protocol g s ≡ Srp) → ⊥
            asleep n k m r (inl o) = held_before t s o (sleep-holds_nothing g q t n past r (rw k at m))
            asleep n k m r (inr o) = let l : IsAsk g q a past t s = asks g q a past t s o.0 in let b : a ≡ acts.Do (ops.Lock l.number) = l.is_lock in cc

            split : (is_sleep (did t (Acted (past_act g q a past))) ≡ false) ⊎ ((n : ℕ) × (a ≡ acts.Do (ops.Sleep n)) × (accepted (answer g q a past) ≡ true) × (runs q past ≡ Some t)) → is_sleep (did t (Acted (past_act g q a past))) ≡ false
            split (inl k) = k
            split (inr k) = absurd (asleep k.0 k.1 k.2 k.3 was)

    holds_way_after : (t s : ℕ) → has_pair t s (srp g c (e ∷ past)) ≡ true → under_way t (e ∷ past) ≡ true
    holds_way_after t s h = under_way-on t e past (was (srp-back g c t s e past h)) (goes_on t s h) (stays_awake t s h)
      where
        was : (has_pair t s (srp g c past) ≡ true) ⊎ (sem_act e ≡ Asks t s) × (home g t ≡ c) × (protocol g s ≡ Srp) → under_way t past ≡ true
        was (inl k) = state.holds_way t s k
        was (inr k) = let r = asker t s k.0 in state.runs_way r.0 t r.1 k.1

    -- a task that is under way after the event was there before it, and goes on
    pub record WasThere (t : ℕ) : Type 0 where
      pub before : IsStarted g t past
      pub stays : ends_job t e ≡ false
      pub awake : sleep_end (now past) (did t e) ≡ 0

    was_there : (t : ℕ) → home g t ≡ c → under_way t (e ∷ past) ≡ true → WasThere t
    was_there t at h = let q = under_way-back t e past h in split q.0 q.1
      where
        split : ends_job t e ≡ false → (starts t e ≡ true) ⊎ (is_sleep (did t e) ≡ false) × (under_way t past ≡ true) → WasThere t
        split stays (inl k) =
            let s : IsStart g t e past = start-is g made move t k in
            let l : IsLinked g s.cpu t past = s.is_linked in
            let q = eligible-is g t past l.was_eligible in
            record { before = record { member = l.member; exists_now = q.0; awake = q.1 }; stays = stays; awake = rw (s.quiet t) }
        split stays (inr k) = record { before = state.started t at k.1; stays = stays; awake = sleepless (now past) (did t e) k.0 }

    started_after : (t : ℕ) → home g t ≡ c → under_way t (e ∷ past) ≡ true → IsStarted g t (e ∷ past)
    started_after t at h =
        let w : WasThere t = was_there t at h in
        record {
          member = w.before.member;
          exists_now = exists-keeps g rules t e past w.before.exists_now w.stays;
          awake = awake-keeps t e past w.before.awake w.awake;
        }

    above-keeps : (t u : ℕ) → home g t ≡ c → home g u ≡ c → under_way t (e ∷ past) ≡ true → under_way u (e ∷ past) ≡ true → above g past t u ≡ true → above g (e ∷ past) t u ≡ true
    unfolding above
    above-keeps t u t_at u_at h k m =
        let w : WasThere t = was_there t t_at h in
        let v : WasThere u = was_there u u_at k in
        rw (base_key-keeps g rules t e past w.before.exists_now w.stays, base_key-keeps g rules u e past v.before.exists_now v.stays) m

    runs_way_after : (q t : ℕ) → runs q (e ∷ past) ≡ Some t → home g t ≡ c → under_way t (e ∷ past) ≡ true
    runs_way_after q t h at = let r : HasRun g c t e past q = has_run g rules c cluster made move q t h at in split r r.how
      where
        split : HasRun g c t e past q → (starts t e ≡ true) ⊎ (runs q past ≡ Some t) → under_way t (e ∷ past) ≡ true
        split r (inl k) = under_way-starts t e past k r.stays
        split r (inr k) = under_way-on t e past (state.runs_way q t k at) r.stays r.awake

    -- a task that starts passes what others hold, or was under way
    passed_at_start : (t s u : ℕ) → has_pair t s (srp g c past) ≡ true → home g u ≡ c → starts u e ≡ true → u == t ≡ false → (nat_lt (task g u).rel_deadline (srp_ceiling g s) ≡ true) ⊎ (above g past t u ≡ true)
    unfolding passes_srp
    passed_at_start t s u h at k ne = by_way (under_way u past) refl
      where
        l : IsLinked g (start-is g made move u k).cpu u past
        l = (start-is g made move u k).is_linked

        by_way : (b : Bool) → under_way u past ≡ b → (nat_lt (task g u).rel_deadline (srp_ceiling g s) ≡ true) ⊎ (above g past t u ≡ true)
        by_way true w = state.passed t s u h at w ne
        by_way false w =
            let p : passes_srp g u past ≡ true = passes-psn g g.setup.plugin u past cluster.plugin (rw at cluster.has_it) w (eligible-is g u past l.was_eligible).2 in
            inl (passes-above_ceiling (λ v r. nat_lt (task g u).rel_deadline (srp_ceiling g r)) (srp g c past) u t s (subst (λ n. list_all (λ (x : TaskSem). nat_lt (task g u).rel_deadline (srp_ceiling g x.sem)) (of_others u (srp g n past)) ≡ true) at p) h (turned t u ∙ ne))

    passed_after : (t s u : ℕ) → has_pair t s (srp g c (e ∷ past)) ≡ true → home g u ≡ c → under_way u (e ∷ past) ≡ true → u == t ≡ false → (nat_lt (task g u).rel_deadline (srp_ceiling g s) ≡ true) ⊎ (above g (e ∷ past) t u ≡ true)
    passed_after t s u h at k ne = carried (split (srp-back g c t s e past h) (under_way-back u e past k).1)
      where
        t_home : home g t ≡ c
        t_home = (srp_users g rules c made_after t s h).at_home

        carried : (nat_lt (task g u).rel_deadline (srp_ceiling g s) ≡ true) ⊎ (above g past t u ≡ true) → (nat_lt (task g u).rel_deadline (srp_ceiling g s) ≡ true) ⊎ (above g (e ∷ past) t u ≡ true)
        carried (inl m) = inl m
        carried (inr m) = inr (above-keeps t u t_home at (holds_way_after t s h) k m)

        split : (has_pair t s (srp g c past) ≡ true) ⊎ (sem_act e ≡ Asks t s) × (home g t ≡ c) × (protocol g s ≡ Srp) → (starts u e ≡ true) ⊎ (is_sleep (did u e) ≡ false) × (under_way u past ≡ true) → (nat_lt (task g u).rel_deadline (srp_ceiling g s) ≡ true) ⊎ (above g past t u ≡ true)
        split (inl a) (inl b) = passed_at_start t s u a at b ne
        split (inl a) (inr b) = state.passed t s u a at b.1 ne
        split (inr a) (inl b) = let x : sem_act e ≡ Asks t s = a.0 in let y : sem_act e ≡ Neither = (start-is g made move u b).no_request in cc
        split (inr a) (inr b) = let r = asker t s a.0 in inr (state.ahead r.0 t u r.1 a.1 at b.1 ne)

    ahead_after : (q t u : ℕ) → runs q (e ∷ past) ≡ Some t → home g t ≡ c → home g u ≡ c → under_way u (e ∷ past) ≡ true → u == t ≡ false → above g (e ∷ past) t u ≡ true
    ahead_after q t u h t_at u_at k ne = above-keeps t u t_at u_at (runs_way_after q t h t_at) k (split (under_way-back u e past k).1 r.how)
      where
        r : HasRun g c t e past q
        r = has_run g rules c cluster made move q t h t_at

        split : (starts u e ≡ true) ⊎ (is_sleep (did u e) ≡ false) × (under_way u past ≡ true) → (starts t e ≡ true) ⊎ (runs q past ≡ Some t) → above g past t u ≡ true
        split (inl a) b = let same : u ≡ t = r.alone u u_at a in let m : t == t ≡ false = rw same at ne in absurd (clash _ (equal_self t) m)
        split (inr a) (inr b) = state.ahead q t u b t_at u_at a.1 ne
        split (inr a) (inl b) =
            let l = (start-is g made move t b).is_linked in
            let s : IsStarted g u past = state.started u u_at a.1 in
            top-above g rules c cluster past made t u t_at (subst (λ n. has t (top g n past) ≡ true) t_at l.of_top) u_at (subst (λ n. has u (tasks_of g n) ≡ true) u_at (home-tasks_of g u s.member)) (way-eligible g rules c cluster made u u_at a.1 s) ne

    pub state_after : IsSrpState g c (e ∷ past)
    state_after = record {
      once = once_after;
      holds_way = holds_way_after;
      started = started_after;
      runs_way = runs_way_after;
      passed = passed_after;
      ahead = ahead_after;
    }

  at_opening : IsSrpState g c []
  unfolding srp under_way runs
  at_opening = record {
    once = λ t u s h k. cc;
    holds_way = λ t s h. cc;
    started = λ t at h. cc;
    runs_way = λ q t h at. cc;
    passed = λ t s u h at k ne. cc;
    ahead = λ q t u h t_at u_at k ne. cc;
  }

  -- so it is after every move
  pub srp_state : {past : Past} → IsReachable g past → IsSrpState g c past
  srp_state made = by_moves g (IsSrpState g c) at_opening (λ past e made move before. state_after e made move before) made

-- each SRP semaphore is held by one task
pub held_once : (g : Group) → MeetsRules g → (c : ℕ) {past : Past} → IsReachable g past → IsHeldOnce (srp g c past)
held_once g rules c made t u s h k =
    let user : IsSrpUser g c t s = srp_users g rules c made t s h in
    (srp_state g rules c (srp_cluster g rules c t s user.of_srp user.user user.at_home) made).once t u s h k

-- what PCP and SRP keep
pub kept : (g : Group) → MeetsRules g → (c : ℕ) {past : Past} → IsReachable g past → IsKept g c past
kept g rules c made = record { of_pcp = pcp_kept g rules c made; of_srp = held_once g rules c made }

-- nobody holds what a task asks for
pub free_when_asked : (g : Group) → MeetsRules g → {past : Past} {e : Event} → IsReachable g past → IsMove g past e → (t s : ℕ) → protocol g s ≡ Srp → sem_act e ≡ Asks t s → (c u : ℕ) → has_pair u s (srp g c past) ≡ true → ⊥
free_when_asked g rules {past} {e} made move t s p h c u k =
    let a : IsAsked g t s past = asked g rules made move t s h in
    let of_u : IsSrpUser g c u s = srp_users g rules c made u s k in
    let at : home g t ≡ c = rules.shares s t u (rw p) a.user of_u.user ∙ of_u.at_home in
    let cluster : IsSrpCluster g c = srp_cluster g rules c t s p a.user at in
    free g rules c cluster e made move (srp_state g rules c cluster made) t s u h at p k
