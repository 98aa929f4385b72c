-- Who asks and who frees in the next event: what the past before it says of them.
use Rattle.std.proofs.Common.{false, true, ℕ, ◌≡◌}
use Rattle.rt_task.specs.RuleWords.{is_stacked}
use Rattle.rt_task.specs.declared.Protocol.TheVariants.{Fmlp, Mpcp, Omlp, Pcp, Srp}
use Rattle.rt_task.specs.declared.Protocol.{Protocol}
use Rattle.rt_rules.specs.Numbers.{has, is, is_empty}
use Rattle.rt_rules.specs.SemState.{Asks, Frees}
use Rattle.rt_model.specs.Answers.{nests}
use Rattle.rt_model.specs.Group.{Group, protocol, sems, tasks, users}
use Rattle.rt_model.specs.Holders.{holder, holds, sem_state}
use Rattle.rt_model.specs.Reachable.{IsReachable}
use Rattle.rt_model.specs.Past.{Event, Past, sem_act}
use Rattle.rt_model.specs.Releases.{exists}
use Rattle.rt_model.specs.Sleep.{sleeps}
use Rattle.rt_rules.proofs.BoolLaws.{not_false}
use Rattle.rt_laws.proofs.GroupLaws.{task-user}
use Rattle.rt_laws.proofs.Moves.{IsMove, clock_moves, cpu_acts}
use Rattle.rt_laws.proofs.semaphores.Requests.{IsAsk, asks, frees}
use Rattle.rt_laws.proofs.Rules.{MeetsRules}
use Rattle.rt_laws.proofs.jobs.Running.{IsRunning, running}

-- a task asks for a semaphore: its job is there, neither sleeps nor waits, and the request does not nest
pub record IsAsked (g : Group) (t s : ℕ) (past : Past) : Type 0 where
  pub member : has t (tasks g) ≡ true
  pub user : has t (users g s) ≡ true
  pub known : has s (sems g) ≡ true
  pub unnested : nests g (protocol g s) s t past ≡ false
  pub exists_now : exists g t past ≡ true
  pub awake : sleeps t past ≡ false
  pub waits_none : (r : ℕ) → has r (sems g) ≡ true → has t (sem_state g r past).waiting ≡ false

-- whoever asks in an event is as `IsAsked` says
abbrev pub Asked : Group → Event → Past → Type 0
Asked g e past = (t s : ℕ) → sem_act e ≡ Asks t s → IsAsked g t s past

-- who frees a semaphore holds it
abbrev pub Freed : Group → Event → Past → Type 0
Freed g e past = (t s : ℕ) → sem_act e ≡ Frees t s → is t (holder g s past) ≡ true

-- what an event that asks says of the past before it
pub asked : (g : Group) → MeetsRules g → {past : Past} {e : Event} → IsReachable g past → IsMove g past e → Asked g e past
asked g rules made (clock_moves tick) t s h = cc
asked g rules {past} made (cpu_acts q a) t s h =
    let k : IsAsk g q a past t s = asks g q a past t s h in
    let r : IsRunning g q t past = running g rules made q t k.runs_it in
    record {
      member = r.member;
      user = task-user g s t r.member k.declared;
      known = rules.is_known t s r.member k.declared;
      unnested = k.unnested;
      exists_now = r.exists_now;
      awake = r.awake;
      waits_none = r.waits_none;
    }

-- what an event that frees says of the past before it
pub freed : (g : Group) {past : Past} {e : Event} → IsMove g past e → Freed g e past
freed g (clock_moves tick) t s h = cc
freed g {past} (cpu_acts q a) t s h = (frees g q a past t s h).held

-- a request that is none for PCP or SRP comes from a task that holds nothing
pub asks_empty : (g : Group) (p : Protocol) (t s : ℕ) (past : Past) → is_stacked p ≡ false → nests g p s t past ≡ false → is_empty (holds g t past) ≡ true
unfolding nests
asks_empty g Fmlp t s past e h = not_false _ h
asks_empty g Omlp t s past e h = not_false _ h
asks_empty g Mpcp t s past e h = not_false _ h
asks_empty g Pcp t s past e h = cc
asks_empty g Srp t s past e h = cc
