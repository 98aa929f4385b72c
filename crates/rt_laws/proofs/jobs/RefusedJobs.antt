-- An act that is refused is none of any task, semaphore or processor.
use Rattle.std.proofs.Common.{◌≡◌, ℕ, Bool, true, false, cond, ◌∷◌, refl, ◌∙◌, arith}
use Rattle.std.specs.Prelude.{◌==◌, Option, None, find, filter}
use Rattle.rt_rules.specs.declared.history.Reply.{Reply}
use Rattle.rt_rules.specs.declared.history.Reply.TheVariants as replies
use Rattle.rt_task.specs.declared.Act.{Act}
use Rattle.rt_task.specs.declared.Act.TheVariants as acts
use Rattle.rt_task.specs.declared.Kind.{Kind}
use Rattle.rt_task.specs.declared.Kind.TheVariants.{Periodic, Sporadic}
use Rattle.rt_task.specs.declared.Op.{Op}
use Rattle.rt_task.specs.declared.Op.TheVariants as ops
use Rattle.rt_task.specs.declared.PluginKind.{PluginKind}
use Rattle.rt_task.specs.declared.PluginKind.TheVariants as plugins
use Rattle.rt_task.specs.declared.Protocol.{Protocol}
use Rattle.rt_task.specs.declared.Protocol.TheVariants.{Fmlp, Mpcp, Omlp, Pcp, Srp}
use Rattle.rt_rules.specs.Numbers.{has, is}
use Rattle.rt_rules.specs.SemState.{Neither}
use Rattle.rt_rules.proofs.BoolLaws.{and_false}
use Rattle.rt_model.specs.Answers.{answer, last_work, works_at}
use Rattle.rt_model.specs.BaseKeys.{base_key, key_by}
use Rattle.rt_model.specs.Ceilings.{pcp, at_cluster}
use Rattle.rt_model.specs.Group.{Group, protocol, sems, task}
use Rattle.rt_model.specs.Holders.{awaits, holder, holds, sem_state, sem_state_by}
use Rattle.rt_model.specs.Jobs.{done, this_job, used, position_in_body}
use Rattle.rt_model.specs.NonPreemptive.{non_preemptive}
use Rattle.rt_model.specs.Outcomes.{past_act, ended}
use Rattle.rt_model.specs.Past.{PastAct, Acted, Past, accepted, did, ends_job, now, sem_act}
use Rattle.rt_model.specs.Releases.{arrives, arrivals, deadline, exists, has_come, is_released, opens_early, ready, release, release_by}
use Rattle.rt_model.specs.Runs.{leaves, runs, runs_after, runs_by}
use Rattle.rt_model.specs.Semaphores.{fmlp, omlp, mpcp}
use Rattle.rt_model.specs.Sleep.{sleeps, wakes}
use Rattle.rt_model.specs.StackPolicy.{srp, srp_at}
use Rattle.rt_model.specs.UnderWay.{is_run, under_way}
use Rattle.rt_model.proofs.Steps.{done-step, runs-acted, used-step}

-- an act that is refused ends no job
pub record IsRefused (d : PastAct) : Type 0 where
  pub refused : accepted d.reply ≡ false
  pub ends_none : d.ended ≡ None

pub is_refused : (g : Group) (q : ℕ) (act : Act) (past : Past) → accepted (answer g q act past) ≡ false → IsRefused (past_act g q act past)
unfolding past_act ended
is_refused g q act past h = record { refused = h; ends_none = rw h }

module _ (d : PastAct) (past : Past) (r : IsRefused d) where
  abbrev after : Past
  after = Acted d ∷ past

  -- ---- jobs

  pub did-refused : (t : ℕ) → did t (Acted d) ≡ None
  did-refused t = rw (r.refused, and_false (is t d.task))

  pub goes_on-refused : (t : ℕ) → ends_job t (Acted d) ≡ false
  goes_on-refused t = rw r.ends_none

  pub done-refused : (t : ℕ) → done t after ≡ done t past
  done-refused t = done-step t (Acted d) past ∙ rw (goes_on-refused t)

  pub used-refused : (t : ℕ) → used t after ≡ used t past
  used-refused t = used-step t (Acted d) past ∙ rw (goes_on-refused t, did-refused t)

  pub position-refused : (t : ℕ) → position_in_body t after ≡ position_in_body t past
  unfolding position_in_body this_job
  position-refused t = rw (goes_on-refused t, did-refused t)

  pub wakes-refused : (t : ℕ) → wakes t after ≡ wakes t past
  unfolding wakes
  wakes-refused t = rw (goes_on-refused t, did-refused t) (omega arith)

  pub sleeps-refused : (t : ℕ) → sleeps t after ≡ sleeps t past
  unfolding sleeps
  sleeps-refused t = rw (wakes-refused t)

  pub np-refused : (t : ℕ) → non_preemptive t after ≡ non_preemptive t past
  unfolding non_preemptive
  np-refused t = rw (goes_on-refused t, did-refused t)

  pub arrivals-refused : (t : ℕ) → arrivals t after ≡ arrivals t past
  unfolding arrivals
  arrivals-refused t = rw (r.refused, and_false (arrives t d.act))

  is_run-refused : (t : ℕ) (x : Reply) → accepted x ≡ false → is_run t x ≡ false
  is_run-refused t (replies.Runs u) h = cc
  is_run-refused t x h = refl

  pub under_way-refused : (t : ℕ) → under_way t after ≡ under_way t past
  unfolding under_way
  under_way-refused t = rw (goes_on-refused t, did-refused t, is_run-refused t d.reply r.refused)

  -- ---- semaphores

  pub sem_act-refused : sem_act (Acted d) ≡ Neither
  sem_act-refused = rw r.refused

  pub pcp-refused : (g : Group) (c : ℕ) → pcp g c after ≡ pcp g c past
  unfolding pcp at_cluster
  pcp-refused g c = rw sem_act-refused

  pub srp-refused : (g : Group) (c : ℕ) → srp g c after ≡ srp g c past
  unfolding srp srp_at
  srp-refused g c = rw sem_act-refused

  pub sem_state-refused : (g : Group) (s : ℕ) → sem_state g s after ≡ sem_state g s past
  unfolding sem_state sem_state_by fmlp omlp mpcp
  sem_state-refused g s = by_protocol (protocol g s)
    where
      by_protocol : (p : Protocol) → sem_state_by g p s after ≡ sem_state_by g p s past
      by_protocol Fmlp = rw sem_act-refused
      by_protocol Omlp = rw sem_act-refused
      by_protocol Mpcp = rw sem_act-refused
      by_protocol Pcp = rw (pcp-refused g _)
      by_protocol Srp = rw (srp-refused g _)

  pub holder-refused : (g : Group) (s : ℕ) → holder g s after ≡ holder g s past
  unfolding holder
  holder-refused g s = λ i. (sem_state-refused g s i).holder

  pub holds-refused : (g : Group) (t : ℕ) → holds g t after ≡ holds g t past
  unfolding holds
  holds-refused g t = λ i. filter (λ s. is t (holder-refused g s i)) (sems g)

  pub awaits-refused : (g : Group) (t : ℕ) → awaits g t after ≡ awaits g t past
  unfolding awaits
  awaits-refused g t = λ i. find (λ s. has t (sem_state-refused g s i).waiting) (sems g)

  -- ---- releases and base keys

  module _ (g : Group) where
    pub release-refused : (t : ℕ) → release g t after ≡ release g t past
    unfolding release release_by
    release-refused t = rw (done-refused t) (by_kind (task g t).kind)
      where
        by_kind : (k : Kind) → release_by g k t (done t past) after ≡ release_by g k t (done t past) past
        by_kind Periodic = refl
        by_kind Sporadic = rw (arrivals-refused t)

    is_released-refused : (t : ℕ) → is_released g t after ≡ is_released g t past
    unfolding is_released
    is_released-refused t = λ i. has_come (now past) (release-refused t i)

    pub exists-refused : (t : ℕ) → exists g t after ≡ exists g t past
    unfolding exists opens_early
    exists-refused t = rw (is_released-refused t, done-refused t)

    pub ready-refused : (t : ℕ) → ready g t after ≡ ready g t past
    unfolding ready
    ready-refused t = rw (exists-refused t, sleeps-refused t)

    pub base_key-refused : (t : ℕ) → base_key g t after ≡ base_key g t past
    unfolding base_key key_by deadline
    base_key-refused t = by_plugin g.setup.plugin
      where
        by_plugin : (p : PluginKind) → key_by g p t after ≡ key_by g p t past
        by_plugin plugins.GsnEdf = rw (release-refused t)
        by_plugin plugins.CEdf = rw (release-refused t)
        by_plugin plugins.PsnEdf = rw (release-refused t)
        by_plugin plugins.PFp = refl
        by_plugin plugins.PRes = refl

  -- ---- processors

  leaves-refused : (a : Act) (x : Reply) → accepted x ≡ false → leaves a x ≡ false
  leaves-refused (acts.Do (ops.Sleep n)) x h = h
  leaves-refused a replies.Queued h = cc
  leaves-refused a x h = refl

  runs_by-refused : (x : Reply) (o : Option ℕ) → accepted x ≡ false → runs_by x o ≡ o
  runs_by-refused (replies.Runs t) o h = cc
  runs_by-refused replies.Idles o h = cc
  runs_by-refused x o h = refl

  pub runs-refused : (q : ℕ) → runs q after ≡ runs q past
  runs-refused q = runs-acted q d past ∙ by_case (d.cpu == q)
    where
      by_case : (b : Bool) → cond b (runs_after d (runs q past)) (runs q past) ≡ runs q past
      by_case true = rw (r.ends_none, leaves-refused d.act d.reply r.refused) (runs_by-refused d.reply (runs q past) r.refused)
      by_case false = refl

  works-refused : (q : ℕ) → works_at q (Acted d) ≡ false
  works-refused q = by_act d.act refl
    where
      by_op : (o : Op) → d.act ≡ acts.Do o → works_at q (Acted d) ≡ false
      by_op ops.Work e = rw (e, r.refused) (and_false (d.cpu == q))
      by_op _ e = rw e (and_false (d.cpu == q))

      by_act : (a : Act) → d.act ≡ a → works_at q (Acted d) ≡ false
      by_act (acts.Do o) e = by_op o e
      by_act _ e = rw e (and_false (d.cpu == q))

  pub last_work-refused : (q : ℕ) → last_work q after ≡ last_work q past
  unfolding last_work
  last_work-refused q = rw (works-refused q)
