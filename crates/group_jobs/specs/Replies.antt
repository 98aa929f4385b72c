-- Each reply, read off what is kept, the link of the processor, what is left of a reservation, and what the semaphores say.
use Rattle.std.specs.List.{list_any}
use Rattle.std.specs.Prelude.{◌≡◌, ℕ, ◌+◌, Bool, true, false, not, ◌&&◌, ◌||◌, ◌==◌, nat_le, List, length, Option, None, Some}
use Rattle.std.specs.Prelude.{if◌then◌else◌}
use Rattle.rt_base.specs.declared.TheConstants.{MOST_HELD}
use Rattle.rt_task.specs.declared.Act.{Act}
use Rattle.rt_task.specs.declared.Act.TheVariants as acts
use Rattle.rt_task.specs.declared.Kind.{Kind}
use Rattle.rt_task.specs.declared.Kind.TheVariants.{Periodic, Sporadic}
use Rattle.rt_task.specs.declared.Op.{Op}
use Rattle.rt_task.specs.declared.Op.TheVariants as ops
use Rattle.rt_task.specs.declared.PluginKind.{PluginKind}
use Rattle.rt_task.specs.declared.PluginKind.TheVariants as plugins
use Rattle.rt_task.specs.declared.Protocol.{Protocol}
use Rattle.rt_task.specs.declared.Protocol.TheVariants.{Pcp, Srp}
use Rattle.rt_task.specs.declared.Task.{Task}
use Rattle.rt_task.specs.RuleWords.{is_p_res, is_stacked}
use Rattle.rt_rules.specs.declared.history.Reply.{Reply}
use Rattle.rt_rules.specs.declared.history.Reply.TheVariants as replies
use Rattle.rt_rules.specs.Distinct.{IsDistinct}
use Rattle.rt_rules.specs.Numbers.{has, is, same, is_empty}
use Rattle.rt_model.specs.Answers.{answer, is_granted}
use Rattle.rt_model.specs.Ceilings.{is_pcp}
use Rattle.rt_model.specs.Group.{Group, task, protocol, declares, served_by}
use Rattle.rt_model.specs.Holders.{holder, holds, last_granted}
use Rattle.rt_model.specs.Links.{linked}
use Rattle.rt_model.specs.Past.{Past}
use Rattle.rt_model.specs.Reservations.{left}
use Rattle.rt_model.specs.Runs.{runs}
use Rattle.rt_laws.specs.EveryPast.{EveryPast}
use Rattle.group_jobs.specs.Facts.{JobFacts}
use Rattle.group_jobs.specs.Kept.{Kept, IsKept, job_of, cpu_of, IsOfGroup}

-- of the task that runs: the semaphores that it holds, in any order, and the PCP one, under PSN-EDF the SRP one, that it was granted last;
-- of the semaphore that the act frees its holder, and of the one that it asks for whether it is granted now
pub record SemFacts : Type 0 where
  pub held : List ℕ
  pub last : Option ℕ
  pub holder : Option ℕ
  pub granted : Bool

-- ---- an interrupt, of a processor with this link that runs this, non-preemptive or not

abbrev pub run_reply : Option ℕ → Reply
run_reply None = replies.Idles
run_reply (Some t) = replies.Runs (record { 0 = t })

abbrev pub irq_reply : Option ℕ → Option ℕ → Bool → Reply
irq_reply link running np = if not (same link running) then (if np then replies.Deferred else run_reply link) else replies.Quiet

abbrev pub np_of : Kept → Option ℕ → Bool
np_of k None = false
np_of k (Some t) = (job_of k t).np

-- ---- an arrival

abbrev pub may_come : ℕ → Task → Option ℕ → Bool
may_come clock task None = nat_le task.phase clock
may_come clock task (Some newest) = nat_le (newest + task.period) clock

abbrev pub arrival_reply_by : Kind → ℕ → Task → JobFacts → Reply
arrival_reply_by Periodic clock task job = replies.NotSporadic
arrival_reply_by Sporadic clock task job = if may_come clock task job.newest then replies.Done else replies.TooEarly

abbrev pub arrival_reply : ℕ → Task → JobFacts → Reply
arrival_reply clock task job = arrival_reply_by task.kind clock task job

-- ---- operations, of a task that is non-preemptive or not

-- under P-RES a Work needs budget
abbrev pub lacks : PluginKind → ℕ → Bool
lacks plugins.PRes left = left == 0
lacks _ left = false

abbrev pub work_reply : ℕ → Option ℕ → Bool → Reply
work_reply clock worked no_budget =
    if same worked (Some clock) then replies.Spent else (if no_budget then replies.NoBudget else replies.Done)

abbrev pub rest_reply : Bool → List ℕ → Reply
rest_reply np held = if np then replies.InNp else (if is_empty held then replies.Done else replies.Holding)

abbrev pub np_on_reply : Bool → Reply
np_on_reply np = if np then replies.InNp else replies.Done

abbrev pub np_off_reply : Bool → Reply
np_off_reply np = if np then replies.Done else replies.NotInNp

module _ (g : Group) where
  -- requests do not nest, but PCP ones among themselves and SRP ones, up to eight
  abbrev pub is_nested : Protocol → ℕ → List ℕ → Bool
  is_nested Pcp s held = list_any (λ r. not (is_pcp (protocol g r))) held || (has s held || nat_le MOST_HELD (length held))
  is_nested Srp s held = has s held || nat_le MOST_HELD (length held)
  is_nested _ s held = not (is_empty held)

  abbrev pub lock_reply : ℕ → ℕ → Bool → SemFacts → Reply
  lock_reply t s np sems =
      if np then replies.InNp else
      (if not (declares g t s) then replies.NotDeclared else
      (if is_nested (protocol g s) s sems.held then replies.Nested else (if sems.granted then replies.Granted else replies.Queued)))

  abbrev pub unlock_reply : ℕ → ℕ → SemFacts → Reply
  unlock_reply t s sems =
      if not (is t sems.holder) then replies.NotHeld else
      (if is_stacked (protocol g s) && not (is s sems.last) then replies.NotLast else replies.Done)

  -- an operation of the task, on a processor that last worked so
  abbrev pub op_reply : Op → ℕ → ℕ → Option ℕ → Bool → ℕ → SemFacts → Reply
  op_reply ops.Work t clock worked np left sems = work_reply clock worked (lacks g.setup.plugin left)
  op_reply (ops.Lock s) t clock worked np left sems = lock_reply t s.0 np sems
  op_reply (ops.Unlock s) t clock worked np left sems = unlock_reply t s.0 sems
  op_reply (ops.Sleep n) t clock worked np left sems = rest_reply np sems.held
  op_reply ops.NpOn t clock worked np left sems = np_on_reply np
  op_reply ops.NpOff t clock worked np left sems = np_off_reply np
  op_reply ops.End t clock worked np left sems = rest_reply np sems.held

  abbrev pub do_reply : Op → ℕ → Option ℕ → ℕ → SemFacts → Kept → Reply
  do_reply op q None left sems k = replies.Idle
  do_reply op q (Some t) left sems k = op_reply op t k.clock (cpu_of k q).worked (job_of k t).np left sems

  -- ---- every act

  abbrev pub reply_of : ℕ → Act → Option ℕ → ℕ → SemFacts → Kept → Reply
  reply_of q acts.Tick link left sems k = replies.Done
  reply_of q acts.Irq link left sems k = irq_reply link (cpu_of k q).runs (np_of k (cpu_of k q).runs)
  reply_of q (acts.Arrive t) link left sems k = arrival_reply k.clock (task g t.0) (job_of k t.0)
  reply_of q (acts.Do op) link left sems k = do_reply op q (cpu_of k q).runs left sems k

-- the semaphore that an act asks for, and the one that it frees
abbrev pub asked_by : Act → Option ℕ
asked_by (acts.Do (ops.Lock s)) = Some s.0
asked_by _ = None

abbrev pub freed_by : Act → Option ℕ
freed_by (acts.Do (ops.Unlock s)) = Some s.0
freed_by _ = None

-- a list has just the semaphores that a task holds
pub record AreHeld (g : Group) (t : ℕ) (past : Past) (held : List ℕ) : Type 0 where
  pub once : IsDistinct held
  pub members : (s : ℕ) → has s held ≡ has s (holds g t past)

-- what is given is of the past
pub record IsSeen (g : Group) (q : ℕ) (act : Act) (past : Past) (link : Option ℕ) (budget : ℕ) (sems : SemFacts) : Type 0 where
  pub link_is : link ≡ linked g q past
  pub budget_is : (t : ℕ) → runs q past ≡ Some t → is_p_res g.setup.plugin ≡ true → budget ≡ left g (served_by g t) past
  pub held_are : (t : ℕ) → runs q past ≡ Some t → AreHeld g t past sems.held
  pub granted_is : (t s : ℕ) → runs q past ≡ Some t → asked_by act ≡ Some s → sems.granted ≡ is_granted g (protocol g s) s t past
  pub holder_is : (s : ℕ) → freed_by act ≡ Some s → sems.holder ≡ holder g s past
  pub last_is : (t s : ℕ) → runs q past ≡ Some t → freed_by act ≡ Some s → sems.last ≡ last_granted g t past

-- Each reply is read off these.
abbrev pub ReplyIsRead : Type 0
ReplyIsRead = EveryPast (λ g past. (q : ℕ) (act : Act) (link : Option ℕ) (budget : ℕ) (sems : SemFacts) (k : Kept) → IsOfGroup g q act
    → IsKept g past k → IsSeen g q act past link budget sems → reply_of g q act link budget sems k ≡ answer g q act past)

-- Whether a task holds nothing can be read off any such list.
abbrev pub HeldIsRead : Type 0
HeldIsRead = (g : Group) (t : ℕ) (past : Past) (held : List ℕ) → AreHeld g t past held
    → (is_empty held ≡ is_empty (holds g t past)) × (length held ≡ length (holds g t past))
