-- What an act of a partition's processor comes to, as far as the partition says it alone, read off what it keeps and the processor's link.
use Rattle.std.specs.Prelude.{◌≡◌, ℕ, true, false, not, Option, None, Some, if◌then◌else◌, is_some}
use Rattle.rt_base.specs.declared.Ask.{Ask}
use Rattle.rt_base.specs.declared.SemNo.{SemNo}
use Rattle.rt_task.specs.RuleWords.{is_p_res}
use Rattle.rt_task.specs.declared.Act.{Act}
use Rattle.rt_task.specs.declared.Act.TheVariants as acts
use Rattle.rt_task.specs.declared.Op.{Op}
use Rattle.rt_task.specs.declared.Op.TheVariants as ops
use Rattle.rt_task.specs.declared.Parts.{Parts}
use Rattle.rt_rules.specs.declared.history.Reply.{Reply}
use Rattle.rt_rules.specs.declared.history.Reply.TheVariants as replies
use Rattle.rt_rules.specs.Numbers.{has, same}
use Rattle.rt_model.specs.Group.{Group, group_processors, tasks}
use Rattle.rt_model.specs.Runs.{runs}
use Rattle.group_jobs.specs.Kept.{cpu_of}
use Rattle.group_jobs.specs.Replies.{irq_reply, work_reply}
use Rattle.group_jobs.specs.GroupJobs.{task_in}
use Rattle.split_rules.specs.PartAnswers.{answer, asked}
use Rattle.split_rules.specs.PartLinks.{linked}
use Rattle.split_rules.specs.PartPast.{PartPast, moves}
use Rattle.part_state.specs.Uses.{is_declared}
use Rattle.part_state.specs.States.{IsAt, PartState, lock_of, sem_number}
use Rattle.part_state.specs.declared.replies.PartReply.{PartReply}
use Rattle.part_state.specs.declared.replies.PartReply.TheVariants.{Asks, Frees, Is}

-- the reply, where the task's request at the semaphore, if it makes one, is answered so
abbrev pub reply_by : PartReply → Ask → Reply
reply_by (Is r) a = r
reply_by (Asks t s) a = asked a
reply_by (Frees t s) a = replies.Done

module _ (p : Parts) (s : PartState) (q : ℕ) where
  abbrev pub lock_reply : ℕ → SemNo → PartReply
  lock_reply t r =
      if not (is_declared r (task_in p.tasks t).uses) then Is replies.NotDeclared
      else (if is_some (lock_of s t).holds then Is replies.Nested else Asks (record { 0 = t }) r)

  abbrev pub unlock_reply : ℕ → SemNo → PartReply
  unlock_reply t r = if same (sem_number (lock_of s t).holds) (Some r.0) then Frees (record { 0 = t }) r else Is replies.NotHeld

  abbrev pub end_reply : ℕ → PartReply
  end_reply t = if is_some (lock_of s t).holds then Is replies.Holding else Is replies.Done

  abbrev pub op_reply : Op → ℕ → PartReply
  op_reply ops.Work t = Is (work_reply s.kept.clock (cpu_of s.kept q).worked false)
  op_reply (ops.Lock r) t = lock_reply t r
  op_reply (ops.Unlock r) t = unlock_reply t r
  op_reply ops.End t = end_reply t
  op_reply _ t = Is replies.Idle

  abbrev pub do_reply : Op → Option ℕ → PartReply
  do_reply op None = Is replies.Idle
  do_reply op (Some t) = op_reply op t

  abbrev pub part_reply : Act → Option ℕ → PartReply
  part_reply acts.Tick link = Is replies.Done
  part_reply acts.Irq link = Is (irq_reply link (cpu_of s.kept q).runs false)
  part_reply (acts.Arrive t) link = Is replies.NotSporadic
  part_reply (acts.Do op) link = do_reply op (cpu_of s.kept q).runs

-- the processor is of the group, what it runs is a task of the group, and no reservation is asked for budget
pub record IsOwn (g : Group) (q : ℕ) (past : PartPast) : Type 0 where
  pub inside : has q (group_processors g) ≡ true
  pub runs_in : (t : ℕ) → runs q (moves past) ≡ Some t → has t (tasks g) ≡ true
  pub no_resvs : is_p_res g.setup.plugin ≡ false

-- So each reply is read.
abbrev pub ReplyIsRead : Type 0
ReplyIsRead = (g : Group) (q : ℕ) (past : PartPast) (s : PartState) (act : Act) (a : Ask) → IsOwn g q past → IsAt g past s
    → reply_by (part_reply g.setup s q act (linked g q past)) a ≡ answer g q act a past
