-- When an entry of a partition's history can be played again.
use Rattle.std.specs.Prelude.{◌≡◌, ℕ, ◌<◌, ◌≤◌, Bool, true, false, not, ◌||◌, List, length, Some, ⊤}
use Rattle.rt_task.specs.declared.Act.{Act}
use Rattle.rt_task.specs.declared.Act.TheVariants as acts
use Rattle.rt_task.specs.declared.Op.{Op}
use Rattle.rt_task.specs.declared.Op.TheVariants as ops
use Rattle.rt_task.specs.declared.Task.{Task}
use Rattle.rt_rules.specs.declared.history.Reply.{Reply}
use Rattle.rt_rules.specs.declared.history.Reply.TheVariants as replies
use Rattle.rt_model.specs.Past.{accepted}
use Rattle.group_jobs.specs.Kept.{cpu_of}
use Rattle.group_jobs.specs.GroupJobs.{IsTaskOf, is_op_reply}
use Rattle.split_rules.specs.declared.SplitAct.{SplitAct}
use Rattle.split_rules.specs.declared.SplitAct.TheVariants.{Plain, Take}
use Rattle.split_rules.specs.declared.SplitEntry.{SplitEntry}
use Rattle.part_state.specs.States.{PartState, with_clock}

-- an interrupt brings a link, or is refused
abbrev pub is_irq_reply : Reply → Bool
is_irq_reply (replies.Runs t) = true
is_irq_reply replies.Idles = true
is_irq_reply r = not (accepted r)

-- an operation is done, or is refused, as each Sleep is
abbrev pub IsOpReply : Op → Reply → Type 0
IsOpReply (ops.Sleep n) r = accepted r ≡ false
IsOpReply op r = is_op_reply r || not (accepted r) ≡ true

abbrev pub IsReplyTo : Act → Reply → Type 0
IsReplyTo acts.Tick r = ⊤
IsReplyTo acts.Irq r = is_irq_reply r ≡ true
IsReplyTo (acts.Arrive t) r = accepted r ≡ false
IsReplyTo (acts.Do op) r = IsOpReply op r

-- an act of processor q, answered so, where this is kept
pub record CanAct (all : List Task) (q : ℕ) (act : Act) (reply : Reply) (s : PartState) : Type 0 where
  pub cpu : q < length s.kept.cpus
  pub runs : (t : ℕ) → (cpu_of s.kept q).runs ≡ Some t → IsTaskOf s.kept all t
  pub answered : IsReplyTo act reply

abbrev pub CanPlayBy : List Task → ℕ → SplitAct → SplitEntry → PartState → Type 0
CanPlayBy all q (Plain act) e s = CanAct all q act e.reply (with_clock e.tick.0 s)
CanPlayBy all q (Take r n t) e s = (1 ≤ t.0) × (t.0 ≤ length s.kept.jobs)

abbrev pub CanPlay : List Task → ℕ → SplitEntry → PartState → Type 0
CanPlay all q e s = CanPlayBy all q e.act e s
