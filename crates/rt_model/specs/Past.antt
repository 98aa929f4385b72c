-- The past of a group: its moves, each with what it did, the newest first.
use Rattle.std.specs.Prelude.{ℕ, ◌+◌, max, Bool, true, false, ◌&&◌, List, [], ◌∷◌, Option, None, Some, if◌then◌else◌}
use Rattle.rt_task.specs.declared.Act.{Act}
use Rattle.rt_task.specs.declared.Act.TheVariants as acts
use Rattle.rt_task.specs.declared.Op.{Op}
use Rattle.rt_task.specs.declared.Op.TheVariants as ops
use Rattle.rt_rules.specs.declared.history.Reply.{Reply}
use Rattle.rt_rules.specs.declared.history.Reply.TheVariants as replies
use Rattle.rt_rules.specs.Numbers.{is}
use Rattle.rt_rules.specs.SemState.{SemAct, Asks, Frees, Neither}

-- an act of a processor: the task that the processor ran, the reply, and the task whose job the act ended
pub record PastAct : Type 0 where
  pub cpu : ℕ
  pub act : Act
  pub task : Option ℕ
  pub reply : Reply
  pub ended : Option ℕ

pub data Event : Type 0 where
  Clock : ℕ → Event
  Acted : PastAct → Event

abbrev pub Past : Type 0
Past = List Event

-- the clock: the greatest tick so far
abbrev pub now : Past → ℕ
now [] = 0
now (Clock tick ∷ past) = max (now past) tick
now (Acted d ∷ past) = now past

abbrev pub accepted : Reply → Bool
accepted replies.Done = true
accepted (replies.Runs t) = true
accepted replies.Idles = true
accepted replies.Granted = true
accepted replies.Queued = true
accepted _ = false

-- the operation that a task did in an event
abbrev pub operation : Act → Option Op
operation (acts.Do op) = Some op
operation _ = None

abbrev pub did : ℕ → Event → Option Op
did t (Clock tick) = None
did t (Acted d) = if is t d.task && accepted d.reply then operation d.act else None

abbrev pub is_work : Option Op → Bool
is_work (Some ops.Work) = true
is_work _ = false

abbrev pub is_any : Option Op → Bool
is_any (Some op) = true
is_any None = false

-- whether the event ended a job of the task
abbrev pub ends_job : ℕ → Event → Bool
ends_job t (Clock tick) = false
ends_job t (Acted d) = is t d.ended

-- what an event does at a semaphore
abbrev pub sem_act_of : Act → Option ℕ → SemAct
sem_act_of (acts.Do (ops.Lock s)) (Some t) = Asks t s.0
sem_act_of (acts.Do (ops.Unlock s)) (Some t) = Frees t s.0
sem_act_of _ _ = Neither

abbrev pub sem_act : Event → SemAct
sem_act (Clock tick) = Neither
sem_act (Acted d) = if accepted d.reply then sem_act_of d.act d.task else Neither

-- how many events pass a test, and the events that are newer than the newest one that does
abbrev pub number_of : (Event → Bool) → Past → ℕ
number_of test [] = 0
number_of test (e ∷ past) = if test e then number_of test past + 1 else number_of test past

abbrev pub since : (Event → Bool) → Past → Past
since test [] = []
since test (e ∷ past) = if test e then [] else (e ∷ since test past)

-- the number that the next entry has
abbrev pub is_act : Event → Bool
is_act (Clock tick) = false
is_act (Acted d) = true

abbrev pub entries_in : Past → ℕ
entries_in past = number_of is_act past
