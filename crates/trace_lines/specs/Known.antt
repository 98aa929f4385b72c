-- Which lines a trace of a set may have: their numbers fit the types of their fields, and their tasks and semaphores are the set's.
use Rattle.std.specs.Prelude.{ℕ, ◌-◌, ◌^◌, ◌<◌, ◌≤◌, ◌==◌, ◌⊎◌, List, [], length, map, All, Option, None, Some, unwrap_or, slice_get}
use Rattle.std.specs.Prelude.{if◌then◌else◌}
use Rattle.rt_base.specs.declared.TheConstants.{MOST_TOTALS}
use Rattle.rt_task.specs.declared.Op.{Op}
use Rattle.rt_task.specs.declared.Op.TheVariants as ops
use Rattle.rt_task.specs.declared.Act.{Act}
use Rattle.rt_task.specs.declared.Act.TheVariants as acts
use Rattle.rt_task.specs.declared.Parts.{Parts}
use Rattle.rt_task.specs.declared.Task.{Task}
use Rattle.rt_rules.specs.declared.history.Reply.{Reply}
use Rattle.rt_rules.specs.declared.history.Reply.TheVariants as replies
use Rattle.trace_lines.specs.declared.format.Format.{Format}
use Rattle.trace_lines.specs.declared.format.Version.{Version}
use Rattle.trace_lines.specs.Words.{Word}
use Rattle.trace_lines.specs.Lines.{Link, Line, group_line, entry_line, block_line, end_line, count_line}

-- the format of a trace, the names of its set's tasks, and how many semaphores the set has
pub record Known : Type 0 where
  pub version : Version
  pub names : List Word
  pub sems : ℕ

abbrev pub task_names : List Task → List Word
task_names ts = map (λ (t : Task). t.name) ts

abbrev pub known_of : Version → Parts → Known
known_of version p = record { version = version; names = task_names p.tasks; sems = length p.sems }

abbrev pub known_in : Format → Known
known_in f = known_of f.version f.parts.now

-- the name of the task with this number, from 1; a number that stands for no task has the empty name
abbrev pub name_at : List Word → ℕ → Word
name_at names n = if n == 0 then [] else unwrap_or (slice_get names (n - 1)) []

abbrev pub Is32 : ℕ → Type 0
Is32 n = n < 2 ^ 32

abbrev pub Is64 : ℕ → Type 0
Is64 n = n < 2 ^ 64

-- the number of one of so many, which are numbered from 1
pub record IsNumberOf (most n : ℕ) : Type 0 where
  pub low : 1 ≤ n
  pub high : n ≤ most
  pub fits : Is32 n

abbrev pub OpIsKnown : Known → Op → Type 0
OpIsKnown k (ops.Lock s) = IsNumberOf k.sems s.0
OpIsKnown k (ops.Unlock s) = IsNumberOf k.sems s.0
OpIsKnown k (ops.Sleep n) = Is64 n
OpIsKnown k _ = Unit {0}

abbrev pub ActIsKnown : Known → Act → Type 0
ActIsKnown k (acts.Arrive t) = IsNumberOf (length k.names) t.0
ActIsKnown k (acts.Do op) = OpIsKnown k op
ActIsKnown k _ = Unit {0}

abbrev pub ReplyIsKnown : Known → Reply → Type 0
ReplyIsKnown k (replies.Runs t) = IsNumberOf (length k.names) t.0
ReplyIsKnown k _ = Unit {0}

abbrev pub TargetIsKnown : Known → Option ℕ → Type 0
TargetIsKnown k None = Unit {0}
TargetIsKnown k (Some t) = IsNumberOf (length k.names) t

abbrev pub LinkIsKnown : Known → Link → Type 0
LinkIsKnown k x = Is32 x.0 × TargetIsKnown k x.1

abbrev pub BoundIsKnown : Option ℕ → Type 0
BoundIsKnown None = Unit {0}
BoundIsKnown (Some n) = Is32 n

-- an ASCII letter
abbrev pub IsLetter : ℕ → Type 0
IsLetter c = ((65 ≤ c) × (c ≤ 90)) ⊎ ((97 ≤ c) × (c ≤ 122))

pub record IsEntryLine (k : Known) (i tick cpu : ℕ) (act : Act) (reply : Reply) (links : List Link) : Type 0 where
  pub number : Is32 i
  pub tick_fits : Is64 tick
  pub cpu_fits : Is32 cpu
  pub act_known : ActIsKnown k act
  pub reply_known : ReplyIsKnown k reply
  pub links_known : All (LinkIsKnown k) links

pub record IsBlockLine (k : Known) (i t s ends all : ℕ) (bound : Option ℕ) : Type 0 where
  pub number : Is32 i
  pub task_known : IsNumberOf (length k.names) t
  pub sem_known : IsNumberOf k.sems s
  pub ends_fit : Is32 ends
  pub all_fit : Is32 all
  pub bound_fits : BoundIsKnown bound

-- a line of the grammar: a group line has a link, and a count line a letter and at most 64 totals
abbrev pub IsLine : Known → Line → Type 0
IsLine k (group_line g links) = Is32 g × (1 ≤ length links) × All (LinkIsKnown k) links
IsLine k (entry_line i e links) = IsEntryLine k i e.step.tick.0 e.step.cpu.0 e.step.act e.reply links
IsLine k (block_line i t s ends all bound) = IsBlockLine k i t s ends all bound
IsLine k end_line = Unit {0}
IsLine k (count_line name totals) = IsLetter name × (length totals ≤ MOST_TOTALS) × All Is64 totals
