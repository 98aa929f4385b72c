-- What a line of a trace says, word by word.
use Rattle.std.specs.Prelude.{ℕ, List, [], ◌∷◌, ◌++◌, map, Option, None, Some, codes, decimal}
use Rattle.rt_task.specs.declared.Op.TheVariants as ops
use Rattle.rt_task.specs.declared.Act.{Act}
use Rattle.rt_task.specs.declared.Act.TheVariants as acts
use Rattle.rt_rules.specs.declared.history.Reply.{Reply}
use Rattle.rt_rules.specs.declared.history.Reply.TheVariants as replies
use Rattle.trace_lines.specs.declared.format.Version.{Version}
use Rattle.trace_lines.specs.declared.format.Version.TheVariants.{One, Two}
use Rattle.trace_lines.specs.Words.{Word, join}
use Rattle.trace_lines.specs.Known.{Known, name_at}
use Rattle.trace_lines.specs.Lines.{Link, Line, group_line, entry_line, block_line, end_line, count_line}

-- a task by its number, in format 2 an @ and the task's name
abbrev pub task_in : Version → List Word → ℕ → Word
task_in One names t = decimal t
task_in Two names t = 64 ∷ name_at names t

-- a number, or a dash where there is none
abbrev pub number_word : Option ℕ → Word
number_word None = codes "-"
number_word (Some n) = decimal n

module _ (k : Known) where
  -- a task as the format has it
  abbrev pub task_word : ℕ → Word
  task_word t = task_in k.version k.names t

  -- a task, or a dash where there is none
  abbrev pub target_word : Option ℕ → Word
  target_word None = codes "-"
  target_word (Some t) = task_word t

  -- an act, and the task, semaphore or duration that it names
  abbrev pub act_words : Act → List Word
  act_words acts.Tick = codes "tick" ∷ []
  act_words acts.Irq = codes "irq" ∷ []
  act_words (acts.Arrive t) = codes "arrive" ∷ task_word t.0 ∷ []
  act_words (acts.Do ops.Work) = codes "work" ∷ []
  act_words (acts.Do (ops.Lock s)) = codes "lock" ∷ decimal s.0 ∷ []
  act_words (acts.Do (ops.Unlock s)) = codes "unlock" ∷ decimal s.0 ∷ []
  act_words (acts.Do (ops.Sleep n)) = codes "sleep" ∷ decimal n ∷ []
  act_words (acts.Do ops.NpOn) = codes "npon" ∷ []
  act_words (acts.Do ops.NpOff) = codes "npoff" ∷ []
  act_words (acts.Do ops.End) = codes "end" ∷ []

  -- a reply, and the task that it names
  abbrev pub reply_words : Reply → List Word
  reply_words replies.Done = codes "done" ∷ []
  reply_words (replies.Runs t) = codes "runs" ∷ task_word t.0 ∷ []
  reply_words replies.Idles = codes "idles" ∷ []
  reply_words replies.Granted = codes "granted" ∷ []
  reply_words replies.Queued = codes "queued" ∷ []
  reply_words replies.Quiet = codes "quiet" ∷ []
  reply_words replies.Deferred = codes "deferred" ∷ []
  reply_words replies.Idle = codes "idle" ∷ []
  reply_words replies.Spent = codes "spent" ∷ []
  reply_words replies.NoBudget = codes "nobudget" ∷ []
  reply_words replies.NotDeclared = codes "notdeclared" ∷ []
  reply_words replies.Nested = codes "nested" ∷ []
  reply_words replies.NotHeld = codes "notheld" ∷ []
  reply_words replies.NotLast = codes "notlast" ∷ []
  reply_words replies.Holding = codes "holding" ∷ []
  reply_words replies.InNp = codes "innp" ∷ []
  reply_words replies.NotInNp = codes "notinnp" ∷ []
  reply_words replies.TooEarly = codes "tooearly" ∷ []
  reply_words replies.NotSporadic = codes "notsporadic" ∷ []

  -- a processor, a colon, and the task that it is linked to
  abbrev pub link_word : Link → Word
  link_word x = decimal x.0 ++ 58 ∷ target_word x.1

  unfoldable pub line_words : Line → List Word
  line_words (group_line g links) = codes "group" ∷ decimal g ∷ map link_word links
  line_words (entry_line i e links) =
      decimal i ∷ decimal e.step.tick.0 ∷ decimal e.step.cpu.0
      ∷ (act_words e.step.act ++ (reply_words e.reply ++ map link_word links))
  line_words (block_line i t s ends all bound) =
      codes "block" ∷ decimal i ∷ task_word t ∷ decimal s ∷ decimal ends ∷ decimal all ∷ number_word bound ∷ []
  line_words end_line = codes "end" ∷ []
  line_words (count_line name totals) = codes "count" ∷ (name ∷ []) ∷ map decimal totals

  -- the text of a line: its words, one space between them, and a line feed
  unfoldable pub line_text : Line → List ℕ
  line_text l = join 32 (line_words l) ++ 10 ∷ []
