-- What the reader makes of the text of a line before it is checked. What is promised of a trace
-- cites none of this: the laws say that each line of the grammar is given back.
use Rattle.std.specs.Prelude.{ℕ, suc, Bool, false, ◌+◌, ◌-◌, ◌*◌, ◌^◌, ◌==◌, nat_lt, List, [], ◌∷◌, Option, None, Some, option_map}
use Rattle.std.specs.Prelude.{if◌then◌else◌, bytes_eq, codes}
use Rattle.std.specs.Char.{is_ascii_digit}
use Rattle.rt_task.specs.declared.Op.TheVariants as ops
use Rattle.rt_task.specs.declared.Act.{Act}
use Rattle.rt_task.specs.declared.Act.TheVariants as acts
use Rattle.rt_rules.specs.declared.history.Reply.{Reply}
use Rattle.rt_rules.specs.declared.history.Reply.TheVariants as replies
use Rattle.rt_rules.specs.declared.history.Entry.{Entry}
use Rattle.trace_lines.specs.declared.format.Version.{Version}
use Rattle.trace_lines.specs.declared.format.Version.TheVariants.{One, Two}
use Rattle.trace_lines.specs.Known.{Known}
use Rattle.trace_lines.specs.Words.{Word}
use Rattle.trace_lines.specs.Lines.{Link, Line, group_line, entry_line, block_line, end_line, count_line}
use Rattle.set_read.specs.Document.{position_from}
use Rattle.set_read.specs.Forms.{◌>>=◌, word_in}

-- ---- words

-- what stands before the first such byte, and what stands after it
abbrev pub cut : ℕ → List ℕ → List ℕ × List ℕ
cut c [] = ([], [])
cut c (x ∷ xs) = if x == c then ([], xs) else (x ∷ (cut c xs).0, (cut c xs).1)

-- the line that a text begins with: what stands before its first line feed
abbrev pub front : List ℕ → List ℕ
front text = (cut 10 text).0

-- and what stands behind it: behind its first line feed, and nothing where it has none
abbrev pub behind : List ℕ → List ℕ
behind text = (cut 10 text).1

abbrev pub longer_first : ℕ → List Word → List Word
longer_first x [] = (x ∷ []) ∷ []
longer_first x (w ∷ ws) = (x ∷ w) ∷ ws

-- one cut after another, until nothing is left
abbrev pub pieces : ℕ → List ℕ → List Word
pieces c [] = []
pieces c (x ∷ xs) = if x == c then [] ∷ pieces c xs else longer_first x (pieces c xs)

-- a value for each, and none where one has none
abbrev pub each_in : {A : Type 0} → (Word → Option A) → List Word → Option (List A)
each_in read [] = Some []
each_in read (w ∷ ws) = read w >>= λ x. option_map (λ xs. x ∷ xs) (each_in read ws)

-- where the first such byte stands
abbrev pub cut_length : ℕ → List ℕ → ℕ
cut_length c [] = 0
cut_length c (x ∷ xs) = if x == c then 0 else suc (cut_length c xs)

-- where the first word of a line ends
abbrev pub word_length : List ℕ → ℕ
word_length [] = 0
word_length (x ∷ xs) = if x == 32 then 0 else (if x == 10 then 0 else suc (word_length xs))

-- what stands after a word: a space is stepped over
abbrev pub after_word : List ℕ → List ℕ
after_word [] = []
after_word (x ∷ xs) = if x == 32 then xs else x ∷ xs

-- ---- numbers

abbrev pub when_64 : ℕ → Option ℕ
when_64 n = if nat_lt n (2 ^ 64) then Some n else None

abbrev pub next_digit : ℕ → ℕ → Option ℕ
next_digit n c = if is_ascii_digit c then when_64 (n * 10 + (c - 48)) else None

abbrev pub number_after : ℕ → Word → Option ℕ
number_after n [] = Some n
number_after n (c ∷ cs) = next_digit n c >>= λ m. number_after m cs

abbrev pub number_in : Word → Option ℕ
number_in w = number_after 0 w

abbrev pub when_32 : ℕ → Option ℕ
when_32 n = if nat_lt n (2 ^ 32) then Some n else None

abbrev pub small_in : Word → Option ℕ
small_in w = number_in w >>= when_32

-- a number, or a dash for none
abbrev pub small_or_dash : Word → Option (Option ℕ)
small_or_dash w = if bytes_eq w (codes "-") then Some None else option_map Some (small_in w)

-- a value, and what stands after it
abbrev pub Read : Type 0 → Type 0
Read A = Option (A × List ℕ)

abbrev pub number_at : List ℕ → Read ℕ
number_at text = option_map (λ n. (n, (cut 32 text).1)) (number_in (cut 32 text).0)

abbrev pub small_at : List ℕ → Read ℕ
small_at text = option_map (λ n. (n, (cut 32 text).1)) (small_in (cut 32 text).0)

abbrev pub begins_with_digit : List ℕ → Bool
begins_with_digit [] = false
begins_with_digit (c ∷ cs) = is_ascii_digit c

-- the number that the digits at the beginning say, after the number so far, and what stands after them
abbrev pub digits_after : ℕ → List ℕ → Read ℕ
digits_after n [] = Some (n, [])
digits_after n (c ∷ cs) = if is_ascii_digit c then (next_digit n c >>= λ m. digits_after m cs) else Some (n, c ∷ cs)

-- a number whose digits end so, and what is left of its line
abbrev pub number_end : ℕ → List ℕ → Read ℕ
number_end n [] = Some (n, [])
number_end n (c ∷ cs) = if c == 10 then Some (n, []) else (if c == 32 then Some (n, front cs) else None)

-- ---- tasks

-- the task that a word says: in format 1 its number, in format 2 what stands after an @ is its name
abbrev pub task_by : Version → List Word → Word → Option ℕ
task_by One names w = small_in w
task_by Two names w = Some (position_from 1 names (cut 64 w).1)

abbrev pub task_in : Known → Word → Option ℕ
task_in k w = task_by k.version k.names w

-- a task, or a dash for none
abbrev pub target_in : Known → Word → Option (Option ℕ)
target_in k w = if bytes_eq w (codes "-") then Some None else option_map Some (task_in k w)

abbrev pub task_at : Known → List ℕ → Read ℕ
task_at k text = option_map (λ n. (n, (cut 32 text).1)) (task_in k (cut 32 text).0)

-- ---- acts and replies

abbrev pub bare_acts : List (Word × Act)
bare_acts =
    (codes "tick", acts.Tick) ∷ (codes "irq", acts.Irq) ∷ (codes "work", acts.Do ops.Work)
    ∷ (codes "npon", acts.Do ops.NpOn) ∷ (codes "npoff", acts.Do ops.NpOff) ∷ (codes "end", acts.Do ops.End) ∷ []

abbrev pub sem_act : Word → ℕ → Option Act
sem_act w n =
    if bytes_eq w (codes "lock") then Some (acts.Do (ops.Lock (record { 0 = n })))
    else (if bytes_eq w (codes "unlock") then Some (acts.Do (ops.Unlock (record { 0 = n }))) else None)

abbrev pub act_with : Word → ℕ → Option Act
act_with w n = if bytes_eq w (codes "sleep") then Some (acts.Do (ops.Sleep n)) else (when_32 n >>= sem_act w)

abbrev pub number_act_at : Word → List ℕ → Read Act
number_act_at w text = number_at text >>= λ p. option_map (λ a. (a, p.1)) (act_with w p.0)

abbrev pub arrive_at : Known → List ℕ → Read Act
arrive_at k text = option_map (λ p. (acts.Arrive (record { 0 = p.0 }), p.1)) (task_at k text)

abbrev pub act_after : Known → Word → Option Act → List ℕ → Read Act
act_after k w (Some a) text = Some (a, text)
act_after k w None text = if bytes_eq w (codes "arrive") then arrive_at k text else number_act_at w text

abbrev pub act_at : Known → List ℕ → Read Act
act_at k text = act_after k (cut 32 text).0 (word_in bare_acts (cut 32 text).0) (cut 32 text).1

abbrev pub bare_replies : List (Word × Reply)
bare_replies =
    (codes "done", replies.Done) ∷ (codes "idles", replies.Idles) ∷ (codes "granted", replies.Granted)
    ∷ (codes "queued", replies.Queued) ∷ (codes "quiet", replies.Quiet)
    ∷ (codes "deferred", replies.Deferred) ∷ (codes "idle", replies.Idle) ∷ (codes "spent", replies.Spent)
    ∷ (codes "nobudget", replies.NoBudget) ∷ (codes "notdeclared", replies.NotDeclared)
    ∷ (codes "nested", replies.Nested) ∷ (codes "notheld", replies.NotHeld) ∷ (codes "notlast", replies.NotLast)
    ∷ (codes "holding", replies.Holding) ∷ (codes "innp", replies.InNp)
    ∷ (codes "notinnp", replies.NotInNp) ∷ (codes "tooearly", replies.TooEarly) ∷ (codes "notsporadic", replies.NotSporadic) ∷ []

abbrev pub runs_at : Known → List ℕ → Read Reply
runs_at k text = option_map (λ p. (replies.Runs (record { 0 = p.0 }), p.1)) (task_at k text)

abbrev pub reply_after : Known → Word → Option Reply → List ℕ → Read Reply
reply_after k w (Some r) text = Some (r, text)
reply_after k w None text = if bytes_eq w (codes "runs") then runs_at k text else None

abbrev pub reply_at : Known → List ℕ → Read Reply
reply_at k text = reply_after k (cut 32 text).0 (word_in bare_replies (cut 32 text).0) (cut 32 text).1

-- ---- links

abbrev pub link_in : Known → Word → Option Link
link_in k w = small_in (cut 58 w).0 >>= λ cpu. option_map (λ task. (cpu, task)) (target_in k (cut 58 w).1)

abbrev pub links_in : Known → List ℕ → Option (List Link)
links_in k text = each_in (link_in k) (pieces 32 text)

abbrev pub totals_in : List ℕ → Option (List ℕ)
totals_in text = each_in number_in (pieces 32 text)

-- ---- lines

unfoldable pub entry_at : Known → List ℕ → Read Entry
entry_at k text = do
  tick ← number_at text
  cpu ← small_at tick.1
  act ← act_at k cpu.1
  reply ← reply_at k act.1
  Some (record { step = record { cpu = record { 0 = cpu.0 }; tick = record { 0 = tick.0 }; act = act.0 }; reply = reply.0 }, reply.1)

-- the entry behind the first word
abbrev pub entry_said : Known → List ℕ → Option Entry
entry_said k text = option_map (λ p. p.0) (entry_at k (cut 32 text).1)

unfoldable pub entry_line_in : Known → List ℕ → Option Line
entry_line_in k text = do
  number ← small_at text
  entry ← entry_at k number.1
  links ← links_in k entry.1
  Some (entry_line number.0 entry.0 links)

unfoldable pub group_line_in : Known → List ℕ → Option Line
group_line_in k text = do
  group ← small_at text
  links ← links_in k group.1
  Some (group_line group.0 links)

unfoldable pub block_line_in : Known → List ℕ → Option Line
block_line_in k text = do
  number ← small_at text
  task ← task_at k number.1
  sem ← small_at task.1
  ends ← small_at sem.1
  all ← small_at ends.1
  bound ← small_or_dash all.1
  Some (block_line number.0 task.0 sem.0 ends.0 all.0 bound)

abbrev pub name_in : Word → Option ℕ
name_in (c ∷ []) = Some c
name_in w = None

unfoldable pub count_line_in : List ℕ → Option Line
count_line_in text = do
  name ← name_in (cut 32 text).0
  totals ← totals_in (cut 32 text).1
  Some (count_line name totals)

-- a line by its first word, which for an entry is its number
abbrev pub line_after : Known → Word → List ℕ → List ℕ → Option Line
line_after k w text rest =
    if bytes_eq w (codes "group") then group_line_in k rest
    else (if bytes_eq w (codes "block") then block_line_in k rest
    else (if bytes_eq w (codes "end") then Some end_line
    else (if bytes_eq w (codes "count") then count_line_in rest else entry_line_in k text)))

unfoldable pub line_in : Known → List ℕ → Option Line
line_in k text = line_after k (cut 32 text).0 text (cut 32 text).1
