-- What the reader's parts promise of one another.
use Rattle.std.specs.Prelude.{◌≡◌, ◌≢◌, true, ℕ, ◌++◌, ◌∷◌, List, length, flat_map, All, Option, Some, option_map}
use Rattle.std.specs.Str.{IsUtf8}
use Rattle.rt_task.specs.declared.Task.{Task}
use Rattle.rt_task.specs.RuleWords.{is_name}
use Rattle.set_read.specs.Document.{position_from}
use Rattle.trace_lines.specs.Words.{join}
use Rattle.trace_lines.specs.Grammar.{line_words, line_text}
use Rattle.trace_lines.specs.Known as known
use Rattle.trace_lines.specs.Lines as grammar
use Rattle.trace_read.specs.Lines.{line_of}
use Rattle.trace_read.specs.declared.lines.Line.{Line}
use Rattle.rt_task.specs.declared.bad_set.SetStop.{SetStop}
use Rattle.rt_task.specs.declared.bad_set.SetStop.TheVariants as stops
use Rattle.trace_read.specs.declared.fault.TraceFault.{TraceFault}
use Rattle.trace_read.specs.declared.fault.TraceFault.TheVariants as faults

-- each task has a name by the rules, and is found again by it
pub record Tells (k : known.Known) : Type 0 where
  pub is_named : (t : ℕ) → known.IsNumberOf (length k.names) t → is_name (known.name_at k.names t) ≡ true
  pub is_found : (t : ℕ) → known.IsNumberOf (length k.names) t → position_from 1 k.names (known.name_at k.names t) ≡ t

-- each task's name is text
abbrev pub AreTexts : List Task → Type 0
AreTexts tasks = All (λ (t : Task). IsUtf8 t.name) tasks

-- the text begins with no line of the grammar
abbrev pub BeginsNoLine : known.Known → List ℕ → Type 0
BeginsNoLine k text = (l : grammar.Line) (more : List ℕ) → known.IsLine k l → text ≢ line_text k l ++ more

-- the text begins with this line, and then comes the rest
pub record BeginsLine (k : known.Known) (text : List ℕ) (l : grammar.Line) (rest : List ℕ) : Type 0 where
  pub is_line : known.IsLine k l
  pub text_is : text ≡ line_text k l ++ rest

-- each line of the grammar comes back out of its text without its line feed
abbrev pub ReadsBack : known.Known → List ℕ → Option Line → Type 0
ReadsBack k text o = (l : grammar.Line) → known.IsLine k l → text ≡ join 32 (line_words k l) → option_map line_of o ≡ Some l

-- what stands before the first line feed and what after it
pub record IsSplitAtFeed (text front rest : List ℕ) : Type 0 where
  pub text_is : text ≡ front ++ 10 ∷ rest
  pub on_one_line : All (λ (c : ℕ). c ≢ 10) front

-- the text begins with these lines, and then comes what is left
pub record BeginsLines (k : known.Known) (text : List ℕ) (lines : List grammar.Line) (left : List ℕ) : Type 0 where
  pub lines_known : All (known.IsLine k) lines
  pub text_is : text ≡ flat_map (line_text k) lines ++ left

-- why a set was not read, as a fault of its trace
abbrev pub fault_of : SetStop → TraceFault
fault_of stops.NoMemory = faults.NoMemory
fault_of (stops.Bad b) = faults.BadSet b
