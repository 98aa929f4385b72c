-- What is promised of the texts of plays.
use Rattle.std.specs.Prelude.{◌≡◌, ℕ, true, List, ◌++◌, length, All, Option, None}
use Rattle.rt_task.specs.declared.Parts.{Parts}
use Rattle.rt_task.specs.RuleWords.{is_name}
use Rattle.rt_task.specs.Validity.{IsValid}
use Rattle.rt_rules.specs.declared.history.Entry.{Entry}
use Rattle.rt_plays.specs.Order.{histories}
use Rattle.rt_plays.specs.Plays.{ArePlays}
use Rattle.trace_lines.specs.declared.format.Version.{Version}
use Rattle.trace_lines.specs.Known.{IsLine, IsNumberOf, known_of, name_at, task_names}
use Rattle.trace_lines.specs.Lines.{Line}
use Rattle.trace_tools.specs.Tools.{Tool}
use Rattle.trace_text.specs.TraceText.{lines_from, trace_text}
use Rattle.trace_text.specs.CountLines.{count_lines, counted_text}
use Rattle.trace_read.specs.Reads.{IsTraceOf, IsRefused}
use Rattle.trace_read.specs.declared.fault.TraceFault.{TraceFault}
use Rattle.trace_read.specs.declared.fault.TraceFault.TheVariants as faults
use Rattle.trace_laws.specs.ValidTexts.{IsTextOf, IsValidText, entry_count}

-- a valid set, and plays of all its groups
pub record ArePlayed (p : Parts) (hs : List (List Entry)) : Type 0 where
  pub valid : IsValid p
  pub plays : ArePlays p hs

-- reading the text of plays gives the format, the set and all the lines back
abbrev pub TraceIsRead : Type 0
TraceIsRead = (version read : Version) (p q : Parts) (hs : List (List Entry)) (lines : List Line) (stop : Option ℕ) → ArePlayed p hs
    → IsTraceOf (trace_text version p hs) read q lines stop → (read ≡ version) × (q ≡ p) × (lines ≡ lines_from p 0 hs) × (stop ≡ None)

-- and so does reading it with count lines behind it, where these are lines of the grammar
abbrev pub CountedTraceIsRead : Type 0
CountedTraceIsRead =
    (tools : List Tool) (version read : Version) (p q : Parts) (hs : List (List Entry)) (lines : List Line) (stop : Option ℕ)
    → ArePlayed p hs → All (IsLine (known_of version p)) (count_lines tools p hs)
    → IsTraceOf (counted_text version tools p hs) read q lines stop
    → (read ≡ version) × (q ≡ p) × (lines ≡ lines_from p 0 hs ++ count_lines tools p hs) × (stop ≡ None)

-- a text of plays, with count lines or without, is refused for want of memory alone
abbrev pub TraceIsNotRefused : Type 0
TraceIsNotRefused =
    (tools : List Tool) (version : Version) (p : Parts) (hs : List (List Entry)) (text : List ℕ) (fault : TraceFault)
    → ArePlayed p hs → IsTextOf tools version p hs text → IsRefused text fault → fault ≡ faults.NoMemory

-- different plays of a set have different texts in each format, whatever tools counted behind them
abbrev pub TracesTellApart : Type 0
TracesTellApart =
    (tools others : List Tool) (version : Version) (p : Parts) (hs hs' : List (List Entry)) (text : List ℕ)
    → ArePlayed p hs → ArePlayed p hs' → IsTextOf tools version p hs text → IsTextOf others version p hs' text → hs ≡ hs'

-- texts of different formats differ
abbrev pub VersionsTellApart : Type 0
VersionsTellApart =
    (tools others : List Tool) (version other : Version) (p q : Parts) (hs hs' : List (List Entry)) (text : List ℕ)
    → IsTextOf tools version p hs text → IsTextOf others other q hs' text → version ≡ other

-- each task of a valid set has a name by the rules of sets, and no other task has it
abbrev pub NamesTellTasksApart : Type 0
NamesTellTasksApart = (p : Parts) (t u : ℕ) → IsValid p
    → IsNumberOf (length (task_names p.tasks)) t → IsNumberOf (length (task_names p.tasks)) u
    → (is_name (name_at (task_names p.tasks) t) ≡ true) × (name_at (task_names p.tasks) t ≡ name_at (task_names p.tasks) u → t ≡ u)

-- the text of the histories that one thread gives is a valid one in each format, with count lines and without,
-- with their number of entries
abbrev pub OneThreadTraceIsValid : Type 0
OneThreadTraceIsValid = (tools : List Tool) (version : Version) (p : Parts) (text : List ℕ)
    → IsTextOf tools version p (histories p) text → IsValidText tools version p text (entry_count (histories p))
