-- What is read of the bytes of a trace, and why bytes are no trace.
use Rattle.std.specs.Prelude.{◌≡◌, ◌≢◌, ℕ, ◌+◌, ◌≤◌, ◌⊎◌, List, [], ◌∷◌, ◌++◌, drop, flat_map, length, All, Option, None, Some, Result}
use Rattle.std.specs.Prelude.{Ok, Err, IsTrue, codes}
use Rattle.rt_task.specs.declared.bad_set.BadSet.{BadSet}
use Rattle.rt_task.specs.declared.Parts.{Parts}
use Rattle.set_canonical.specs.Canonical.{canonical}
use Rattle.set_read.specs.Sets.{set}
use Rattle.trace_lines.specs.declared.format.Version.{Version}
use Rattle.trace_lines.specs.FirstLine.{first_line}
use Rattle.trace_lines.specs.Grammar.{line_text}
use Rattle.trace_lines.specs.Known.{Known, known_of, IsLine}
use Rattle.trace_lines.specs.Lines.{Line}
use Rattle.trace_read.specs.declared.Trace.{Trace}
use Rattle.trace_read.specs.declared.head.TraceHead.{TraceHead}
use Rattle.trace_read.specs.Lines.{lines_of}
use Rattle.trace_read.specs.declared.fault.TraceFault.{TraceFault}
use Rattle.trace_read.specs.declared.fault.TraceFault.TheVariants as faults

-- the first line, which names the format, a second one that says a set, and the rest
pub record HasHead (version : Version) (bytes set_text rest : List ℕ) : Type 0 where
  pub bytes_are : bytes ≡ first_line version ++ (codes "set " ++ (set_text ++ 10 ∷ rest))
  pub on_one_line : All (λ (c : ℕ). c ≢ 10) set_text

-- these lines, up to a text that begins with no line of the grammar
pub record AreLines (k : Known) (text : List ℕ) (lines : List Line) (left : List ℕ) : Type 0 where
  pub lines_known : All (IsLine k) lines
  pub text_is : text ≡ flat_map (line_text k) lines ++ left
  pub none_further : (l : Line) (more : List ℕ) → IsLine k l → left ≢ line_text k l ++ more

-- the number of the line after these, from 1 and with the two of the head, where there is one
abbrev pub stop_at : List Line → List ℕ → Option ℕ
stop_at lines [] = None
stop_at lines (c ∷ cs) = Some (length lines + 3)

-- the bytes are a trace, in this format, of this set with these lines, and `stop` is the number of the first line that is none of the
-- grammar
pub record IsTraceOf (bytes : List ℕ) (version : Version) (p : Parts) (lines : List Line) (stop : Option ℕ) : Type 0 where
  pub set_text : List ℕ
  pub rest : List ℕ
  pub left : List ℕ
  pub head : HasHead version bytes set_text rest
  pub set_is : set set_text ≡ Ok p
  pub lines_are : AreLines (known_of version p) rest lines left
  pub stop_is : stop ≡ stop_at lines left

-- this was read of the first two lines of the bytes; where it says that the set's line is the canonical one, it is
pub record IsHeadOf (bytes : List ℕ) (h : TraceHead) : Type 0 where
  pub set_text : List ℕ
  pub within : h.length ≤ length bytes
  pub head : HasHead h.version bytes set_text (drop h.length bytes)
  pub set_is : set set_text ≡ Ok h.setup
  pub canonical : IsTrue h.is_canonical → set_text ≡ canonical h.setup

-- the bytes do not begin with the first line of a format
abbrev pub LacksFirstLine : List ℕ → Type 0
LacksFirstLine bytes = (version : Version) (rest : List ℕ) → bytes ≢ first_line version ++ rest

-- they begin with one, and the second line says no set
pub record LacksSetLine (bytes : List ℕ) : Type 0 where
  pub version : Version
  pub rest : List ℕ
  pub begins : bytes ≡ first_line version ++ rest
  pub no_set : (set_text more : List ℕ) → HasHead version bytes set_text more → ⊥

-- the second line says a set that is refused
pub record HasBadSet (bytes : List ℕ) (b : BadSet) : Type 0 where
  pub version : Version
  pub set_text : List ℕ
  pub rest : List ℕ
  pub head : HasHead version bytes set_text rest
  pub refused : set set_text ≡ Err b

abbrev pub IsRefused : List ℕ → TraceFault → Type 0
IsRefused bytes (faults.NotTrace n) = ((n ≡ 1) × LacksFirstLine bytes) ⊎ ((n ≡ 2) × LacksSetLine bytes)
IsRefused bytes (faults.BadSet b) = HasBadSet bytes b
IsRefused bytes faults.NoMemory = Unit {0}

-- how reading the first two lines ends
abbrev pub HasReadHead : List ℕ → Result TraceHead TraceFault → Type 0
HasReadHead bytes (Ok h) = IsHeadOf bytes h
HasReadHead bytes (Err e) = IsRefused bytes e

-- how reading all of it ends
abbrev pub HasRead : List ℕ → Result Trace TraceFault → Type 0
HasRead bytes (Ok t) = IsTraceOf bytes t.version t.setup (lines_of t.lines) t.stop
HasRead bytes (Err e) = IsRefused bytes e
