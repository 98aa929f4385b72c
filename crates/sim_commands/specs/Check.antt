-- What a run of `check` reads and writes, where these tools count.
use Rattle.std.specs.Prelude.{◌≡◌, ℕ, ◌≤◌, List, [], ◌∷◌, ◌++◌, length, codes, decimal, Option, None, Some, Ok, ◌⊎◌}
use Rattle.rt_base.specs.declared.TheConstants.{MOST_TRACE_BYTES}
use Rattle.rt_task.specs.declared.Parts.{Parts}
use Rattle.rt_task.specs.declared.bad_set.BadSet.{BadSet}
use Rattle.rt_task.specs.declared.bad_set.SetKind.TheVariants.{NotTrace}
use Rattle.rt_task.specs.declared.bad_set.Part.TheVariants.{Line}
use Rattle.rt_task.specs.Refusals.{bad}
use Rattle.rt_fault.specs.Held.{Extends, ExtendsByPrefix}
use Rattle.rt_fault.specs.Reading.{TakesAll}
use Rattle.set_read.specs.Sets.{set}
use Rattle.trace_lines.specs.declared.format.Version.{Version}
use Rattle.trace_tools.specs.Tools.{Tool}
use Rattle.trace_read.specs.Reads.{HasHead, HasBadSet, LacksFirstLine, LacksSetLine}
use Rattle.trace_laws.specs.ValidTexts.{IsValidText}
use Rattle.trace_check.specs.declared.verdict.Verdict.{Verdict}
use Rattle.trace_check.specs.declared.verdict.Verdict.TheVariants.{Valid, Invalid}
use Rattle.trace_check.specs.Verdicts.{IsVerdict}
use Rattle.set_input.specs.Ends.{Reading, Writing}

-- the first line of the text names this format, and the second says this set
pub record SaysSet (bytes : List ℕ) (version : Version) (p : Parts) : Type 0 where
  pub set_text : List ℕ
  pub rest : List ℕ
  pub head : HasHead version bytes set_text rest
  pub set_is : set set_text ≡ Ok p

-- what was read to its end is within the limit, and says a set
pub record WasTrace (source : Reading) (bytes : List ℕ) (version : Version) (p : Parts) : Type 0 where
  pub all : TakesAll source.old.left source.new.left bytes
  pub within : length bytes ≤ MOST_TRACE_BYTES
  pub says : SaysSet bytes version p

-- why a text is refused: its first line, its second, or the set that this says
abbrev pub TraceIsRefused : List ℕ → BadSet → Type 0
TraceIsRefused bytes b =
    ((b ≡ bad NotTrace Line 1) × LacksFirstLine bytes)
    ⊎ (((b ≡ bad NotTrace Line 2) × LacksSetLine bytes)
    ⊎ HasBadSet bytes b)

-- what was read to its end is within the limit, and is refused
pub record WasNoTrace (source : Reading) (b : BadSet) : Type 0 where
  pub bytes : List ℕ
  pub all : TakesAll source.old.left source.new.left bytes
  pub within : length bytes ≤ MOST_TRACE_BYTES
  pub refused : TraceIsRefused bytes b

-- the one line that is written
abbrev pub verdict_text : Verdict → List ℕ
verdict_text (Valid entries) = codes "valid " ++ (decimal entries ++ 10 ∷ [])
verdict_text (Invalid line) = codes "invalid " ++ (decimal line ++ 10 ∷ [])

-- a trace was read, and its verdict came
pub record WasChecked (tools : List Tool) (source : Reading) (sink : Writing) (v : Verdict) : Type 0 where
  pub bytes : List ℕ
  pub version : Version
  pub setup : Parts
  pub read : WasTrace source bytes version setup
  pub verdict : IsVerdict tools version setup bytes v
  pub written : Extends sink.old.held sink.new.held (verdict_text v)

-- a trace was read, and a first part of its verdict came
pub record VerdictWasCut (tools : List Tool) (source : Reading) (sink : Writing) : Type 0 where
  pub bytes : List ℕ
  pub version : Version
  pub setup : Parts
  pub verdict : Verdict
  pub read : WasTrace source bytes version setup
  pub is_verdict : IsVerdict tools version setup bytes verdict
  pub written : ExtendsByPrefix sink.old.held sink.new.held (verdict_text verdict)

-- what is still to come is told, is within the limit, and is a valid trace, in its format, of the set that it says
pub record IsValidTrace (tools : List Tool) (bytes : List ℕ) : Type 0 where
  pub version : Version
  pub setup : Parts
  pub entries : ℕ
  pub says : SaysSet bytes version setup
  pub valid : IsValidText tools version setup bytes entries

abbrev pub CanCheck : List Tool → Option (List ℕ) → Type 0
CanCheck tools None = ⊥
CanCheck tools (Some bytes) = (length bytes ≤ MOST_TRACE_BYTES) × IsValidTrace tools bytes
