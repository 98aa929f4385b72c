-- The answers of the command `explain`, each with its cause.
use Rattle.std.specs.Prelude.{◌≡◌, ◌≢◌, ℕ, ◌<◌, ◌≤◌, ◌⊎◌, ⊤, false, List, length, Option, None, Some}
use Rattle.rt_base.specs.declared.TheConstants.{MOST_SET_BYTES, MOST_TRACE_BYTES}
use Rattle.rt_task.specs.declared.bad_set.BadSet.{BadSet}
use Rattle.rt_fault.specs.Held.{Extends, ExtendsByPrefix}
use Rattle.rt_fault.specs.Reading.{TakesAll, TakesAtMost, TakesOneMoreThan}
use Rattle.rt_fault.specs.declared.status.Status.{Status}
use Rattle.rt_fault.specs.declared.status.Status.TheVariants as ends
use Rattle.trace_tools.specs.Tools.{Tool}
use Rattle.set_input.specs.Ends.{Reading, Writing, IsFaultless}
use Rattle.explain_command.specs.declared.outcome.Outcome.{Outcome}
use Rattle.explain_command.specs.declared.outcome.Outcome.TheVariants.{Fine, Wrong, Refused}
use Rattle.explain_command.specs.Explaining.{IsExplained, begins_as_trace}

-- what was read to its end is within the limit of a trace
pub record WasRead (source : Reading) (bytes : List ℕ) : Type 0 where
  pub all : TakesAll source.old.left source.new.left bytes
  pub within : length bytes ≤ MOST_TRACE_BYTES

-- an input is refused by nothing while it is read
abbrev pub IsNever : BadSet → Type 0
IsNever b = ⊥

-- it comes to this, and the sink got the whole text that explains it
pub record WasExplained (tools : List Tool) (source : Reading) (sink : Writing) (outcome : Outcome) : Type 0 where
  pub bytes : List ℕ
  pub text : List ℕ
  pub read : WasRead source bytes
  pub explained : IsExplained tools bytes outcome text
  pub written : Extends sink.old.held sink.new.held text

-- or a first part of it
pub record WasCut (tools : List Tool) (source : Reading) (sink : Writing) : Type 0 where
  pub bytes : List ℕ
  pub outcome : Outcome
  pub text : List ℕ
  pub read : WasRead source bytes
  pub explained : IsExplained tools bytes outcome text
  pub written : ExtendsByPrefix sink.old.held sink.new.held text

-- it begins as no trace, and is longer than a set may be
abbrev pub IsLongSet : List ℕ → Type 0
IsLongSet bytes = (begins_as_trace bytes ≡ false) × (MOST_SET_BYTES < length bytes)

pub record WasLongSet (source : Reading) : Type 0 where
  pub bytes : List ℕ
  pub read : WasRead source bytes
  pub long : IsLongSet bytes

-- what is still to come is told, and is within the limits
abbrev pub CanExplain : Option (List ℕ) → Type 0
CanExplain None = ⊥
CanExplain (Some bytes) = (length bytes ≤ MOST_TRACE_BYTES) × ¬ (IsLongSet bytes)

-- why bytes that were read are not looked at
abbrev pub IsUnlooked : List ℕ → Status → Type 0
IsUnlooked bytes ends.TooLong = IsLongSet bytes
IsUnlooked bytes ends.NoMemory = ⊤
IsUnlooked bytes _ = ⊥

-- nothing is written where the input was not read, or was not looked at
abbrev pub IsUnwritten : Status → Type 0
IsUnwritten ends.Usage = ⊤
IsUnwritten ends.ReadFault = ⊤
IsUnwritten ends.TooLong = ⊤
IsUnwritten ends.NoMemory = ⊤
IsUnwritten _ = ⊥

-- the input was looked at, unless memory ran out
abbrev pub IsAnswered : Status → Type 0
IsAnswered ends.Ok = ⊤
IsAnswered (ends.Invalid line) = ⊤
IsAnswered (ends.BadInput b) = ⊤
IsAnswered ends.NoMemory = ⊤
IsAnswered _ = ⊥

pub record ExplainAnswers (tools : List Tool) (source : Reading) (sink : Writing) (answer : Status) : Type 0 where
  -- all input was read and nothing of it is refused, and the sink got the line that says so
  pub ok : answer ≡ ends.Ok → WasExplained tools source sink Fine
  -- all input was read and is a trace of which this line is the first that is wrong, and the sink got the text that explains it
  pub invalid : (line : ℕ) → answer ≡ ends.Invalid line → WasExplained tools source sink (Wrong line)
  -- all input was read and has this refusal, and the sink got the text that explains it
  pub bad_input : (b : BadSet) → answer ≡ ends.BadInput b → WasExplained tools source sink (Refused b)
  -- one byte more than the limit of a trace was taken, or all of a set that is beyond its own
  pub too_long : answer ≡ ends.TooLong → TakesOneMoreThan MOST_TRACE_BYTES source.old.left source.new.left ⊎ WasLongSet source
  -- on any other answer at most the limit
  pub not_too_long : answer ≢ ends.TooLong → TakesAtMost MOST_TRACE_BYTES source.old.left source.new.left
  -- all input was read, and a first part of the text that explains it written
  pub cut_by_fault : answer ≡ ends.WriteFault → WasCut tools source sink
  -- nothing was written
  pub no_memory : answer ≡ ends.NoMemory → sink.new ≡ sink.old
  -- what is within the limits, from a source and to a sink without fault, is looked at, unless memory runs out
  pub complete : CanExplain source.old.left → IsFaultless source sink → IsAnswered answer
