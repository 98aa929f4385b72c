-- What an input comes to, and the text that explains it: a function of the bytes, but for the line and column at which
-- bytes are no JSON.
use Rattle.std.specs.Prelude.{◌≡◌, ℕ, ◌≤◌, Bool, true, false, List, ◌++◌, length, take, bytes_eq, codes, Ok, Err, ◌⊎◌}
use Rattle.rt_base.specs.declared.TheConstants.{MOST_SET_BYTES}
use Rattle.rt_task.specs.declared.Parts.{Parts}
use Rattle.rt_task.specs.declared.bad_set.BadSet.{BadSet}
use Rattle.rt_task.specs.declared.bad_set.SetKind.TheVariants.{NotTrace}
use Rattle.rt_task.specs.declared.bad_set.Part.TheVariants.{Line}
use Rattle.rt_task.specs.Refusals.{bad}
use Rattle.set_read.specs.Sets.{set}
use Rattle.set_explain.specs.Causes.{Cause, IsCause, broken}
use Rattle.set_explain.specs.Texts.{explanation}
use Rattle.trace_lines.specs.declared.format.Version.{Version}
use Rattle.trace_tools.specs.Tools.{Tool}
use Rattle.trace_read.specs.Reads.{HasBadSet, IsRefused}
use Rattle.trace_read.specs.declared.fault.TraceFault.TheVariants as faults
use Rattle.trace_laws.specs.ValidTexts.{IsValidText}
use Rattle.trace_check.specs.Verdicts.{IsInvalid}
use Rattle.sim_commands.specs.Check.{SaysSet}
use Rattle.explain_command.specs.declared.outcome.Outcome.{Outcome}
use Rattle.explain_command.specs.declared.outcome.Outcome.TheVariants.{Fine, Wrong, Refused}
use Rattle.explain_command.specs.Texts.{head_rule, in_trace, valid_set, valid_trace, wrong_line}

-- the input is looked at as a trace where it begins with the first word of one
abbrev pub first_word : List ℕ
first_word = codes "rtsched"

abbrev pub begins_as_trace : List ℕ → Bool
begins_as_trace bytes = bytes_eq (take 7 bytes) first_word

-- ---- as a set

pub record SetIsValid (bytes text : List ℕ) : Type 0 where
  pub setup : Parts
  pub reads : set bytes ≡ Ok setup
  pub text_is : text ≡ valid_set

-- the text says the cause of this refusal, and its place
pub record SetIsRefused (bytes : List ℕ) (b : BadSet) (text : List ℕ) : Type 0 where
  pub refused : set bytes ≡ Err b
  pub cause : Cause
  pub is_cause : IsCause bytes b cause
  pub text_is : text ≡ explanation b cause

abbrev pub SetIsExplained : List ℕ → Outcome → List ℕ → Type 0
SetIsExplained bytes Fine text = SetIsValid bytes text
SetIsExplained bytes (Wrong line) text = ⊥
SetIsExplained bytes (Refused b) text = SetIsRefused bytes b text

-- ---- as a trace

pub record TraceIsValid (tools : List Tool) (bytes text : List ℕ) : Type 0 where
  pub version : Version
  pub setup : Parts
  pub entries : ℕ
  pub says : SaysSet bytes version setup
  pub valid : IsValidText tools version setup bytes entries
  pub text_is : text ≡ valid_trace

-- the text says which line is wrong, and how it stands
pub record TraceIsInvalid (tools : List Tool) (bytes : List ℕ) (line : ℕ) (text : List ℕ) : Type 0 where
  pub version : Version
  pub setup : Parts
  pub says : SaysSet bytes version setup
  pub wrong : IsInvalid tools version setup bytes line
  pub text_is : text ≡ wrong_line bytes setup line

-- a line of the head is none
pub record HeadIsWrong (bytes : List ℕ) (b : BadSet) (text : List ℕ) : Type 0 where
  pub line : ℕ
  pub lacks : IsRefused bytes (faults.NotTrace line)
  pub refusal : b ≡ bad NotTrace Line line
  pub text_is : text ≡ explanation b (broken (head_rule line))

-- the set that the trace says is refused
pub record SaysBadSet (bytes : List ℕ) (b : BadSet) (text : List ℕ) : Type 0 where
  pub bad_set : HasBadSet bytes b
  pub cause : Cause
  pub is_cause : IsCause bad_set.set_text b cause
  pub text_is : text ≡ explanation b cause ++ in_trace

abbrev pub TraceIsExplained : List Tool → List ℕ → Outcome → List ℕ → Type 0
TraceIsExplained tools bytes Fine text = TraceIsValid tools bytes text
TraceIsExplained tools bytes (Wrong line) text = TraceIsInvalid tools bytes line text
TraceIsExplained tools bytes (Refused b) text = HeadIsWrong bytes b text ⊎ SaysBadSet bytes b text

-- ---- as either

-- a set has the limit that it has for `sim`
abbrev pub IsExplainedAs : Bool → List Tool → List ℕ → Outcome → List ℕ → Type 0
IsExplainedAs true tools bytes outcome text = TraceIsExplained tools bytes outcome text
IsExplainedAs false tools bytes outcome text = (length bytes ≤ MOST_SET_BYTES) × SetIsExplained bytes outcome text

-- the input comes to this, and the text explains it
abbrev pub IsExplained : List Tool → List ℕ → Outcome → List ℕ → Type 0
IsExplained tools bytes outcome text = IsExplainedAs (begins_as_trace bytes) tools bytes outcome text
