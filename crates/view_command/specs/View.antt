-- What a run of `rtview` reads and writes, where these tools count.
use Rattle.std.specs.Prelude.{◌≡◌, ℕ, List, None, Some}
use Rattle.rt_task.specs.declared.Parts.{Parts}
use Rattle.rt_fault.specs.Held.{Extends, ExtendsByPrefix}
use Rattle.trace_lines.specs.declared.format.Version.{Version}
use Rattle.trace_tools.specs.Tools.{Tool}
use Rattle.trace_laws.specs.ValidTexts.{IsValidText}
use Rattle.trace_check.specs.Verdicts.{IsInvalid}
use Rattle.view_laws.specs.Sets.{SetAgreesWithTools}
use Rattle.set_input.specs.Ends.{Reading, Writing}
use Rattle.sim_commands.specs.Check.{WasTrace}
use Rattle.view_command.specs.Texts.{view_text}
use Rattle.view_command.specs.declared.views.View.{View}

-- the text is that of a view of the plays of which the bytes are a valid trace; the late jobs, the moves and the units of the table of
-- tasks are what the tools count of the trace
pub record IsViewOf (tools : List Tool) (version : Version) (p : Parts) (bytes : List ℕ) (view : View) (text : List ℕ) : Type 0 where
  pub entries : ℕ
  pub valid : IsValidText tools version p bytes entries
  pub text_is : view_text view p valid.histories ≡ Some text
  pub agrees : SetAgreesWithTools p valid.histories

-- the bytes are a valid trace of plays that have no such entry
pub record LacksEntry (tools : List Tool) (version : Version) (p : Parts) (bytes : List ℕ) (view : View) : Type 0 where
  pub entries : ℕ
  pub valid : IsValidText tools version p bytes entries
  pub none : view_text view p valid.histories ≡ None

-- a trace was read, and the whole text of the view came
pub record WasViewed (tools : List Tool) (view : View) (source : Reading) (sink : Writing) : Type 0 where
  pub bytes : List ℕ
  pub version : Version
  pub setup : Parts
  pub text : List ℕ
  pub read : WasTrace source bytes version setup
  pub shown : IsViewOf tools version setup bytes view text
  pub written : Extends sink.old.held sink.new.held text

-- a trace was read, and a first part of the text came
pub record ViewWasCut (tools : List Tool) (view : View) (source : Reading) (sink : Writing) : Type 0 where
  pub bytes : List ℕ
  pub version : Version
  pub setup : Parts
  pub text : List ℕ
  pub read : WasTrace source bytes version setup
  pub shown : IsViewOf tools version setup bytes view text
  pub written : ExtendsByPrefix sink.old.held sink.new.held text

-- a trace was read, and has no such entry
pub record WasWithout (tools : List Tool) (view : View) (source : Reading) : Type 0 where
  pub bytes : List ℕ
  pub version : Version
  pub setup : Parts
  pub read : WasTrace source bytes version setup
  pub lacks : LacksEntry tools version setup bytes view

-- a trace was read, and this line is the first that is wrong
pub record WasWrong (tools : List Tool) (source : Reading) (line : ℕ) : Type 0 where
  pub bytes : List ℕ
  pub version : Version
  pub setup : Parts
  pub read : WasTrace source bytes version setup
  pub wrong : IsInvalid tools version setup bytes line
