-- What a run of `run` reads and writes.
use Rattle.std.specs.Prelude.{◌≡◌, Bool, false, List, [], ◌∷◌, codes, bytes_eq, string_bytes, String}
use Rattle.std.specs.declared.alloc.Global.{Global}
use Rattle.rt_task.specs.declared.Parts.{Parts}
use Rattle.rt_rules.specs.declared.history.Entry.{Entry}
use Rattle.rt_fault.specs.Held.{Extends, ExtendsByPrefix}
use Rattle.rt_plays.specs.Plays.{ArePlays}
use Rattle.trace_lines.specs.declared.format.Version.TheVariants.{Two}
use Rattle.trace_tools.specs.Tools.{Tool}
use Rattle.trace_text.specs.CountLines.{counted_text}
use Rattle.set_input.specs.Ends.{Reading, Writing}
use Rattle.set_input.specs.Inputs.{WasRead}
use Rattle.set_input.specs.Throughout.{HoldsThroughout}

-- the command `run`
abbrev pub is_run : List (String Global) → Bool
is_run (word ∷ []) = bytes_eq (string_bytes word) (codes "run")
is_run _ = false

-- the command `split`
abbrev pub is_split : List (String Global) → Bool
is_split (word ∷ []) = bytes_eq (string_bytes word) (codes "split")
is_split _ = false

-- the words are neither
abbrev pub IsNoCommand : List (String Global) → Type 0
IsNoCommand words = (is_run words ≡ false) × (is_split words ≡ false)

-- a set was read, and a whole trace of it came: the text in format 2 of its canonical set and of plays of its groups, in
-- some order of the processors' steps, and what tools count of these; what that shows holds after each entry
pub record WasRun (tools : List Tool) (source : Reading) (sink : Writing) : Type 0 where
  pub setup : Parts
  pub histories : List (List Entry)
  pub read : WasRead source setup
  pub plays : ArePlays setup histories
  pub written : Extends sink.old.held sink.new.held (counted_text Two tools setup histories)
  pub holds : HoldsThroughout setup histories

-- a set was read, and a first part of such a trace came
pub record WasCut (tools : List Tool) (source : Reading) (sink : Writing) : Type 0 where
  pub setup : Parts
  pub histories : List (List Entry)
  pub read : WasRead source setup
  pub plays : ArePlays setup histories
  pub written : ExtendsByPrefix sink.old.held sink.new.held (counted_text Two tools setup histories)
