-- What a run of `sim` reads and writes.
use Rattle.std.specs.Prelude.{◌≡◌, ℕ, ◌^◌, ◌<◌, Bool, true, false, ◌||◌, ◌⊎◌}
use Rattle.std.specs.Prelude.{List, [], ◌∷◌, codes, decimal, bytes_eq, string_bytes, String}
use Rattle.std.specs.declared.alloc.Global.{Global}
use Rattle.rt_task.specs.declared.Parts.{Parts}
use Rattle.rt_fault.specs.Held.{Extends, ExtendsByPrefix}
use Rattle.trace_lines.specs.declared.format.Version.TheVariants.{Two}
use Rattle.trace_tools.specs.Tools.{Tool}
use Rattle.trace_text.specs.CountLines.{counted_text}
use Rattle.rt_plays.specs.Order.{histories}
use Rattle.set_input.specs.Ends.{Reading, Writing}
use Rattle.set_input.specs.Inputs.{WasRead}
use Rattle.set_input.specs.Throughout.{HoldsThroughout}

-- the command `sim`
abbrev pub is_sim : List (String Global) → Bool
is_sim (word ∷ []) = bytes_eq (string_bytes word) (codes "sim")
is_sim _ = false

-- the command `check`
abbrev pub is_check : List (String Global) → Bool
is_check (word ∷ []) = bytes_eq (string_bytes word) (codes "check")
is_check _ = false

-- the command `upgrade`
abbrev pub is_upgrade : List (String Global) → Bool
is_upgrade (word ∷ []) = bytes_eq (string_bytes word) (codes "upgrade")
is_upgrade _ = false

-- the command `load` with a number of at most 64 bits
abbrev pub IsLoad : List (String Global) → ℕ → Type 0
IsLoad (word ∷ number ∷ []) n = (string_bytes word ≡ codes "load") × (string_bytes number ≡ decimal n) × (n < 2 ^ 64)
IsLoad _ n = ⊥

-- one of the commands
abbrev pub IsCommand : List (String Global) → Type 0
IsCommand words = (is_sim words || is_check words || is_upgrade words ≡ true) ⊎ ((n : ℕ) × IsLoad words n)

-- the trace of a set: the text in format 2 of its canonical set and of the one legal history of each group, and what tools count of it
abbrev pub set_trace : List Tool → Parts → List ℕ
set_trace tools p = counted_text Two tools p (histories p)

-- a set was read, and its whole trace came; what that shows holds after each entry
pub record WasPlayed (tools : List Tool) (source : Reading) (sink : Writing) : Type 0 where
  pub setup : Parts
  pub read : WasRead source setup
  pub written : Extends sink.old.held sink.new.held (set_trace tools setup)
  pub holds : HoldsThroughout setup (histories setup)

-- a set was read, and a first part of its trace came
pub record WasCut (tools : List Tool) (source : Reading) (sink : Writing) : Type 0 where
  pub setup : Parts
  pub read : WasRead source setup
  pub written : ExtendsByPrefix sink.old.held sink.new.held (set_trace tools setup)
