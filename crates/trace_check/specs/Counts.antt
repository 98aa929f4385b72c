-- Whether count lines stand behind a valid text.
use Rattle.std.specs.Prelude.{◌≡◌, ℕ, Bool, List, if◌then◌else◌}
use Rattle.rt_task.specs.declared.Parts.{Parts}
use Rattle.set_canonical.specs.Canonical.{canonical}
use Rattle.trace_lines.specs.declared.format.Version.{Version}
use Rattle.trace_tools.specs.Tools.{Tool}
use Rattle.trace_text.specs.CountLines.{counted_text}
use Rattle.trace_text.specs.TraceText.{trace_text}
use Rattle.trace_read.specs.Reads.{HasHead}
use Rattle.trace_laws.specs.ValidTexts.{IsValidText}
use Rattle.trace_check.specs.declared.verdict.Verdict.{Verdict}
use Rattle.trace_check.specs.declared.verdict.Verdict.TheVariants.{Valid, Invalid}

-- a valid text is the one of its histories with all count lines, or the one without
abbrev pub HasCounts : List Tool → Version → Parts → List ℕ → Verdict → Bool → Type 0
HasCounts tools v p text (Valid entries) counted =
    (is : IsValidText tools v p text entries) → text
    ≡ (if counted then counted_text v tools p is.histories else trace_text v p is.histories)
HasCounts tools v p text (Invalid line) counted = Unit {0}

-- the same of the bytes that have this text behind a head with the canonical set
abbrev pub IsCountedText : List Tool → Version → Parts → List ℕ → Verdict → Bool → Type 0
IsCountedText tools v p text verdict counted = (bytes : List ℕ) → HasHead v bytes (canonical p) text
    → HasCounts tools v p bytes verdict counted
