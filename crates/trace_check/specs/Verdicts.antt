-- What is said of a text whose first line names a format and whose second line says a set, where these tools count.
use Rattle.std.specs.Prelude.{◌≡◌, ℕ, ◌+◌, ◌≤◌, List, map}
use Rattle.rt_task.specs.declared.Parts.{Parts}
use Rattle.trace_lines.specs.declared.format.Version.{Version}
use Rattle.trace_tools.specs.Counters.{Counter, counter_of, counters_after}
use Rattle.trace_tools.specs.Tools.{Tool}
use Rattle.trace_text.specs.CountLines.{shown_from}
use Rattle.trace_laws.specs.ValidTexts.{IsValidText, IsBegun}
use Rattle.trace_check.specs.declared.verdict.Verdict.{Verdict}
use Rattle.trace_check.specs.declared.verdict.Verdict.TheVariants.{Valid, Invalid}

-- the text is not valid in its format, and line k + 1 is wrong, where k is the greatest number of lines with which a valid text begins
-- as it does
pub record IsInvalid (tools : List Tool) (version : Version) (p : Parts) (text : List ℕ) (line : ℕ) : Type 0 where
  pub not_valid : (entries : ℕ) → IsValidText tools version p text entries → ⊥
  pub right : ℕ
  pub line_is : line ≡ right + 1
  pub begun : IsBegun tools version p right text
  pub most : (k : ℕ) → IsBegun tools version p k text → k ≤ right

abbrev pub IsVerdict : List Tool → Version → Parts → List ℕ → Verdict → Type 0
IsVerdict tools version p text (Valid entries) = IsValidText tools version p text entries
IsVerdict tools version p text (Invalid line) = IsInvalid tools version p text line

-- a bus of the tools stands so once it was shown all entries of the text, where that is valid
abbrev pub HasShown : List Tool → Version → Parts → List ℕ → List Counter → Verdict → Type 0
HasShown tools version p text counters (Valid entries) =
    (is : IsValidText tools version p text entries) → counters ≡ counters_after (shown_from p 0 is.histories) (map counter_of tools)
HasShown tools version p text counters (Invalid line) = Unit {0}
