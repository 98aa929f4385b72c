-- The text of a trace behind its first two lines, judged line by line.
use Rattle.std.specs.Prelude.{◌≡◌, ℕ, ◌+◌, ◌||◌, ◌==◌, List, bytes_eq, length, if◌then◌else◌}
use Rattle.rt_task.specs.declared.Parts.{Parts}
use Rattle.set_canonical.specs.Canonical.{canonical}
use Rattle.rt_rules.specs.declared.history.Entry.{Entry}
use Rattle.trace_lines.specs.declared.format.Version.{Version}
use Rattle.trace_tools.specs.Counters.{Counter}
use Rattle.trace_tools.specs.Tools.{Tool}
use Rattle.trace_read.specs.Reads.{HasHead}
use Rattle.trace_check.specs.declared.verdict.Verdict.{Verdict}
use Rattle.trace_check.specs.declared.verdict.Verdict.TheVariants.{Valid, Invalid}
use Rattle.trace_check.specs.LinesAlike.{lines_alike}
use Rattle.trace_check.specs.Verdicts.{HasShown, IsVerdict}
use Rattle.trace_check.specs.Keeping.{HasKept}

-- the verdict is right of the bytes that have this text behind a head with the canonical set
abbrev pub IsJudgedText : List Tool → Version → Parts → List ℕ → Verdict → Type 0
IsJudgedText tools v p text verdict = (bytes : List ℕ) → HasHead v bytes (canonical p) text → IsVerdict tools v p bytes verdict

-- and then a bus stands so
abbrev pub IsShownText : List Tool → Version → Parts → List ℕ → List Counter → Verdict → Type 0
IsShownText tools v p text counters verdict = (bytes : List ℕ) → HasHead v bytes (canonical p) text
    → HasShown tools v p bytes counters verdict

-- and then it is the text of these histories
abbrev pub IsTextOfPlays : List Tool → Version → Parts → List ℕ → List (List Entry) → Verdict → Type 0
IsTextOfPlays tools v p text hs verdict = (bytes : List ℕ) → HasHead v bytes (canonical p) text
    → HasKept tools v p bytes (λ told. hs ≡ told) verdict

-- the verdict is right of the text, whatever tools count
abbrev pub IsJudged : Version → Parts → List ℕ → Verdict → Type 0
IsJudged v p text verdict = (tools : List Tool) → IsJudgedText tools v p text verdict

-- what the text behind the line `end` comes to, where so many lines are right with that one: it is to be nothing, or the count lines
abbrev pub verdict_behind : List ℕ → List ℕ → ℕ → ℕ → Verdict
verdict_behind rest counts right entries =
    if length rest == 0 || bytes_eq rest counts then Valid entries else Invalid (right + lines_alike rest counts + 1)
