-- The groups that are read off a text, where that is valid.
use Rattle.std.specs.Prelude.{◌≡◌, ℕ, List}
use Rattle.rt_task.specs.declared.Parts.{Parts}
use Rattle.rt_plays.specs.Groups.{GroupHistory}
use Rattle.trace_lines.specs.declared.format.Version.{Version}
use Rattle.trace_tools.specs.Tools.{Tool}
use Rattle.trace_text.specs.Groups.{AreGroupsOf, histories}
use Rattle.trace_laws.specs.ValidTexts.{IsValidText}
use Rattle.trace_check.specs.declared.verdict.Verdict.{Verdict}
use Rattle.trace_check.specs.declared.verdict.Verdict.TheVariants.{Valid, Invalid}

-- they are those of its set, each with the history that the text says of it
abbrev pub HasGroups : List Tool → Version → Parts → List ℕ → List GroupHistory → Verdict → Type 0
HasGroups tools version p text groups (Valid entries) =
    (is : IsValidText tools version p text entries) → AreGroupsOf p groups × (histories groups ≡ is.histories)
HasGroups tools version p text groups (Invalid line) = Unit {0}
