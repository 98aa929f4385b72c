-- The tracks that are recorded of the groups of a text, where that is valid.
use Rattle.std.specs.Prelude.{◌≡◌, ℕ, List, map}
use Rattle.rt_task.specs.declared.Parts.{Parts}
use Rattle.trace_lines.specs.declared.format.Version.{Version}
use Rattle.trace_tools.specs.Tools.{Tool}
use Rattle.trace_laws.specs.ValidTexts.{IsValidText}
use Rattle.trace_check.specs.declared.verdict.Verdict.{Verdict}
use Rattle.trace_check.specs.declared.verdict.Verdict.TheVariants.{Valid, Invalid}
use Rattle.chart_texts.specs.Charts.{pasts_from}
use Rattle.event_lines.specs.declared.tracks.GroupTracks.{GroupTracks}
use Rattle.event_lines.specs.Shown.{group_tracks_shown}
use Rattle.event_lines.specs.TrackLaws.{tracks_of_groups}

-- they are those of the groups of its set, each after the history that the text says of it
abbrev pub HasTracks : List Tool → Version → Parts → List ℕ → List GroupTracks → Verdict → Type 0
HasTracks tools version p text tracks (Valid entries) =
    (is : IsValidText tools version p text entries) → map group_tracks_shown tracks ≡ tracks_of_groups (pasts_from p 0 is.histories)
HasTracks tools version p text tracks (Invalid line) = Unit {0}
