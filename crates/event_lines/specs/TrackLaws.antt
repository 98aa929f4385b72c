-- The law of tracks: they tell what the trace events of a past tell.
use Rattle.std.specs.Prelude.{◌≡◌, List, map}
use Rattle.rt_task.specs.declared.Parts.{Parts}
use Rattle.rt_rules.specs.declared.history.Entry.{Entry}
use Rattle.rt_model.specs.Group.{Group}
use Rattle.rt_model.specs.Past.{Past}
use Rattle.chart_texts.specs.Charts.{pasts_from}
use Rattle.event_texts.specs.EventText.{event_text}
use Rattle.event_lines.specs.TrackEvents.{tracks_text}
use Rattle.event_lines.specs.Tracks.{GroupTracks}
use Rattle.event_lines.specs.TracksOf.{tracks_of}

-- the tracks of groups, each after its past
abbrev pub tracks_of_groups : List (Group × Past) → List GroupTracks
tracks_of_groups gs = map (λ (x : Group × Past). tracks_of x.0 x.1) gs

-- Of the groups of any setup, after any histories.
abbrev pub TracksTellEvents : Type 0
TracksTellEvents =
    (p : Parts) (hs : List (List Entry)) → event_text (pasts_from p 0 hs) ≡ tracks_text p (tracks_of_groups (pasts_from p 0 hs))
