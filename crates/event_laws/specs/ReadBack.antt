-- The text of trace events is read back as those events.
use Rattle.std.specs.Prelude.{◌≡◌, List, Some}
use Rattle.rt_task.specs.Validity.{IsValid}
use Rattle.rt_task.specs.declared.Parts.{Parts}
use Rattle.rt_rules.specs.declared.history.Entry.{Entry}
use Rattle.rt_plays.specs.Plays.{ArePlays}
use Rattle.chart_texts.specs.Charts.{pasts_from}
use Rattle.serde_json.specs.Read.{read}
use Rattle.event_texts.specs.EventText.{event_text}
use Rattle.event_laws.specs.AsRead.{as_read}
use Rattle.event_laws.specs.GroupValues.{event_value}

-- By the reader's definition of JSON, of plays of all groups of a valid set.
abbrev pub EventsAreRead : Type 0
EventsAreRead = (p : Parts) (hs : List (List Entry)) → IsValid p → ArePlays p hs
    → read (event_text (pasts_from p 0 hs)) ≡ Some (as_read (event_value (pasts_from p 0 hs)))
