-- What is kept of a group for its spans, as its moves go on.
use Rattle.std.specs.Prelude.{◌≡◌, ℕ, Bool, true, false, nat_le, max, List, length, map, All}
use Rattle.rt_task.specs.Validity.{IsValid}
use Rattle.rt_model.specs.Group.{Group}
use Rattle.rt_model.specs.Past.{Past, now}
use Rattle.chart_rows.specs.Strips.{Strip}
use Rattle.event_lines.specs.Shown.{cpu_track_shown, resv_track_shown}
use Rattle.event_lines.specs.Tracks.{GroupTracks}
use Rattle.span_feed.specs.Begun.{HasBegun, IsShown}
use Rattle.span_feed.specs.Lane.{track_to}
use Rattle.span_feed.specs.Spanned.{HasSpans}
use Rattle.span_feed.specs.Still.{AreKnown, AreRested, AreStill}
use Rattle.span_feed.specs.TickStrips.{tick_strip, ticks_below, turned_strip}
use Rattle.span_feed.specs.declared.feed.SpanFeed.{SpanFeed}
use Rattle.span_feed.specs.declared.lanes.GroupLanes.{GroupLanes}

-- the tracks, where so many ticks are over
abbrev pub tracks_to : ℕ → GroupLanes → GroupTracks
tracks_to n x = record {
  group = x.group.0;
  tasks = map (track_to n) x.tasks.items;
  cpus = map cpu_track_shown x.cpus.items;
  resvs = map resv_track_shown x.resvs.items;
}

module _ (g : Group) where
  -- these ticks are over, and this one goes on; or one is begun of which there is no state yet
  pub record Holds (over : List Strip) (going : Strip) (f : SpanFeed) : Type 0 where
    pub spans : HasSpans g over going f.rows (tracks_to (length over) f.lanes)
    pub shown : All (IsShown f.ready) f.rows.tasks
    pub rested : AreRested f.ready f.lanes.tasks.items f.rows.tasks

  pub record Begins (over : List Strip) (f : SpanFeed) : Type 0 where
    pub column : HasBegun g f.ready over f.rows (tracks_to (length over) f.lanes)
    pub still : AreStill f.ready f.lanes.tasks.items f.rows.tasks

  -- the set is valid, and what is known of tasks is so
  abbrev pub Knows : Past → SpanFeed → Type 0
  Knows past f = IsValid g.setup × AreKnown g past f.ready f.away

  -- the ticks before the newest are over, and that goes on; and the clock is about to be moved to a tick, before which all are over
  abbrev pub IsFed : Past → SpanFeed → Type 0
  IsFed past f = Holds (ticks_below past (now past)) (tick_strip past (now past)) f × Knows past f

  abbrev pub HasTurned : Bool → ℕ → Past → SpanFeed → Type 0
  HasTurned true tick past f = Holds (ticks_below past (max (now past) tick)) (turned_strip tick past) f
  HasTurned false tick past f = Begins (ticks_below past (max (now past) tick)) f

  abbrev pub IsTurned : ℕ → Past → SpanFeed → Type 0
  IsTurned tick past f = HasTurned (nat_le tick (now past)) tick past f × (f.begun ≡ nat_le tick (now past)) × Knows past f
