use Rattle.std.proofs.Common.{◌∙◌, ℕ, ap, map, sym}
use Rattle.rt_model.specs.Group.{Group}
use Rattle.rt_model.specs.Histories.{past_of}
use Rattle.rt_plays.specs.Plays.{group_with}
use Rattle.event_lines.specs.Shown.{group_tracks_shown}
use Rattle.event_lines.specs.TracksOf.{tracks_of}
use Rattle.view_events.proofs.TextTracks.{tracks-more}
use Rattle.view_events.proofs.keeper.TrackKeeperKeeperRecording.close.Goals as goal

pub tracks_of-requires : goal.tracks_of-requires
tracks_of-requires c = record {
  setup = sym (ap (λ (g : Group). g.setup) c.requires.has_played.0);
  recorded = (_, c.requires.has_played.1);
}

pub returns : goal.returns
returns c = λ hs es kept count played.
    let p = c.args.setup.now in
    let n : ℕ = c.args._group.0 in
    let past = past_of (group_with p n) es in
    let shown = c.in_ok-tracks.ensures past played.1 ∙ ap (λ (g : Group). tracks_of g past) played.0 in
    ap (map group_tracks_shown) c.in_ok-push.ensures.items ∙ tracks-more p n hs es c.args.self.now.tracks.items c.in_ok-tracks.tracks count shown kept
