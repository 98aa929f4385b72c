use Rattle.std.proofs.Common.{◌<◌, length, map, arith}
use Rattle.event_lines.specs.Shown.{task_track_shown}
use Rattle.view_events.specs.inside.JobMarks.{HasTaskOf, with_marks}
use Rattle.view_events.proofs.Marked.{marked-at, marked-more}
use Rattle.view_events.proofs.tracks.mark_all.Goals as goal

pub mark-requires : goal.mark-requires
mark-requires c =
    let g = c.requires.0 in
    let past = c.requires.1 in
    let low : c.loop-track.track-index < length c.loop-track.tracks = omega (arith, c.loop-track-test.true, c.loop-track.auto.tracks) in (
      g,
      past,
      c.requires.2,
      marked-at task_track_shown (with_marks g past) (map task_track_shown c.args.tracks.now) c.loop-track.tracks c.loop-track.track-index c.track-item.result c.track-item.result low
          (c.loop-track.invariant g past c.requires.2 c.requires.3) (HasTaskOf g) c.track-item.is c.requires.3,
    )

pub loop-track-preserved : goal.loop-track-preserved
loop-track-preserved c = λ g past are all.
    let low : c.loop-track.track-index < length c.loop-track.tracks = omega (arith, c.loop-track-test.true, c.loop-track.auto.tracks) in
    let so_far = c.loop-track.invariant g past are all in
    let there = marked-at task_track_shown (with_marks g past) (map task_track_shown c.args.tracks.now) c.loop-track.tracks c.loop-track.track-index c.track-item.result c.track-item.result low so_far (HasTaskOf g) c.track-item.is all in
    marked-more task_track_shown (with_marks g past) (map task_track_shown c.args.tracks.now) c.loop-track.tracks c.loop-track.track-index c.track-item.result c.mark.new.track low so_far c.track-item.is (c.in_ok-mark.ensures g past are there)
