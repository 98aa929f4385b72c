use Rattle.event_lines.specs.Shown.{task_track_shown}
use Rattle.event_lines.specs.Tracks.{TaskTrack}
use Rattle.view_events.proofs.Timed.{from-one, with-times, within}
use Rattle.view_events.proofs.tracks.mark.Goals as goal

pub overflow_sub-task : goal.overflow_sub-task
overflow_sub-task c = from-one c.requires.0 c.requires.1 c.args.tasks.now c.args.times.now c.args.clock.0 c.requires.2 c.args.track.now.task.0 c.requires.3

pub bounds-tasks-track : goal.bounds-tasks-track
bounds-tasks-track c = within c.requires.0 c.requires.1 c.args.tasks.now c.args.times.now c.args.clock.0 c.requires.2 c.args.track.now.task.0 c.requires.3

pub marks-requires : goal.marks-requires
marks-requires c = (
  c.requires.0,
  c.requires.1,
  c.args.track.now.task.0,
  with-times c.requires.0 c.requires.1 c.args.tasks.now c.args.times.now c.args.clock.0 c.requires.2 c.args.track.now.task.0 c.requires.3 c.index-tasks-track.result c.index-tasks-track.is,
)

pub returns : goal.returns
returns c = λ g past are there.
    let t = c.args.track.now.task.0 in
    let marked = c.in_ok-track.ensures g past t (with-times g past c.args.tasks.now c.args.times.now c.args.clock.0 are t there c.index-tasks-track.result c.index-tasks-track.is) in
    λ i. let x : TaskTrack = task_track_shown c.args.track.now in record x { jobs = marked i }
