use Rattle.std.proofs.Common.{◌≡◌, map, All}
use Rattle.rt_model.specs.Group.{Group}
use Rattle.rt_model.specs.Past.{Past}
use Rattle.chart_rows.proofs.Changed.{changed}
use Rattle.event_lines.specs.Shown.{task_track_shown}
use Rattle.view_events.specs.inside.JobMarks.{AreJobsOf, HasTaskOf, with_marks}
use Rattle.view_events.proofs.tracks.mark_all.Given as goal

-- those so far are marked
abbrev pub invariant-loop-track : goal.invariant-loop-track
invariant-loop-track l = (g : Group) (past : Past) → AreJobsOf g past l.tasks l.times l.clock.0 → All (HasTaskOf g) (map task_track_shown l.fn.tracks)
    → map task_track_shown l.tracks ≡ changed (with_marks g past) l.track-index (map task_track_shown l.fn.tracks)
