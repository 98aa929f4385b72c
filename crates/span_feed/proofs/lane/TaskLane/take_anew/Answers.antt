use Rattle.std.proofs.Common.{◌∙◌, ap}
use Rattle.event_lines.specs.Shown.{task_track_shown}
use Rattle.span_feed.specs.Lane.{TaskLane, track_to}
use Rattle.span_feed.specs.Spanned.{task_more}
use Rattle.span_feed.proofs.LaneLaws.{held-left, held-still, held-track}
use Rattle.span_feed.proofs.lane.TaskLane.take_anew.Goals as goal

pub returns-clause-row : goal.returns-clause-row
returns-clause-row c = λ g. held-left c.args.known _ c.hold.new.row g _ c.args.row.now c.hold.ensures.held (c.in_ok-take_task_span.ensures.row g)

pub returns-clause-track : goal.returns-clause-track
returns-clause-track c =
    let settled = c.self.view_is ∙ c.settle.ensures in
    let made =
    c.hold.ensures.track ∙ (λ i. record (task_track_shown c.self.inside.track) { spans = c.in_ok-take_task_span.ensures.spans i })
    ∙ ap (λ (l : TaskLane). task_more c.args.from c.args.to c.args.row.now l.track) settled in
    held-track c.args.from c.args.to c.args.row.now (track_to c.args.from c.args.self.now) c.hold.new.self made

pub returns-clause-still : goal.returns-clause-still
returns-clause-still c = held-still c.args.known _ c.hold.new.row c.hold.new.self c.hold.ensures.held
