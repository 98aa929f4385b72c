use Rattle.std.proofs.lemmas.Result.{on_ok_weaker}
use Rattle.event_lines.specs.TrackEvents.{some_group}
use Rattle.event_lines.proofs.Spans.{away-put, there-told}
use Rattle.event_lines.proofs.task_spans.put_span.Goals as goal

pub returns-in-Away : goal.returns-in-Away
returns-in-Away c = away-put (some_group c.args.set.now) c.args.thread.now.process c.args.thread.now.number c.args.span.now c.args.text.now.items c.in-Away.is

pub returns-in_default : goal.returns-in_default
returns-in_default c =
    on_ok_weaker c.put_there.result
    (there-told (some_group c.args.set.now) c.args.thread.now.process c.args.thread.now.number c.args.span.now _ _ c.in_default.not-Away) c.put_there.ensures
